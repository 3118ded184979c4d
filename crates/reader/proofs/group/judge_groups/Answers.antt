use mathlib.Core.Path.{sym, ◌∙◌}
use native.Mathlib.Omega.{arith}
use Rattle.reader.proofs.FaultLaws.{handed_on}
use Rattle.reader.proofs.MarkLaws.{groups_stop, groups_go_on, groups_end}
use Rattle.reader.proofs.group.judge_groups.Goals as goal

pub returns-in_err-judge_group : goal.returns-in_err-judge_group
returns-in_err-judge_group c = handed_on c.from_residual.ensures.1 (groups_stop c.args.marks c.loop-q.q c.loop-q-test.true c.loop-q.invariant.1 c.in_err-judge_group.ensures)

pub loop-q-preserved : goal.loop-q-preserved
loop-q-preserved c = (omega arith, groups_go_on c.args.marks c.loop-q.q c.loop-q-test.true c.loop-q.invariant.1 c.in_ok-judge_group.ensures)

pub returns : goal.returns
returns c = sym (c.loop-q.invariant.1 ∙ groups_end _ _ c.loop-q-test.false)
