use Rattle.reader.proofs.FaultLaws.{handed_on}
use mathlib.Core.Path.{ap, ◌∙◌}
use Rattle.std.specs.Prelude.{Err}
use Rattle.reader.proofs.JudgeLaws.{groups_fail, beside, without_counts, without_activation}
use Rattle.reader.proofs.contents.Contents.judge_marks.Goals.{else-has_counts-via-then-has_counts+else-has_activation, else-has_counts-via-else-has_counts}
use Rattle.reader.proofs.contents.Contents.judge_marks.Goals as goal

pub returns-in_err-judge_groups : goal.returns-in_err-judge_groups
returns-in_err-judge_groups c = handed_on c.from_residual.ensures.1 (groups_fail c.args.self.grant c.args.marks c.in_err-judge_groups.ensures)

pub returns-then-has_activation : goal.returns-then-has_activation
returns-then-has_activation c = ap Err c.at.ensures ∙ beside c.args.self.grant c.args.marks c.in_ok-judge_groups.ensures c.has_counts.ensures c.has_activation.ensures c.if-has_counts.true c.if-has_activation.true

pub returns : goal.returns
returns c = elim c.else-has_counts.branch [
  | else-has_counts-via-then-has_counts+else-has_activation w ↦ without_activation c.args.self.grant c.args.marks c.in_ok-judge_groups.ensures c.has_counts.ensures w.has_activation.ensures w.if-has_activation.false
  | else-has_counts-via-else-has_counts w ↦ without_counts c.args.self.grant c.args.marks c.in_ok-judge_groups.ensures c.has_counts.ensures w.if-has_counts.false
]
