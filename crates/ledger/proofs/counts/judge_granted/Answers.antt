use mathlib.Core.Path.{sym, ◌∙◌}
use native.Mathlib.Omega.{arith}
use Rattle.std.specs.Prelude.{Err}
use Rattle.pools.proofs.PoolLoops.{checks_stop, checks_go_on, checks_end}
use Rattle.ledger.proofs.CountLaws.{over_checks}
use mathlib.Core.Path.{ap}
use mathlib.Core.Bool.{not}
use Rattle.ledger.proofs.counts.judge_granted.Goals as goal

pub returns-then-not-fit_together : goal.returns-then-not-fit_together
returns-then-not-fit_together c = ap Err c.at.ensures ∙ checks_stop (over_checks _ _ _ _) c.loop-p.p c.loop-p-test.true c.loop-p.invariant.1 c.fit_together.ensures (ap not c.if-not-fit_together.true)

pub loop-p-preserved : goal.loop-p-preserved
loop-p-preserved c = (
  omega arith,
  checks_go_on (over_checks _ _ _ _) c.loop-p.p c.loop-p-test.true c.loop-p.invariant.1 c.fit_together.ensures (ap not c.if-not-fit_together.false),
)

pub returns : goal.returns
returns c = checks_end (over_checks _ _ _ _) c.loop-p.p c.loop-p-test.false ∙ sym c.loop-p.invariant.1
