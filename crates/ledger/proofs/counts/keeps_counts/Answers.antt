use mathlib.Core.Path.{refl, sym, ◌∙◌}
use native.Mathlib.Omega.{arith}
use Rattle.pools.proofs.PoolLoops.{tests_stop, tests_go_on, tests_end}
use Rattle.ledger.proofs.CountLaws.{row_tests, unpaid, paid_fits}
use mathlib.Core.Path.{ap}
use mathlib.Core.Bool.{not}
use Rattle.ledger.proofs.counts.keeps_counts.Goals as goal

pub returns-then-ne : goal.returns-then-ne
returns-then-ne c = tests_stop (row_tests _ _ _ _) c.loop-p.p c.loop-p-test.true c.loop-p.invariant.1 (unpaid _ _ _ _ c.loop-p.p c.ne.ensures c.if-ne.true) refl

pub returns-then-not-fit_together : goal.returns-then-not-fit_together
returns-then-not-fit_together c = tests_stop (row_tests _ _ _ _) c.loop-p.p c.loop-p-test.true c.loop-p.invariant.1 (paid_fits _ _ _ _ c.loop-p.p c.ne.ensures c.if-ne.false c.fit_together.ensures) (ap not c.if-not-fit_together.true)

pub loop-p-preserved : goal.loop-p-preserved
loop-p-preserved c = (
  omega arith,
  tests_go_on (row_tests _ _ _ _) c.loop-p.p c.loop-p-test.true c.loop-p.invariant.1 (paid_fits _ _ _ _ c.loop-p.p c.ne.ensures c.if-ne.false c.fit_together.ensures) (ap not c.if-not-fit_together.false),
)

pub returns : goal.returns
returns c = tests_end (row_tests _ _ _ _) c.loop-p.p c.loop-p-test.false ∙ sym c.loop-p.invariant.1
