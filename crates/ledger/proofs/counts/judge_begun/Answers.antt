use mathlib.Core.Path.{sym, ◌∙◌}
use native.Mathlib.Omega.{arith}
use Rattle.std.specs.Prelude.{Err}
use Rattle.pools.proofs.PoolLoops.{checks_stop, checks_go_on, checks_end}
use Rattle.ledger.proofs.CountLaws.{short_checks}
use mathlib.Core.Path.{ap}
use mathlib.Core.Bool.{not}
use Rattle.ledger.proofs.counts.judge_begun.Goals as goal

pub returns-then-not-cover : goal.returns-then-not-cover
returns-then-not-cover c = ap Err c.at.ensures ∙ checks_stop (short_checks _ _) c.loop-p.p c.loop-p-test.true c.loop-p.invariant.1 c.cover.ensures (ap not c.if-not-cover.true)

pub loop-p-preserved : goal.loop-p-preserved
loop-p-preserved c = (
  omega arith,
  checks_go_on (short_checks _ _) c.loop-p.p c.loop-p-test.true c.loop-p.invariant.1 c.cover.ensures (ap not c.if-not-cover.false),
)

pub returns : goal.returns
returns c = checks_end (short_checks _ _) c.loop-p.p c.loop-p-test.false ∙ sym c.loop-p.invariant.1
