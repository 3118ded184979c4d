use mathlib.Core.Path.{refl, sym, ap, ◌∙◌}
use mathlib.Core.Bool.{not}
use native.Mathlib.Omega.{arith}
use Rattle.pools.specs.Pools.{capacity_ok, capacities_ok}
use Rattle.pools.specs.declared.receiver.Receiver.{Receiver}
use Rattle.pools.proofs.PoolLoops.{Tests, tests_stop, tests_go_on, tests_end}
use Rattle.pools.proofs.receiver.Receiver.keeps_capacities.Goals as goal

-- the capacities, pool by pool
tests : (r : Receiver) → Tests (capacities_ok r) (capacity_ok r)
unfolding capacities_ok
tests r = record { none = λ p. refl; more = λ k p. refl }

pub returns-then-not-keeps_capacity : goal.returns-then-not-keeps_capacity
returns-then-not-keeps_capacity c =
    tests_stop (tests c.args.self) c.loop-pool.pool c.loop-pool-test.true c.loop-pool.invariant.1 c.keeps_capacity.ensures (ap not c.if-not-keeps_capacity.true)

pub loop-pool-preserved : goal.loop-pool-preserved
loop-pool-preserved c = (
  omega arith,
  tests_go_on (tests c.args.self) c.loop-pool.pool c.loop-pool-test.true c.loop-pool.invariant.1 c.keeps_capacity.ensures (ap not c.if-not-keeps_capacity.false),
)

pub returns : goal.returns
returns c = tests_end (tests c.args.self) c.loop-pool.pool c.loop-pool-test.false ∙ sym c.loop-pool.invariant.1
