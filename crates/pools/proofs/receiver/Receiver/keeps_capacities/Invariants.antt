use Prim.Native.Nat.{◌-◌, ◌≤◌}
use mathlib.Core.Path.{◌≡◌}
use Rattle.pools.specs.Pools.{capacities_ok}
use Rattle.pools.proofs.receiver.Receiver.keeps_capacities.Given as goal

abbrev pub invariant-loop-pool : goal.invariant-loop-pool
invariant-loop-pool l = (l.pool ≤ 14) × (capacities_ok l.self 14 0 ≡ capacities_ok l.self (14 - l.pool) l.pool)
