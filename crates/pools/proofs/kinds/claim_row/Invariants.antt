use Prim.Native.Nat.{◌-◌, ◌≤◌}
use mathlib.Core.Path.{◌≡◌}
use Rattle.pools.proofs.kinds.claim_row.Given as goal

abbrev pub invariant-loop-p : goal.invariant-loop-p
invariant-loop-p l = (l.p ≤ 14) × (l.slots ≡ l.credits)

abbrev pub decreases-loop-p : goal.decreases-loop-p
decreases-loop-p l = 14 - l.p
