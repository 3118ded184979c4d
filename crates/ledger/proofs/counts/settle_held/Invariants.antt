use Prim.Native.Nat.{◌-◌, ◌≤◌}
use mathlib.Core.Path.{◌≡◌}
use Rattle.ledger.proofs.CountLaws.{settled_to}
use Rattle.ledger.proofs.counts.settle_held.Given as goal

abbrev pub invariant-loop-p : goal.invariant-loop-p
invariant-loop-p l = (l.p ≤ 14) × (l.next ≡ settled_to l.direction l.held l.begun l.granted l.p)

abbrev pub decreases-loop-p : goal.decreases-loop-p
decreases-loop-p l = 14 - l.p
