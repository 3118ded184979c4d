use Prim.Native.Nat.{◌-◌, ◌≤◌}
use mathlib.Core.Path.{◌≡◌}
use mathlib.Core.List.{[]}
use lib.ListN.{get_or}
use Rattle.ledger.specs.CountingMirror.{rows_ok}
use Rattle.ledger.proofs.counts.keeps_counts.Given as goal

abbrev pub invariant-loop-p : goal.invariant-loop-p
invariant-loop-p l = (l.p ≤ 14)
    × (rows_ok (get_or l.held l.direction []) (get_or l.opened l.direction []) l.paid l.capacities 14 0
    ≡ rows_ok (get_or l.held l.direction []) (get_or l.opened l.direction []) l.paid l.capacities (14 - l.p) l.p)

abbrev pub decreases-loop-p : goal.decreases-loop-p
decreases-loop-p l = 14 - l.p
