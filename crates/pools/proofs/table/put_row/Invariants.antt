use Prim.Native.Nat.{◌-◌, ◌≤◌}
use Rattle.slices.proofs.CopyLaws.{Copying}
use Rattle.pools.proofs.table.put_row.Given as goal

abbrev pub invariant-loop-i : goal.invariant-loop-i
invariant-loop-i l = (l.i ≤ 14) × Copying l.initial.table l.start l.row l.table l.i

abbrev pub decreases-loop-i : goal.decreases-loop-i
decreases-loop-i l = 14 - l.i
