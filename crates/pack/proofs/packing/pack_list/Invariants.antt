use Prim.Native.Nat.{◌-◌, ◌*◌}
use Rattle.pack.specs.Packing.{most_containers}
use Rattle.pack.proofs.Fills.{Packed}
use Rattle.pack.proofs.packing.pack_list.Given as goal

abbrev pub invariant-loop-i : goal.invariant-loop-i
invariant-loop-i l = Packed l.initial.writer.format l.list l.initial.room l.room l.writer l.at (256 * l.i)

abbrev pub decreases-loop-i : goal.decreases-loop-i
decreases-loop-i l = most_containers - l.i
