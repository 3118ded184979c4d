use Prim.Native.Nat.{◌-◌}
use lib.ListN.{length}
use Rattle.pack.proofs.Refills.{Loading}
use Rattle.pack.proofs.read_all.Given as goal

abbrev pub invariant-loop-n : goal.invariant-loop-n
invariant-loop-n g l = Loading l.initial.space l.space l.have

abbrev pub decreases-loop-n : goal.decreases-loop-n
decreases-loop-n g l = length l.initial.space - l.have
