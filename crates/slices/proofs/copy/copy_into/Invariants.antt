use Rattle.slices.proofs.CopyLaws.{Copying}
use Rattle.slices.proofs.copy.copy_into.Given as goal

abbrev pub invariant-loop-i : goal.invariant-loop-i
invariant-loop-i l = Copying l.initial.out l.at l.part l.out l.i
