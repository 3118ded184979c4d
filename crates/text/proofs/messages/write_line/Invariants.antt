use Rattle.text.proofs.HexLaws.{Hexed}
use Rattle.text.proofs.messages.write_line.Given as goal

abbrev pub invariant-loop-i : goal.invariant-loop-i
invariant-loop-i l = Hexed l.message l.initial.room l.room l.i
