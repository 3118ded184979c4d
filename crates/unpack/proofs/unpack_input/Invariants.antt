use Rattle.unpack.proofs.TurnLaws.{distance}
use Rattle.unpack.proofs.LoopLaws.{Looping}
use Rattle.unpack.proofs.unpack_input.Given as goal

abbrev pub invariant-loop-turn : goal.invariant-loop-turn
invariant-loop-turn g l = Looping l.initial.room l.buf l.room l.unpacker l.window

abbrev pub decreases-loop-turn : goal.decreases-loop-turn
decreases-loop-turn g l = distance l.unpacker l.window
