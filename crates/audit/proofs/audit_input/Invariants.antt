use Rattle.audit.proofs.LoopLaws.{Between, measure}
use Rattle.audit.proofs.audit_input.Given as goal

abbrev pub invariant-loop-turn : goal.invariant-loop-turn
invariant-loop-turn g l = Between l.buf l.reader l.at l.have

abbrev pub decreases-loop-turn : goal.decreases-loop-turn
decreases-loop-turn g l = measure l.reader l.at l.have
