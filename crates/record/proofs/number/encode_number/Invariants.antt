use Rattle.record.proofs.EncodeLaws.{Encoding}
use Rattle.record.proofs.number.encode_number.Given as goal

abbrev pub invariant-loop-rest : goal.invariant-loop-rest
invariant-loop-rest l = Encoding l.value l.bytes l.rest l.len

abbrev pub decreases-loop-rest : goal.decreases-loop-rest
decreases-loop-rest l = l.rest
