use native.Mathlib.Omega.{arith}
use Rattle.record.proofs.EncodeLaws.{encoding_starts, encoding_more, encoding_last}
use Rattle.record.proofs.number.encode_number.Goals as goal

pub loop-rest-init : goal.loop-rest-init
loop-rest-init c = encoding_starts _ (omega arith)

pub loop-rest-preserved : goal.loop-rest-preserved
loop-rest-preserved c = encoding_more _ _ _ _ c.loop-rest.invariant c.loop-rest-test.true

pub returns : goal.returns
returns c = encoding_last _ _ _ _ c.loop-rest.invariant c.loop-rest-test.false
