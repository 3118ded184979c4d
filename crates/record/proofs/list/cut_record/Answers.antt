use native.Mathlib.Omega.{arith}
use Rattle.record.proofs.RecordLaws.{cut_whole, cut_other}
use Rattle.record.proofs.list.cut_record.Goals as goal

pub returns-then-is_message : goal.returns-then-is_message
returns-then-is_message c = cut_whole _ _ _ _ c.in-Some.is (omega arith) _ c.is_message.ensures c.if-is_message.true

pub returns : goal.returns
returns c = cut_other _ _ _ _ c.in-Some.is (omega arith) _ c.is_message.ensures c.if-is_message.false
