use native.Mathlib.Omega.{arith}
use Rattle.text.proofs.DecimalLaws.{spaced_most}
use Rattle.text.proofs.WriteLaws.{cause_most, fault_written}
use Rattle.text.proofs.verdict.write_fault.Goals as goal

pub write_number-end-requires : goal.write_number-end-requires
write_number-end-requires c = let number = c.number_cause-number in
    omega (arith, cause_most c.args.cause number.result number.ensures, c.write_number-middle.ensures.end)

pub write_word-requires : goal.write_word-requires
write_word-requires c = let number = c.number_cause-number in
    let few = cause_most c.args.cause number.result number.ensures in
    let many = spaced_most c.args.place in
    omega (arith, c.write_number-middle.ensures.end, c.write_number-end.ensures.end)

pub returns : goal.returns
returns c = let number = c.number_cause-number in
    let w =
    fault_written c.args.room.now c.args.at c.args.cause c.args.place number.result _ _ _ _ _ _
    number.ensures c.requires
    (c.write_number-middle.ensures.end, c.write_number-middle.ensures.room)
    (c.write_number-end.ensures.end, c.write_number-end.ensures.room)
    (c.write_word.ensures.end, c.write_word.ensures.room) in record { end = w.end; room = w.room }
