use native.Mathlib.Omega.{arith}
use lib.ListN.{length-take}
use Rattle.text.proofs.DecimalLaws.{fewest_most}
use Rattle.text.proofs.WriteLaws.{number_written}
use Rattle.text.proofs.verdict.write_number.Goals as goal

pub write_word-requires : goal.write_word-requires
write_word-requires c = let digits = c.decimal-n in
    let few = fewest_most c.args.value digits.result c.ranges.value.fits digits.ensures.len in
    omega (arith, length-take digits.result digits.new.out, c.write_word-behind.ensures.end)

pub returns : goal.returns
returns c = let digits = c.decimal-n in
    let w =
    number_written c.args.room.now c.args.at c.args.value _ _ _ _ _ _ c.ranges.value.fits
    digits.ensures.len digits.ensures.digits c.requires
    (c.write_word-behind.ensures.end, c.write_word-behind.ensures.room) (c.write_word.ensures.end, c.write_word.ensures.room) in record { end = w.end; room = w.room }
