use Rattle.std.proofs.Common.{rules}
use Rattle.lists.specs.Parts.{part}
use Rattle.lists.proofs.PartLaws.{length_part}
use Rattle.slices.proofs.ZeroTest.{number_zero}
use Rattle.slices.proofs.bytes.join_eight.Goals as goal

pub returns : goal.returns
returns c = let l = c.args.bytes.now in
    number_zero (part c.args.at 8 l) 7 c.from_le_bytes.result (length_part c.args.at 8 l c.requires) (search rules)
