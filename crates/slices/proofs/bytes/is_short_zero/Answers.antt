use mathlib.Core.Path.{ap, ◌∙◌}
use native.Mathlib.Omega.{arith}
use lib.ListN.{take}
use lib.Seq.{take_all}
use Rattle.lists.specs.Parts.{zeros}
use Rattle.lists.proofs.ZeroLaws.{zeros_sum}
use Rattle.slices.proofs.ZeroTest.{ends_zero}
use Rattle.slices.proofs.bytes.is_short_zero.Goals as goal

pub returns-then-part-ge8 : goal.returns-then-part-ge8
returns-then-part-ge8 c = let l = c.args.part.now in
    ends_zero l 8 8 c.join_eight.result c.join_eight-then-part-ge8.result (omega arith) (omega arith) c.join_eight.ensures c.join_eight-then-part-ge8.ensures

pub returns-then-part-ge4 : goal.returns-then-part-ge4
returns-then-part-ge4 c = let l = c.args.part.now in
    ends_zero l 4 4 c.join_four.result c.join_four-then-part-ge4.result (omega arith) (omega arith) c.join_four.ensures c.join_four-then-part-ge4.ensures

pub returns : goal.returns
returns c = let l = c.args.part.now in
    rw c.sum_three.ensures (zeros_sum (take 3 l) ∙ ap zeros (take_all 3 l (omega arith)))
