use native.Mathlib.Omega.{arith}
use mathlib.Core.Path.{◌≡◌}
use lib.ListN.{length}
use Rattle.text.proofs.HexLaws.{hexed_more, hexed_all, length_line}
use Rattle.text.proofs.messages.write_line.Goals as goal

pub loop-i-preserved : goal.loop-i-preserved
loop-i-preserved c = hexed_more _ _ _ _ c.requires c.loop-i.invariant c.loop-i-test.true _ _ c.form_digit.ensures c.form_digit-in-loop-i.ensures

pub returns : goal.returns
returns c =
    let all : c.loop-i.i ≡ length c.args.message.now = omega arith in
    record { end = omega (arith, length_line c.args.message.now); room = hexed_all _ _ _ c.requires (rw all at c.loop-i.invariant) }
