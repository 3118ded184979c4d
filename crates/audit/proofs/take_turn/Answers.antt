use Prim.Native.Nat.{◌-◌}
use mathlib.Core.Path.{sym}
use native.Mathlib.Omega.{arith}
use borrow.Author.Rules.{rules}
use Rattle.lists.proofs.PartLaws.{length_part}
use Rattle.audit.proofs.WindowLaws.{turned_got, turned_end}
use Rattle.audit.proofs.take_turn.Goals as goal

pub returns-in-Got : goal.returns-in-Got
returns-in-Got g c = turned_got _ _ c.args.buf.now c.read_more.new.buf _ c.in-Got.n (search rules) c.judge_bytes.ensures

pub returns-in-End : goal.returns-in-End
returns-in-End g c =
    let long = length_part c.args.at (c.args.have - c.args.at) c.args.buf.now (omega arith) in
    turned_end _ _ c.args.buf.now c.read_more.new.buf _ (c.args.have - c.args.at) (search rules) (sym long) c.judge_bytes-in-End.ensures
