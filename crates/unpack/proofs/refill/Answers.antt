use borrow.Author.Rules.{rules}
use Rattle.unpack.proofs.RefillLaws.{refill_got}
use Rattle.unpack.proofs.refill.Goals as goal

pub returns-in-Got : goal.returns-in-Got
returns-in-Got g c =
    refill_got c.args.buf.now c.read_more.new.buf c.args.at c.args.have c.requires _ c.in-Got.n (search rules) c.frame.ensures
