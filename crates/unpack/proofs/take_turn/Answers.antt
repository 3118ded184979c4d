use borrow.Author.Rules.{rules}
use Rattle.unpack.proofs.TurnLaws.{used_inside, turned, unread}
use Rattle.unpack.proofs.take_turn.Goals as goal

pub overflow_add-at : goal.overflow_add-at
overflow_add-at g c =
    let h = used_inside c.args.unpacker c.args.window c.args.buf.now c.args.room.now c.requires _ c.consume-step.ensures.call in
    search rules

pub follow_call-requires : goal.follow_call-requires
follow_call-requires g c =
    used_inside c.args.unpacker c.args.window c.args.buf.now c.args.room.now c.requires _ c.consume-step.ensures.call

pub returns-in_err-next-clause-turn : goal.returns-in_err-next-clause-turn
returns-in_err-next-clause-turn g c =
    unread c.args.unpacker c.args.window c.args.buf.now c.args.room.now c.requires _ c.consume-step.ensures.call _ _
    c.from_residual.ensures.0 (search rules)

pub returns-clause-turn : goal.returns-clause-turn
returns-clause-turn g c =
    turned c.args.unpacker c.args.window c.args.buf.now c.args.room.now c.requires _ c.consume-step.ensures.call _ _ (search rules)
