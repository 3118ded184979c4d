use mathlib.Core.Path.{sym, ◌∙◌}
use Rattle.cause.proofs.GivenLaws.{given_fault}
use Rattle.host.proofs.FeedLaws.{fault_small, refused_code}
use Rattle.host.proofs.feed.c2c_feed.Goals as goal

pub encode_answer-requires : goal.encode_answer-requires
encode_answer-requires c = fault_small c.args.format c.args.feed.now c.args.responses.now c.args.others.now c.args.room.now _ (given_fault _ _ (sym c.ask.ensures.code ∙ c.in-Err.is))

pub returns-in-Err-clause-code : goal.returns-in-Err-clause-code
returns-in-Err-clause-code c = c.encode_answer.ensures ∙ refused_code c.args.format c.args.feed.now c.args.responses.now c.args.others.now c.args.room.now _ (given_fault _ _ (sym c.ask.ensures.code ∙ c.in-Err.is))
