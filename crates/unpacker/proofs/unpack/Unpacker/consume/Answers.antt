use mathlib.Core.Path.{sym, ◌∙◌}
use Rattle.unpacker.proofs.RoomLaws.{called_front}
use Rattle.unpacker.proofs.StateLaws.{valid_running, turn_bad, turn_new, turn_running}
use Rattle.unpacker.proofs.TurnLaws.{over_as}
use Rattle.unpacker.proofs.unpack.Unpacker.consume.Goals as goal

pub returns-then-not-is_valid : goal.returns-then-not-is_valid
returns-then-not-is_valid c = let part = c.in-Some.ensures.cases in
    let bad = turn_bad _ _ _ (sym c.is_valid.ensures ∙ c.if-not-is_valid.true) in
    let both = called_front _ _ _ c.args.room.now _ _ _ part.enough part.same _ (sym (over_as _ _ _ _ c.at-then-not-is_valid.ensures (sym bad))) (c.conclude.ensures.call, c.conclude.ensures.room) in
    record { call = both.0; room = both.1 }

pub returns-then-self-eq0 : goal.returns-then-self-eq0
returns-then-self-eq0 c = let part = c.in-Some.ensures.cases in
    let new = turn_new _ _ _ (sym c.is_valid.ensures ∙ c.if-not-is_valid.false) c.if-self-eq0.true in
    let both = called_front _ _ _ c.args.room.now _ _ _ part.enough part.same _ new (c.begin.ensures.call, c.begin.ensures.room) in
    record { call = both.0; room = both.1 }

pub read_next-requires : goal.read_next-requires
read_next-requires c = valid_running _ c.if-self-eq0.false (sym c.is_valid.ensures ∙ c.if-not-is_valid.false)

pub returns : goal.returns
returns c = let part = c.in-Some.ensures.cases in
    let runs = turn_running _ _ _ (valid_running _ c.if-self-eq0.false (sym c.is_valid.ensures ∙ c.if-not-is_valid.false)) in
    let both = called_front _ _ _ c.args.room.now _ _ _ part.enough part.same _ runs (c.read_next.ensures.call, c.read_next.ensures.room) in
    record { call = both.0; room = both.1 }
