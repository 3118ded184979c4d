use borrow.Author.Rules.{rules}
use lib.ListN.{length}
use mathlib.Core.Path.{◌≡◌}
use Rattle.unpack.proofs.LoopLaws.{turn_named, looping_first, looping_less, looping_more, looping_over}
use Rattle.unpack.proofs.unpack_input.Goals as goal

pub loop-turn-init : goal.loop-turn-init
loop-turn-init g c = looping_first _ _ _ _ c.requires.0 c.requires.1 c.fresh-unpacker.ensures c.frame-window.ensures

pub returns-in_default : goal.returns-in_default
returns-in_default g c =
    let named = c.map_err.ensures in
    looping_over _ _ _ _ _ c.loop-turn.invariant _ c.take_turn.new.room c.in_ok-turn.turn
    (turn_named _ _ _ _ _ _ _ _ c.take_turn.ensures.turn named.cases named.variant (search rules)) c.in_default.is

pub loop-turn-smaller : goal.loop-turn-smaller
loop-turn-smaller g c =
    let named = c.map_err.ensures in
    let same : length c.take_turn.new.buf ≡ length c.loop-turn.buf = search rules in
    looping_less _ _ _ _ _ c.loop-turn.invariant _ c.take_turn.new.room c.in_ok-turn.turn
    (turn_named _ _ _ _ _ _ _ _ c.take_turn.ensures.turn named.cases named.variant (search rules)) same c.in-Some.next c.in-Some.is

pub loop-turn-preserved : goal.loop-turn-preserved
loop-turn-preserved g c =
    let named = c.map_err.ensures in
    let same : length c.take_turn.new.buf ≡ length c.loop-turn.buf = search rules in
    let long : length c.take_turn.new.room ≡ length c.loop-turn.room = search rules in
    looping_more _ _ _ _ _ c.loop-turn.invariant _ c.take_turn.new.room c.in_ok-turn.turn
    (turn_named _ _ _ _ _ _ _ _ c.take_turn.ensures.turn named.cases named.variant (search rules)) same c.in-Some.next c.in-Some.is long
