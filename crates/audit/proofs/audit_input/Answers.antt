use native.Mathlib.Omega.{arith}
use Rattle.audit.proofs.LoopLaws.{between_start, few_left, between_more, measure_less, judged}
use Rattle.audit.proofs.audit_input.Goals as goal

pub loop-turn-init : goal.loop-turn-init
loop-turn-init g c = between_start _ _ c.fresh-reader.ensures

pub take_turn-requires : goal.take_turn-requires
take_turn-requires g c =
    let loop = c.loop-turn in
    (loop.invariant.order, loop.invariant.within, few_left _ _ _ _ loop.invariant, omega arith)

pub returns-in-Some : goal.returns-in-Some
returns-in-Some g c =
    let loop = c.loop-turn in
    judged loop.buf loop.reader loop.at loop.have loop.invariant c.take_turn.new.buf c.in_ok-turn.turn c.in_ok-turn.ensures
    c.in-Some.verdict c.in-Some.is

pub loop-turn-smaller : goal.loop-turn-smaller
loop-turn-smaller g c =
    let loop = c.loop-turn in
    measure_less loop.buf loop.reader loop.at loop.have loop.invariant c.take_turn.new.buf c.in_ok-turn.turn c.in_ok-turn.ensures
    c.in_default.is

pub loop-turn-preserved : goal.loop-turn-preserved
loop-turn-preserved g c =
    let loop = c.loop-turn in
    between_more loop.buf loop.reader loop.at loop.have loop.invariant c.take_turn.new.buf c.in_ok-turn.turn c.in_ok-turn.ensures
    c.in_default.is
