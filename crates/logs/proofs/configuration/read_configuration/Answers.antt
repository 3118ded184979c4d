use mathlib.Core.Path.{refl, sym, ap, ◌∙◌}
use Rattle.std.specs.Prelude.{None, Err}
use native.Mathlib.Omega.{arith}
use Rattle.logs.specs.Log.{configuration_of}
use Rattle.logs.proofs.ConfigurationLaws.{loop_broken, loop_wrong, loop_takes, loop_on, configuration_ends}
use Rattle.logs.proofs.configuration.read_configuration.Goals as goal

pub returns-in_default : goal.returns-in_default
returns-in_default c =
    ap Err c.at.ensures
    ∙ ap configuration_of (sym (loop_broken _ _ _ _ c.loop-i.invariant c.loop-i-test.true None c.in_default.ensures refl))

pub returns-then-not-suits_place : goal.returns-then-not-suits_place
returns-then-not-suits_place c =
    ap Err c.at-then-not-suits_place.ensures
    ∙ ap configuration_of (sym (loop_wrong _ _ _ _ c.loop-i.invariant c.loop-i-test.true c.read_number.result c.read_number.ensures _ _ c.in-Some.is
    (sym c.suits_place.ensures ∙ c.if-not-suits_place.true)))

pub overflow_add-at : goal.overflow_add-at
overflow_add-at c = omega (arith, (loop_takes _ _ _ _ c.loop-i.invariant c.loop-i-test.true c.read_number.result c.read_number.ensures _ _ c.in-Some.is).1)

pub loop-i-preserved : goal.loop-i-preserved
loop-i-preserved c = loop_on _ _ _ _ c.loop-i.invariant c.loop-i-test.true c.read_number.result c.read_number.ensures _ _ c.in-Some.is
    (sym c.suits_place.ensures ∙ c.if-not-suits_place.false)

pub returns : goal.returns
returns c = ap configuration_of (sym (configuration_ends _ _ _ _ c.loop-i.invariant c.loop-i-test.false))
