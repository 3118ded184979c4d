use mathlib.Core.Path.{sym, ap, ◌∙◌}
use native.Mathlib.Omega.{arith}
use Rattle.cause.proofs.CauseLaws.{number_most}
use Rattle.reader.specs.declared.reader.Step.{Step}
use Rattle.reader.proofs.PlaceLaws.{refused_place}
use Rattle.host.proofs.check.c2c_check.Goals as goal

pub overflow_add-result : goal.overflow_add-result
overflow_add-result c =
    let low = refused_place _ _ _ _ _ (ap (λ (s : Step). s.answer) (sym c.read.ensures.step) ∙ c.in-Refused.is) in
    omega (arith, number_most c.in-Refused.cause, c.number_cause.ensures)
