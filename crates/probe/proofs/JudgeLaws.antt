-- The code of a judging by the reader's answer. Assumes nothing.
use Prim.Native.Nat.{ℕ, ◌+◌, ◌*◌, ◌<◌}
use mathlib.Core.Path.{◌≡◌, sym, ap, ◌∙◌}
use mathlib.Core.List.{List, []}
use native.Mathlib.Omega.{arith}
use Rattle.cause.specs.Causes.{cause_number}
use Rattle.cause.specs.declared.Cause.{Cause}
use Rattle.cause.proofs.CauseLaws.{number_most}
use Rattle.container.specs.declared.grant.Grant.{Grant}
use Rattle.reader.specs.Reading.{reader_with, judging}
use Rattle.reader.specs.declared.reader.Reader.{Reader}
use Rattle.reader.specs.declared.reader.Judged.{Judged}
use Rattle.reader.specs.declared.reader.JudgeAnswer.TheVariants.{Accepted, Refused}
use Rattle.reader.proofs.PlaceLaws.{judged_place}
use Rattle.probe.specs.Judge.{code_of, judge_code}

-- the judging from a fresh state
module _ (f : ℕ) (c : List ℕ) (o : Reader) (eo : o ≡ reader_with f []) (r : Judged) (er : r ≡ judging o c) where
  same : r.answer ≡ (judging (reader_with f []) c).answer
  same = ap (λ (x : Judged). x.answer) (er ∙ ap (λ (x : Reader). judging x c) eo)

  pub accepted_code : (g : Grant) (w : ℕ) → r.answer ≡ Accepted g w → 0 ≡ judge_code f c
  unfolding judge_code
  accepted_code g w e = ap code_of (sym e ∙ same)

  pub refused_code : (k : Cause) (p x : ℕ) → r.answer ≡ Refused k p → x ≡ cause_number k → x * 65_536 + p ≡ judge_code f c
  unfolding judge_code
  refused_code k p x e ex = ap (λ (y : ℕ). y * 65_536 + p) ex ∙ ap code_of (sym e ∙ same)

  -- the place and the number are small
  pub refused_small : (k : Cause) (p x : ℕ) → r.answer ≡ Refused k p → x ≡ cause_number k → (p < 12) × (x < 256)
  refused_small k p x e ex =
      let m = number_most k in
      (judged_place (reader_with f []) c k p (sym same ∙ e), omega arith)
