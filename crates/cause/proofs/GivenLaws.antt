-- A value that is given where a verdict is an acceptance: refused and accepted as the verdict is. Assumes nothing.
use Prim.Native.Nat.{ℕ}
use mathlib.Core.Path.{◌≡◌, refl, sym, ap, ◌∙◌}
use mathlib.Core.Logic.{◌↔◌}
use native.Mathlib.Omega.{arith}
use Rattle.std.specs.Prelude.{Result, Ok, Err}
use Rattle.cause.specs.Checks.{Verdict, Accepted, Refused, given}
use Rattle.cause.specs.declared.Cause.{Cause}
use Rattle.cause.specs.declared.Fault.{Fault}

module _ {A : Type 0} (a : A) where
  -- the verdict behind what is given
  behind : Result A Fault → Verdict
  behind (Ok _) = Accepted
  behind (Err fault) = Err fault

  behind_given : (v : Verdict) → behind (given v a) ≡ v
  unfolding behind
  behind_given (Ok _) = refl
  behind_given (Err fault) = refl

  pub given_refused : (v : Verdict) (k : Cause) (p : ℕ) → (given v a ≡ Err (record { cause = k; place = p })) ↔ (v ≡ Refused k p)
  unfolding behind
  given_refused v k p = (λ e. sym (behind_given v) ∙ ap behind e, λ e. ap (λ (x : Verdict). given x a) e)

  pub given_accepted : (v : Verdict) → (given v a ≡ Ok a) ↔ (v ≡ Accepted)
  unfolding behind
  given_accepted v = (λ e. sym (behind_given v) ∙ ap behind e, λ e. ap (λ (x : Verdict). given x a) e)

  -- what names the verdict's fault names that of what is given, and what says that there is none says so too
  pub refused_as : (v : Verdict) (k : Cause) (p : ℕ) {P : Type 0} → (v ≡ Refused k p) ↔ P → (given v a ≡ Err (record { cause = k; place = p })) ↔ P
  refused_as v k p h = let g = given_refused v k p in (λ e. h.0 (g.0 e), λ x. g.1 (h.1 x))

  pub accepted_as : (v : Verdict) {P : Type 0} → (v ≡ Accepted) ↔ P → (given v a ≡ Ok a) ↔ P
  accepted_as v h = let g = given_accepted v in (λ e. h.0 (g.0 e), λ x. g.1 (h.1 x))

pub given_fault : {A : Type 0} (v : Verdict) (a : A) {fault : Fault} → given v a ≡ Err fault → v ≡ Err fault
given_fault v a {fault} e = (given_refused a v fault.cause fault.place).0 e

pub given_fine : {A : Type 0} (v : Verdict) (a : A) {b : A} → given v a ≡ Ok b → (v ≡ Accepted) × (b ≡ a)
given_fine (Ok _) a e = (refl, cc)
given_fine (Err fault) a e = let z : ◌≡◌ {A = ℕ} 0 1 = cc in absurd (omega arith)

-- and back: the fault of a verdict, and what is given where it is sound
pub fault_given : {v : Verdict} {fault : Fault} → v ≡ Err fault → {A : Type 0} (a : A) → Err fault ≡ given v a
fault_given h a = rw h

pub fine_given : {v : Verdict} → v ≡ Accepted → {A : Type 0} (a : A) → Ok a ≡ given v a
fine_given h a = rw h
