-- A value that is handed out beside a fault too: refused and accepted as the verdict is. Assumes nothing.
use Prim.Native.Nat.{ℕ}
use mathlib.Core.Path.{◌≡◌, refl, sym, ap, ◌∙◌}
use mathlib.Core.Logic.{◌↔◌}
use Rattle.std.specs.Prelude.{Result, Ok, Err}
use Rattle.cause.specs.Checks.{Verdict, Accepted, Refused, handed}
use Rattle.cause.specs.declared.Cause.{Cause}
use Rattle.cause.specs.declared.Fault.{Fault}

module _ {A : Type 0} (a : A) where
  -- the verdict behind what is handed out
  behind : Result A (A × Fault) → Verdict
  behind (Ok _) = Accepted
  behind (Err (_, fault)) = Err fault

  behind_handed : (v : Verdict) → behind (handed v a) ≡ v
  unfolding behind
  behind_handed (Ok _) = refl
  behind_handed (Err fault) = refl

  -- what names the verdict's fault names that beside what is handed out, and what says that there is none says so too
  pub hands_refused : (v : Verdict) (k : Cause) (p : ℕ) {P : Type 0} → (v ≡ Refused k p) ↔ P → (handed v a ≡ Err (a, record { cause = k; place = p })) ↔ P
  unfolding behind
  hands_refused v k p h = (λ e. h.0 (sym (behind_handed v) ∙ ap behind e), λ x. ap (λ (y : Verdict). handed y a) (h.1 x))

  pub hands_accepted : (v : Verdict) {P : Type 0} → (v ≡ Accepted) ↔ P → (handed v a ≡ Ok a) ↔ P
  unfolding behind
  hands_accepted v h = (λ e. h.0 (sym (behind_handed v) ∙ ap behind e), λ x. ap (λ (y : Verdict). handed y a) (h.1 x))
