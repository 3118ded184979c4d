-- Checks of one cause, one for each number, which is its place: where they pass, where one fails, and their turns. Assumes nothing.
use Prim.Native.Nat.{ℕ, zero, suc, ◌+◌, ◌≤◌, ◌<◌}
use mathlib.Core.Path.{◌≡◌, sym, ap, ◌∙◌, subst}
use mathlib.Core.Bool.{Bool, true, false}
use mathlib.Core.List.{List, [], ◌∷◌}
use mathlib.Core.Logic.{inl, inr, ⊎_elim}
use native.Mathlib.Omega.{arith}
use lib.Dec.{eqb}
use borrow.Author.Tests.{eqb-true, eqb-false}
use Rattle.lists.proofs.Tests.{cases}
use Rattle.cause.specs.Checks.{Check, check, Pass}
use Rattle.cause.specs.declared.Cause.{Cause}
use Rattle.cause.proofs.FirstLaws.{Fails, Rises, rises_from, Sounds}
use Rattle.cause.proofs.NamedLaws.{turn_of}
use Rattle.cause.proofs.RankedLaws.{ranked, fails_as}

-- the checks of k numbers from p on, by the test of one number
pub record Each (checks : ℕ → ℕ → List Check) (test : ℕ → Bool) (a : Cause) : Type 0 where
  pub none : (p : ℕ) → checks 0 p ≡ []
  pub more : (k p : ℕ) → checks (suc k) p ≡ check (test p) a p ∷ checks k (p + 1)

module _ {checks : ℕ → ℕ → List Check} {test : ℕ → Bool} {a : Cause} (s : Each checks test a) where
  -- all of them pass exactly where the test of each number holds
  pub each_passes : (k p : ℕ) → Pass (checks k p) → (i : ℕ) → p ≤ i → i < p + k → test i ≡ true
  each_passes zero p h i l b = absurd (omega arith)
  each_passes (suc k) p h i l b =
      let w = subst Pass (s.more k p) h in
      ⊎_elim (λ (t : eqb i p ≡ true). ap test (eqb-true i p t) ∙ w.0)
      (λ (t : eqb i p ≡ false). let d = eqb-false i p t in each_passes k (p + 1) w.1 i (omega arith) (omega arith))
      (cases (eqb i p))

  pub passes_each : (k p : ℕ) → ((i : ℕ) → p ≤ i → i < p + k → test i ≡ true) → Pass (checks k p)
  passes_each zero p h = subst Pass (sym (s.none p)) tt
  passes_each (suc k) p h = subst Pass (sym (s.more k p)) (h p (omega arith) (omega arith), passes_each k (p + 1) (λ i l b. h i (omega arith) (omega arith)))

  -- a number whose test fails is a check that fails, and a check that fails is a fault where such numbers are
  pub each_fails : (k p i : ℕ) → p ≤ i → i < p + k → test i ≡ false → Fails (turn_of a i) a i (ranked (checks k p))
  each_fails zero p i l b h = absurd (omega arith)
  each_fails (suc k) p i l b h =
      subst (λ (c : List Check). Fails (turn_of a i) a i (ranked c)) (sym (s.more k p))
      (⊎_elim
      (λ (t : eqb i p ≡ true). let e = sym (eqb-true i p t) in inl (ap (turn_of a) e, ap (λ (j : ℕ). check (test j) a j) e ∙ fails_as (test i) a i h))
      (λ (t : eqb i p ≡ false). let d = eqb-false i p t in inr (each_fails k (p + 1) i (omega arith) (omega arith) h))
      (cases (eqb i p)))

  module _ (n : ℕ) where
    pub each_sounds : (R : ℕ → Cause → ℕ → Type 0) → ((i : ℕ) → i < n → test i ≡ false → R (turn_of a i) a i) → (k p : ℕ) → p + k ≤ n → Sounds R (ranked (checks k p))
    each_sounds R h zero p b = subst (λ (c : List Check). Sounds R (ranked c)) (sym (s.none p)) tt
    each_sounds R h (suc k) p b = subst (λ (c : List Check). Sounds R (ranked c)) (sym (s.more k p)) (λ e. h p (omega arith) e, each_sounds R h k (p + 1) (omega arith))

    -- turns that rise with the number
    pub each_rises : (base : ℕ) → ((i : ℕ) → i < n → turn_of a i ≡ base + i) → (k p : ℕ) → p + k ≤ n → Rises (base + p) (ranked (checks k p)) (base + (p + k))
    each_rises base turn zero p b = subst (λ (c : List Check). Rises (base + p) (ranked c) (base + (p + 0))) (sym (s.none p)) (omega arith)
    each_rises base turn (suc k) p b =
        let e : p + suc k ≡ p + 1 + k = omega arith in
        let t = turn p (omega arith) in
        subst (λ (c : List Check). Rises (base + p) (ranked c) (base + (p + suc k))) (sym (s.more k p))
        (omega arith, rises_from (suc (turn_of a p)) (base + (p + 1)) (ranked (checks k (p + 1))) (base + (p + suc k)) (omega arith) (rw e (each_rises base turn k (p + 1) (omega arith))))
