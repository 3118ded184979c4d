-- From faults by cause to faults by number: two families that have the same fault wherever nothing comes before it name the same. Assumes
-- nothing.
use Prim.Native.Nat.{ℕ, zero, suc, ◌<◌}
use mathlib.Core.Path.{◌≡◌, refl, subst}
use mathlib.Core.Logic.{⊎_elim, ◌↔◌}
use native.Mathlib.Omega.{arith}
use Rattle.lists.proofs.Order.{lt_or_le}
use Rattle.cause.specs.Causes.{cause_number}
use Rattle.cause.specs.declared.Cause.{Cause}
use Rattle.cause.proofs.CauseLaws.{same_number}
use Rattle.cause.proofs.FirstLaws as first
use Rattle.cause.proofs.FirstLaws.{First}
use Rattle.cause.specs.Order.{rank, Named, None}

-- the rank of a cause
abbrev pub turn_of : Cause → ℕ → ℕ
turn_of k p = rank (cause_number k) p

-- a family by number and place, with its ranks
abbrev pub Numbered : (ℕ → ℕ → Type 0) → ℕ → ℕ → ℕ → Type 0
Numbered F r j p = (rank j p ≡ r) × F j p

-- no fault of a family by rank, cause and place has a rank below r
abbrev pub Clean : (ℕ → Cause → ℕ → Type 0) → ℕ → Type 0
Clean R r = (s : ℕ) (k : Cause) (p : ℕ) → R s k p → s < r → ⊥

-- faults by rank, cause and place, and by rank, number and place, that are the same where nothing comes before them
pub record Same (R : ℕ → Cause → ℕ → Type 0) (S : ℕ → ℕ → ℕ → Type 0) : Type 0 where
  pub forth : (r : ℕ) (k : Cause) (p : ℕ) → R r k p → Clean R r → S r (cause_number k) p
  pub back : (r j p : ℕ) → S r j p → Clean R r → (k : Cause) × (cause_number k ≡ j) × R r k p

module _ {R : ℕ → Cause → ℕ → Type 0} {S : ℕ → ℕ → ℕ → Type 0} (same : Same R S) where
  -- where none of the one family comes before a rank, none of the other does
  none_before : (n : ℕ) → ((r j p : ℕ) → S r j p → r < n → ⊥) → Clean R n
  none_before zero h r k p x l = omega arith
  none_before (suc n) h r k p x l =
      let ih = none_before n (λ s j q y b. h s j q y (omega arith)) in
      ⊎_elim (λ (b : r < n). ih r k p x b)
      (λ b. let e : r ≡ n = omega arith in h r (cause_number k) p (same.forth r k p x (λ s i q y z. ih s i q y (omega arith))) l)
      (lt_or_le r n)

  abbrev FirstOf : Cause → ℕ → Type 0
  FirstOf k p = (r : ℕ) × S r (cause_number k) p × ((s j q : ℕ) → S s j q → s < r → ⊥)

  first_numbered : (k : Cause) (p : ℕ) → First R k p ↔ FirstOf k p
  first_numbered k p = (to, from)
    where
      to : First R k p → FirstOf k p
      to w = (w.0, same.forth w.0 k p w.1 w.2, λ s j q y b. let z = same.back s j q y (λ u i a x l. w.2 u i a x (omega arith)) in w.2 s z.0 q z.2 b)

      from : FirstOf k p → First R k p
      from w =
          let clean = none_before w.0 w.2 in
          let z = same.back w.0 (cause_number k) p w.1 clean in
          (w.0, subst (λ (i : Cause). R w.0 i p) (same_number z.0 k z.1) z.2, clean)

  none_numbered : first.None R ↔ ((r j p : ℕ) → S r j p → ⊥)
  none_numbered = (
    λ n r j p y. let z = same.back r j p y (λ s k q x l. n s k q x) in n r z.0 p z.2,
    λ n r k p x. none_before (suc r) (λ s j q y b. n s j q y) r k p x (omega arith),
  )

-- the fault that is named
module _ {R : ℕ → Cause → ℕ → Type 0} {F : ℕ → ℕ → Type 0} (same : Same R (Numbered F)) where
  pub first_named : (k : Cause) (p : ℕ) → First R k p ↔ Named F k p
  first_named k p = (
    λ w. let f = (first_numbered same k p).0 w in (f.1.1, λ j q y l. let e = f.1.0 in f.2 (rank j q) j q (refl, y) (omega arith)),
    λ w. (first_numbered same k p).1 (rank (cause_number k) p, (refl, w.0), λ s j q y l. let e = y.0 in w.1 j q y.1 (omega arith)),
  )

  pub none_named : first.None R ↔ None F
  none_named = (λ n j q y. (none_numbered same).0 n (rank j q) j q (refl, y), λ n. (none_numbered same).1 (λ r j p y. n j p y.1))
