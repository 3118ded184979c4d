-- A verdict that is 19 where a test fails names what a table gives. Assumes nothing.
use Prim.Native.Nat.{ℕ, ◌≤◌}
use mathlib.Core.Path.{◌≡◌, sym, ap, ◌∙◌, subst}
use mathlib.Core.Bool.{Bool, true, false}
use mathlib.Core.Logic.{⊎_elim, ◌↔◌}
use native.Mathlib.Omega.{arith}
use Rattle.lists.specs.Pick.{pick}
use Rattle.lists.proofs.Tests.{cases, not_true_false}
use Rattle.cause.specs.Causes.{cause_number}
use Rattle.cause.specs.declared.Cause.{Cause}
use Rattle.cause.specs.declared.Cause.TheVariants.{InvalidState}
use Rattle.cause.proofs.CauseLaws.{same_number}
use Rattle.cause.proofs.FaultLaws.{refused_by, refused_at}
use Rattle.cause.specs.Order.{rank, Named, None}
use Rattle.cause.specs.Checks.{Verdict, Accepted, Refused}

-- 19 at place 0 where a test fails
abbrev pub verdict_of : Bool → Verdict
verdict_of b = pick b Accepted (Refused InvalidState 0)

module _ (b : Bool) (F : ℕ → ℕ → Type 0) (to : b ≡ false → F 19 0) (from : (j q : ℕ) → F j q → (j ≡ 19) × (q ≡ 0) × (b ≡ false)) where
  failing : (k : Cause) (p : ℕ) → verdict_of b ≡ Refused k p → b ≡ false
  failing k p e = not_true_false b (λ t. clash (rw t at e))
    where
      clash : Accepted ≡ Refused k p → ⊥
      clash f = let z : ◌≡◌ {A = ℕ} 0 1 = cc in omega arith

  pub verdict_refused : (k : Cause) (p : ℕ) → (verdict_of b ≡ Refused k p) ↔ Named F k p
  verdict_refused k p = (named, refused)
    where
      named : verdict_of b ≡ Refused k p → Named F k p
      named e = same (rw (failing k p e) at e)
        where
          least : (j q : ℕ) → F j q → 1 ≤ rank j q
          least j q f = let w = from j q f in let r : rank j q ≡ rank 19 0 = ap (λ (i : ℕ). rank i q) w.0 ∙ ap (rank 19) w.1 in omega arith

          same : Refused InvalidState 0 ≡ Refused k p → Named F k p
          same f =
              let x = refused_by _ _ _ _ f in
              let y = refused_at _ _ _ _ f in
              subst (λ (i : Cause). Named F i p) x (subst (Named F InvalidState) y (to (failing k p e), λ j q g l. let z = least j q g in omega arith))

      refused : Named F k p → verdict_of b ≡ Refused k p
      refused w =
          let f = from (cause_number k) p w.0 in
          let x = same_number InvalidState k (sym f.0) in
          rw f.2 (ap (λ (i : Cause). Refused i 0) x ∙ ap (Refused k) (sym f.1))

  pub verdict_accepted : (verdict_of b ≡ Accepted) ↔ None F
  verdict_accepted = (
    λ e j q f. let w = from j q f in clash (rw w.2 at e),
    λ n. ⊎_elim (λ (t : b ≡ true). rw t) (λ (t : b ≡ false). absurd (n 19 0 (to t))) (cases b),
  )
    where
      clash : Refused InvalidState 0 ≡ Accepted → ⊥
      clash f = let z : ◌≡◌ {A = ℕ} 0 1 = cc in omega arith
