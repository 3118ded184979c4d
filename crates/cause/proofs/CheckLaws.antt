-- No fault is found exactly where every check passes. Assumes nothing.
use Prim.Native.Nat.{ℕ}
use mathlib.Core.Path.{◌≡◌, refl}
use mathlib.Core.Bool.{true, false}
use mathlib.Core.List.{List, [], ◌∷◌, ◌++◌}
use mathlib.Core.Logic.{⊎_elim, ◌↔◌}
use native.Mathlib.Omega.{arith}
use Rattle.lists.proofs.Tests.{cases}
use Rattle.cause.specs.Checks.{Check, first_fault, Pass, or_else, Verdict, Accepted, Refused}
use Rattle.std.specs.Prelude.{Ok, Err}

pub pass_accepted : (l : List Check) → Pass l → first_fault l ≡ Accepted
pass_accepted [] p = refl
pass_accepted (k ∷ l) p = rw p.0 (pass_accepted l p.1)

pub accepted_pass : (l : List Check) → first_fault l ≡ Accepted → Pass l
accepted_pass [] e = tt
accepted_pass (k ∷ l) e = ⊎_elim (good (λ f. accepted_pass l f)) bad (cases k.passes)
  where
    good : (first_fault l ≡ Accepted → Pass l) → k.passes ≡ true → Pass (k ∷ l)
    good ih t = (t, ih (rw t at e))

    bad : k.passes ≡ false → Pass (k ∷ l)
    bad t = let f : Refused k.cause k.place ≡ Accepted = rw t at e in let z : ◌≡◌ {A = ℕ} 0 1 = cc in absurd (omega arith)

-- no fault ⇔ every check passes
pub no_fault : (l : List Check) → (first_fault l ≡ Accepted) ↔ Pass l
no_fault l = (accepted_pass l, pass_accepted l)

-- checks one list after the other
pub first_append : (a b : List Check) → first_fault (a ++ b) ≡ or_else (first_fault a) (first_fault b)
first_append [] b = refl
first_append (k ∷ l) b =
    ⊎_elim (λ (t : k.passes ≡ true). rw t (first_append l b)) (λ (t : k.passes ≡ false). rw t) (cases k.passes)

-- both verdicts are sound where the second behind the first is
pub both_accepted : (a b : Verdict) → or_else a b ≡ Accepted → (a ≡ Accepted) × (b ≡ Accepted)
both_accepted (Ok _) b e = (refl, e)
both_accepted (Err fault) b e = let z : ◌≡◌ {A = ℕ} 0 1 = cc in absurd (omega arith)

-- two lists of checks pass where both do
pub pass_append : (a b : List Check) → Pass a → Pass b → Pass (a ++ b)
pass_append [] b p q = q
pass_append (k ∷ a) b p q = (p.0, pass_append a b p.1 q)

pub pass_front : (a b : List Check) → Pass (a ++ b) → Pass a
pass_front [] b p = tt
pass_front (k ∷ a) b p = (p.0, pass_front a b p.1)

pub pass_back : (a b : List Check) → Pass (a ++ b) → Pass b
pass_back [] b p = p
pass_back (k ∷ a) b p = pass_back a b p.1
