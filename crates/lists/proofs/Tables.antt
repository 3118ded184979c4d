-- A rule at each entry of a table, or at each number below a bound, by one computed test. Assumes nothing.
use Prim.Native.Nat.{ℕ, zero, suc, ◌<◌}
use mathlib.Core.Path.{◌≡◌, sym, subst}
use mathlib.Core.Bool.{Bool, true, ◌&&◌}
use mathlib.Core.List.{List, [], ◌∷◌}
use mathlib.Core.Logic.{⊎_elim}
use native.Mathlib.Nat.{not-suc-le-zero, le_of_suc-le-suc, eq-or-lt_of_le}
use lib.ListN.{get_or}
use lib.Dec.{T}
use Rattle.lists.proofs.Tests.{t_left, t_right}

-- the test holds at each entry
abbrev pub every : (ℕ → Bool) → List ℕ → Bool
every p [] = true
every p (x ∷ xs) = p x && every p xs

pub every_at : (p : ℕ → Bool) (l : List ℕ) → T (p 0) → T (every p l) → (i : ℕ) → T (p (get_or l i 0))
every_at p [] z t i = z
every_at p (x ∷ xs) z t zero = t_left (p x) (every p xs) t
every_at p (x ∷ xs) z t (suc i) = every_at p xs z (t_right (p x) (every p xs) t) i

-- the test holds at each number below n
abbrev pub below : ℕ → (ℕ → Bool) → Bool
below zero p = true
below (suc n) p = p n && below n p

pub below_at : (n : ℕ) (p : ℕ → Bool) → T (below n p) → (k : ℕ) → k < n → T (p k)
below_at zero p t k h = absurd (not-suc-le-zero h)
below_at (suc n) p t k h =
    ⊎_elim (λ (e : k ≡ n). subst (λ (j : ℕ). T (p j)) (sym e) (t_left (p n) (below n p) t))
    (λ (l : k < n). below_at n p (t_right (p n) (below n p) t) k l)
    (eq-or-lt_of_le (le_of_suc-le-suc h))
