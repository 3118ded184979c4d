-- A test holds below a number exactly when it holds at each number below it. Assumes nothing.
use Prim.Native.Nat.{ℕ, zero, suc, ◌≤◌, ◌<◌}
use native.Mathlib.Decide.{dec_le}
use native.Mathlib.Omega.{arith}
use mathlib.Core.Path.{◌≡◌, refl}
use mathlib.Core.Bool.{Bool, true}
use lib.Dec.{leb, eqb}
use borrow.Author.Tests.{leb-true, le-leb, eqb-true, eq-eqb}
use Rattle.lists.proofs.Tests.{and_left, and_right, and_both}
use Rattle.history.specs.Audit.{all_below, fits_below, equal_below}

pub below_all : (n : ℕ) (f : ℕ → Bool) → all_below n f ≡ true → (p : ℕ) → p < n → f p ≡ true
below_all zero f h p z = absurd (omega arith)
below_all (suc n) f h p z = go (λ y. below_all n f (and_left (all_below n f) (f n) h) p y) (dec_le n p)
  where
    go : (p < n → f p ≡ true) → Dec (n ≤ p) → f p ≡ true
    go less (yes y) = let e : p ≡ n = omega arith in rw e (and_right (all_below n f) (f n) h)
    go less (no y) = less (omega arith)

pub all_below_law : (n : ℕ) (f : ℕ → Bool) → ((p : ℕ) → p < n → f p ≡ true) → all_below n f ≡ true
all_below_law zero f h = refl
all_below_law (suc n) f h = and_both (all_below n f) (f n) (all_below_law n f (λ p z. h p (omega arith))) (h n (omega arith))

pub below_fits : (n : ℕ) (f g : ℕ → ℕ) → fits_below n f g ≡ true → (p : ℕ) → p < n → f p ≤ g p
below_fits n f g h p z = leb-true (f p) (g p) (below_all n (λ p. leb (f p) (g p)) h p z)

pub fits_below_law : (n : ℕ) (f g : ℕ → ℕ) → ((p : ℕ) → p < n → f p ≤ g p) → fits_below n f g ≡ true
fits_below_law n f g h = all_below_law n (λ p. leb (f p) (g p)) (λ p z. le-leb (f p) (g p) (h p z))

pub below_equal : (n : ℕ) (f g : ℕ → ℕ) → equal_below n f g ≡ true → (p : ℕ) → p < n → f p ≡ g p
below_equal n f g h p z = eqb-true (f p) (g p) (below_all n (λ p. eqb (f p) (g p)) h p z)

pub equal_below_law : (n : ℕ) (f g : ℕ → ℕ) → ((p : ℕ) → p < n → f p ≡ g p) → equal_below n f g ≡ true
equal_below_law n f g h = all_below_law n (λ p. eqb (f p) (g p)) (λ p z. eq-eqb (f p) (g p) (h p z))
