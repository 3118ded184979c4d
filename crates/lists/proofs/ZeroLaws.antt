-- The test that all bytes are zero: along a list, at each byte, and by the sum of the bytes. Assumes nothing.
use Prim.Native.Nat.{ℕ, zero, suc, ◌+◌, ◌<◌}
use mathlib.Core.Path.{◌≡◌, refl, sym, ap, ◌∙◌}
use mathlib.Core.Bool.{true, ◌&&◌}
use mathlib.Core.List.{List, [], ◌∷◌, ◌++◌}
use native.Mathlib.Omega.{arith}
use native.Mathlib.Numerals.{add-one}
use borrow.Author.Tests.{eq-eqb, eqb-true}
use lib.ListN.{length, get_or, take, drop, replicate, take-append-drop}
use lib.Seq.{take-suc}
use lib.Dec.{eqb}
use Rattle.lists.specs.Parts.{zeros, sum}
use Rattle.lists.proofs.Tests.{and_left, and_right, and_assoc, same_test}

-- along a list
pub zeros_append : (a b : List ℕ) → zeros (a ++ b) ≡ (zeros a && zeros b)
zeros_append [] b = refl
zeros_append (x ∷ a) b = rw (zeros_append a b) (sym (and_assoc (eqb x 0) (zeros a) (zeros b)))

pub zeros_split : (n : ℕ) (l : List ℕ) → zeros l ≡ (zeros (take n l) && zeros (drop n l))
zeros_split n l = ap zeros (sym (take-append-drop n l)) ∙ zeros_append (take n l) (drop n l)

pub zeros_replicate : (n : ℕ) → zeros (replicate n 0) ≡ true
zeros_replicate zero = refl
zeros_replicate (suc n) = zeros_replicate n

-- at each byte
pub zeros_at : (l : List ℕ) → zeros l ≡ true → (i : ℕ) → get_or l i 0 ≡ 0
zeros_at [] e i = refl
zeros_at (b ∷ l) e zero = eqb-true b 0 (and_left (eqb b 0) (zeros l) e)
zeros_at (b ∷ l) e (suc i) = zeros_at l (and_right (eqb b 0) (zeros l) e) i

pub at_zeros : (l : List ℕ) → ((i : ℕ) → get_or l i 0 ≡ 0) → zeros l ≡ true
at_zeros [] h = refl
at_zeros (b ∷ l) h = rw (eq-eqb b 0 (h 0)) (at_zeros l (λ i. h (suc i)))

-- by the sum
sum_append : (a b : List ℕ) → sum (a ++ b) ≡ sum a + sum b
sum_append [] b = omega arith
sum_append (x ∷ a) b = let h = sum_append a b in omega arith

-- one byte more
pub sum_more : (l : List ℕ) (i : ℕ) → i < length l → sum (take (i + 1) l) ≡ sum (take i l) + get_or l i 0
sum_more l i h = rw (add-one i, take-suc l i 0 h, sum_append (take i l) (get_or l i 0 ∷ [])) (omega arith)

zero_sum : (l : List ℕ) → sum l ≡ 0 → zeros l ≡ true
zero_sum [] e = refl
zero_sum (b ∷ l) e = let h : b ≡ 0 = omega arith in let k : sum l ≡ 0 = omega arith in rw (eq-eqb b 0 h) (zero_sum l k)

sum_zero : (l : List ℕ) → zeros l ≡ true → sum l ≡ 0
sum_zero [] e = refl
sum_zero (b ∷ l) e =
    let h : b ≡ 0 = eqb-true b 0 (and_left (eqb b 0) (zeros l) e) in
    let k : sum l ≡ 0 = sum_zero l (and_right (eqb b 0) (zeros l) e) in
    omega arith

-- all bytes are zero exactly where their sum is
pub zeros_sum : (l : List ℕ) → eqb (sum l) 0 ≡ zeros l
zeros_sum l =
    same_test (eqb (sum l) 0) (zeros l) (λ e. zero_sum l (eqb-true (sum l) 0 e)) (λ e. eq-eqb (sum l) 0 (sum_zero l e))
