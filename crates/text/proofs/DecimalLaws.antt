-- The digits of a number: they are those that the kit's `decimal` writes, and how many there are. Assumes nothing.
use Prim.Native.Nat.{ℕ, zero, suc, ◌+◌, ◌-◌, ◌/◌, ◌%◌, ◌^◌, ◌≤◌, ◌<◌}
use mathlib.Core.Path.{◌≡◌, refl, sym, ap, subst, ◌∙◌}
use mathlib.Core.Bool.{Bool, cond}
use mathlib.Core.List.{List, [], ◌∷◌, ◌++◌}
use mathlib.Core.Logic.{⊎_elim}
use native.Mathlib.Omega.{arith}
use native.Mathlib.Nat.{pow-suc, pow-le-pow_right, mod-lt, div-lt_iff_lt-mul, le-div_iff_mul-le}
use lib.ListN.{length, length-append}
use borrow.Author.Tests.{lt-ltb, le-ltb}
use Rattle.io.specs.Digits.{hex_digit_ascii, last_digits, IsDigitCount}
use Rattle.lists.specs.Pick.{pick}
use Rattle.lists.proofs.Order.{lt_or_le}
use Rattle.text.specs.Lines.{decimal_by, decimal, spaced}

-- no digits; the last digit alone, or behind the digits of the quotient
decimal_none : (n : ℕ) → decimal_by 0 n ≡ []
unfolding decimal_by
decimal_none n = refl

decimal_small : (k n : ℕ) → n < 10 → decimal_by (suc k) n ≡ (48 + n % 10) ∷ []
unfolding decimal_by
decimal_small k n h = ap (λ (t : Bool). pick t [] (decimal_by k (n / 10)) ++ ((48 + n % 10) ∷ [])) (lt-ltb n 10 h)

decimal_large : (k n : ℕ) → 10 ≤ n → decimal_by (suc k) n ≡ decimal_by k (n / 10) ++ ((48 + n % 10) ∷ [])
unfolding decimal_by
decimal_large k n h = ap (λ (t : Bool). pick t [] (decimal_by k (n / 10)) ++ ((48 + n % 10) ∷ [])) (le-ltb n 10 h)

glyph_digit : (d : ℕ) → d < 10 → 48 + d ≡ hex_digit_ascii d
glyph_digit d h = sym (ap (λ (t : Bool). cond t (48 + d) (87 + d)) (lt-ltb d 10 h))

powers : (i j : ℕ) → i ≤ j → 10 ^ i ≤ 10 ^ j
powers i j h = let p : 0 < 10 = omega arith in pow-le-pow_right p h

-- a number below 10 takes one digit, and a larger one a digit more than its quotient by 10
fewest_small : (k n : ℕ) → n < 10 → IsDigitCount 10 1 n (suc k) → k ≡ 0
fewest_small zero n h f = refl
fewest_small (suc k) n h f =
    let e : suc (suc k) - 1 ≡ suc k = omega arith in
    let a : 10 ^ suc k ≤ n = rw e at (f.2 (omega arith)) in
    let b : 10 ^ 1 ≤ 10 ^ suc k = powers 1 (suc k) (omega arith) in
    absurd (omega arith)

fewest_large : (k n : ℕ) → 10 ≤ n → IsDigitCount 10 1 n (suc k) → IsDigitCount 10 1 (n / 10) k
fewest_large zero n h f = let a : n < 10 = f.1 in absurd (omega arith)
fewest_large (suc k) n h f =
    let p : 0 < 10 = omega arith in
    let e : suc (suc k) - 1 ≡ suc k = omega arith in
    let d : suc k - 1 ≡ k = omega arith in
    let a : 10 ^ suc k ≤ n = rw e at (f.2 (omega arith)) in (
      omega arith,
      (div-lt_iff_lt-mul p).1 (rw (pow-suc 10 (suc k)) at f.1),
      λ more. rw d ((le-div_iff_mul-le p).1 (rw (pow-suc 10 k) at a)),
    )

-- k digits, the fewest that hold n, are the digits of n
same_digits : (k j n : ℕ) → k ≤ j → IsDigitCount 10 1 n k → decimal_by j n ≡ last_digits 10 k n
same_digits zero j n h f = absurd (omega arith)
same_digits (suc k) zero n h f = absurd (omega arith)
same_digits (suc k) (suc j) n h f =
    let last : 48 + n % 10 ≡ hex_digit_ascii (n % 10) = glyph_digit (n % 10) (mod-lt n (omega arith)) in
    ⊎_elim
    (λ (few : n < 10).
    decimal_small j n few
    ∙ ap (λ (d : ℕ). d ∷ []) last
    ∙ ap (λ (i : ℕ). last_digits 10 i (n / 10) ++ (hex_digit_ascii (n % 10) ∷ [])) (sym (fewest_small k n few f)))
    (λ (many : 10 ≤ n).
    decimal_large j n many
    ∙ ap (λ (l : List ℕ). l ++ ((48 + n % 10) ∷ [])) (same_digits k j (n / 10) (omega arith) (fewest_large k n many f))
    ∙ ap (λ (d : ℕ). last_digits 10 k (n / 10) ++ (d ∷ [])) last)
    (lt_or_le n 10)

-- the fewest digits that hold a number of 64 bits are at most 20
pub fewest_most : (n k : ℕ) → n < 2 ^ 64 → IsDigitCount 10 1 n k → k ≤ 20
fewest_most n k h f =
    ⊎_elim
    (λ (l : k < 21). omega arith)
    (λ (m : 21 ≤ k).
    let a : 10 ^ (k - 1) ≤ n = f.2 (omega arith) in
    let b : 10 ^ 20 ≤ 10 ^ (k - 1) = powers 20 (k - 1) (omega arith) in
    absurd (omega arith))
    (lt_or_le k 21)

-- the decimal digits of a number of 64 bits are the kit's
pub decimal_digits : (n k : ℕ) → n < 2 ^ 64 → IsDigitCount 10 1 n k → decimal n ≡ last_digits 10 k n
decimal_digits n k h f = same_digits k 20 n (fewest_most n k h f) f

-- a number has at most 20 digits, and one below 100 at most two
decimal_most : (k n : ℕ) → length (decimal_by k n) ≤ k
decimal_most zero n = subst (λ (l : List ℕ). length l ≤ 0) (sym (decimal_none n)) (omega arith)
decimal_most (suc k) n =
    ⊎_elim
    (λ (few : n < 10). rw (decimal_small k n few) (omega arith))
    (λ (many : 10 ≤ n).
    rw (decimal_large k n many, length-append (decimal_by k (n / 10)) ((48 + n % 10) ∷ [])) (omega (arith, decimal_most k (n / 10))))
    (lt_or_le n 10)

pub spaced_most : (n : ℕ) → length (spaced n) ≤ 21
spaced_most n = omega (arith, decimal_most 20 n)

pub spaced_small : (n : ℕ) → n < 100 → length (spaced n) ≤ 3
spaced_small n h =
    ⊎_elim
    (λ (few : n < 10). rw (decimal_small 19 n few) (omega arith))
    (λ (many : 10 ≤ n).
    rw (decimal_large 19 n many, decimal_small 18 (n / 10) (omega arith)) (omega arith))
    (lt_or_le n 10)
