-- The test that all bytes are zero, by numbers that are zero exactly where some of the bytes are. Assumes nothing.
use Prim.Native.Nat.{ℕ, zero, suc, ◌+◌, ◌-◌, ◌*◌, ◌^◌, ◌≤◌, ◌<◌}
use mathlib.Core.Path.{◌≡◌, refl, sym, ap, ◌∙◌}
use mathlib.Core.Bool.{true, ◌&&◌, and-true}
use mathlib.Core.List.{List}
use native.Mathlib.Omega.{arith}
use native.Mathlib.Nat.{mul-le-mul_right, mul-zero, mul_comm, one-le-pow}
use lib.ListN.{length, get_or, take, drop, length-drop}
use lib.Seq.{drop-drop, drop-cons, take-add, take_all}
use lib.Dec.{eqb}
use lib.Bits.{bit_or, or_add_and, and_le_l, and_le_r}
use borrow.Author.Tests.{eq-eqb, eqb-true}
use Rattle.std.specs.Int.{sum_through, byte_worth}
use Rattle.lists.specs.Parts.{part, zeros}
use Rattle.lists.proofs.Tests.{and_left, and_right, and_both, same_test}
use Rattle.lists.proofs.ZeroLaws.{zeros_split, zeros_append}

-- a number that is zero exactly where two others are
both_zero : (r s z : ℕ) → (z ≡ 0 → (r ≡ 0) × (s ≡ 0)) → (r ≡ 0 → s ≡ 0 → z ≡ 0) → eqb z 0 ≡ (eqb r 0 && eqb s 0)
both_zero r s z apart together =
    same_test (eqb z 0) (eqb r 0 && eqb s 0)
    (λ e. let p = apart (eqb-true z 0 e) in and_both (eqb r 0) (eqb s 0) (eq-eqb r 0 p.0) (eq-eqb s 0 p.1))
    (λ e. eq-eqb z 0 (together (eqb-true r 0 (and_left (eqb r 0) (eqb s 0) e)) (eqb-true s 0 (and_right (eqb r 0) (eqb s 0) e))))

-- two numbers, the second by a weight
pub weighted_zero : (w r s : ℕ) → 0 < w → eqb (r + w * s) 0 ≡ (eqb r 0 && eqb s 0)
weighted_zero w r s h =
    let more : 1 * s ≤ w * s = mul-le-mul_right s h in
    both_zero r s (r + w * s) (λ e. (omega arith, omega arith)) (λ e f. rw (e, f, mul-zero w) refl)

-- two numbers merged by `or`
pub or_zero : (r s : ℕ) → eqb (bit_or r s) 0 ≡ (eqb r 0 && eqb s 0)
or_zero r s =
    let whole = or_add_and r s in
    let below = and_le_l r s in
    let above = and_le_r r s in
    both_zero r s (bit_or r s) (λ e. (omega arith, omega arith)) (λ e f. omega arith)

-- bytes that stand one behind the other
pub joined_zero : (l : List ℕ) (at n k r s z : ℕ) → eqb r 0 ≡ zeros (part at n l) → eqb s 0 ≡ zeros (part (at + n) k l)
    → eqb z 0 ≡ (eqb r 0 && eqb s 0) → eqb z 0 ≡ zeros (part at (n + k) l)
joined_zero l at n k r s z er es ez =
    ez ∙ rw (er, es, ← drop-drop n at l) (sym (ap zeros (take-add n k (drop at l)) ∙ zeros_append (take n (drop at l)) (take k (drop n (drop at l)))))

-- a byte
pub byte_zero : (l : List ℕ) (at : ℕ) → at < length l → eqb (get_or l at 0) 0 ≡ zeros (part at 1 l)
byte_zero l at h = rw (drop-cons l at 0 h) (sym (and-true (eqb (get_or l at 0) 0)))

-- the first k + 1 bytes as one number, the lowest first, each of the others by its weight
spelled_zero : (l : List ℕ) (k : ℕ) → k < length l → eqb (sum_through (λ i. byte_worth i (get_or l i 0)) k) 0 ≡ zeros (part 0 (k + 1) l)
spelled_zero l zero h = byte_zero l 0 h
spelled_zero l (suc k) h =
    let low = sum_through (λ i. byte_worth i (get_or l i 0)) k in
    let b = get_or l (suc k) 0 in
    let w = 256 ^ suc k in
    let next : suc k ≡ 0 + (k + 1) = omega arith in
    let size : k + 1 + 1 ≡ suc k + 1 = omega arith in
    let top : eqb b 0 ≡ zeros (part (0 + (k + 1)) 1 l) = byte_zero l (suc k) h ∙ ap (λ (n : ℕ). zeros (part n 1 l)) next in
    let both : eqb (low + b * w) 0 ≡ (eqb low 0 && eqb b 0) = rw (mul_comm b w) (weighted_zero w low b (one-le-pow (suc k) 256 (omega arith))) in
    joined_zero l 0 (k + 1) 1 low b (low + b * w) (spelled_zero l k (omega arith)) top both ∙ ap (λ (n : ℕ). zeros (part 0 n l)) size

-- the bytes of a list as one number
pub number_zero : (l : List ℕ) (k z : ℕ) → length l ≡ k + 1 → z ≡ sum_through (λ i. byte_worth i (get_or l i 0)) k → eqb z 0 ≡ zeros l
number_zero l k z n e = rw e (spelled_zero l k (omega arith) ∙ ap zeros (take_all (k + 1) l (omega arith)))

-- the bytes before an offset and those behind it
zeros_take : (l : List ℕ) (k : ℕ) → zeros l ≡ true → zeros (take k l) ≡ true
zeros_take l k e = and_left (zeros (take k l)) (zeros (drop k l)) (sym (zeros_split k l) ∙ e)

zeros_drop : (l : List ℕ) (k : ℕ) → zeros l ≡ true → zeros (drop k l) ≡ true
zeros_drop l k e = and_right (zeros (take k l)) (zeros (drop k l)) (sym (zeros_split k l) ∙ e)

-- the first i bytes and those from a on, where none lies between them
zeros_overlap : (l : List ℕ) (a i : ℕ) → a ≤ i → zeros l ≡ (zeros (take i l) && zeros (drop a l))
zeros_overlap l a i h =
    same_test (zeros l) (zeros (take i l) && zeros (drop a l))
    (λ e. and_both (zeros (take i l)) (zeros (drop a l)) (zeros_take l i e) (zeros_drop l a e))
    (λ e. zeros_split i l
    ∙ and_both (zeros (take i l)) (zeros (drop i l)) (and_left (zeros (take i l)) (zeros (drop a l)) e)
    (ap zeros behind ∙ zeros_drop (drop a l) (i - a) (and_right (zeros (take i l)) (zeros (drop a l)) e)))
  where
    behind : drop i l ≡ drop (i - a) (drop a l)
    behind = let n : a + (i - a) ≡ i = omega arith in sym (drop-drop (i - a) a l ∙ ap (λ (k : ℕ). drop k l) n)

-- the first i bytes and the last n, where none lies between them
pub ends_zero : (l : List ℕ) (i n r s : ℕ) → n ≤ length l → length l - n ≤ i → eqb r 0 ≡ zeros (part 0 i l) → eqb s 0 ≡ zeros (part (length l - n) n l)
    → eqb (bit_or r s) 0 ≡ zeros l
ends_zero l i n r s h k er es = or_zero r s ∙ rw (er, es, rest) (sym (zeros_overlap l (length l - n) i k))
  where
    rest : take n (drop (length l - n) l) ≡ drop (length l - n) l
    rest = take_all n (drop (length l - n) l) (rw (length-drop (length l - n) l) (omega arith))
