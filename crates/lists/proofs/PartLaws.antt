-- Parts of a list, as code takes and lends them, and a part put in place. Assumes nothing.
use Prim.Native.Nat.{ℕ, zero, suc, ◌+◌, ◌-◌, ◌≤◌, ◌<◌}
use mathlib.Core.Path.{◌≡◌, refl, sym, ap, ◌∙◌, subst}
use mathlib.Core.List.{List, [], ◌∷◌, ◌++◌, append-nil}
use mathlib.Core.Logic.{⊎_elim}
use native.Mathlib.Omega.{arith}
use native.Mathlib.Nat.{zero-add}
use borrow.Rule.Slice.PartMut.{put_mid}
use lib.ListN.{get_or, length, take, drop, set, replicate, length-append, length-drop, length-take, length-replicate, length-set, get_or-append, get_or-eq_default, drop_of_length-le}
use lib.Seq.{take_all, take_at, drop_at, length-take-le, drop-drop, get_or-take, get_or-drop, ext_get_or, get_or-append-add, get_or-set_other, take-append-le, drop-append-le}
use Rattle.lists.specs.Parts.{part, put, pad, IsBytes}
use Rattle.lists.proofs.Order.{lt_or_le}

pub length_zero : (l : List ℕ) → length l ≡ 0 → l ≡ []
length_zero [] e = refl
length_zero (x ∷ l) e = absurd (omega arith)

-- what `&s[at..]` has, and how long it is
pub rest_is : {A : Type 0} (s : List A) (at : ℕ) → take (length s - at) (drop at s) ≡ drop at s
rest_is s at = take_all (length s - at) (drop at s) (omega (arith, length-drop at s))

-- what stands behind an offset of a list of bytes is bytes
pub bytes_drop : (l : List ℕ) (at : ℕ) → IsBytes l → IsBytes (drop at l)
bytes_drop l at h i = rw (get_or-drop at l i 0) (h (at + i))

-- element i of a part, 0 where the list has none
pub part_at : (s n : ℕ) (c : List ℕ) (i : ℕ) → i < n → get_or (part s n c) i 0 ≡ get_or c (s + i) 0
part_at s n c i k = get_or-take n (drop s c) i 0 k ∙ get_or-drop s c i 0

pub part_most : (s n : ℕ) (c : List ℕ) → length (part s n c) ≤ n
part_most s n c = rw (length-take n (drop s c)) (omega arith)

module _ (s n : ℕ) (c : List ℕ) (h : s + n ≤ length c) where
  pub length_part : length (part s n c) ≡ n
  length_part = length-take-le n (drop s c) (rw (length-drop s c) (omega arith))

  pub get_d_part : (i : ℕ) → i < n → get_or (part s n c) i 0 ≡ get_or c (s + i) 0
  get_d_part i k = part_at s n c i k

-- a part of what stands before z
pub part_append : (m z : List ℕ) (s n : ℕ) → s + n ≤ length m → part s n (m ++ z) ≡ part s n m
part_append m z s n h =
    let a : s ≤ length m = omega arith in
    let b : n ≤ length (drop s m) = rw length-drop (omega arith) in
    rw (drop-append-le s m z, take-append-le n (drop s m) z)

-- two lists that agree from s on, n places
pub part_same : (s n : ℕ) (c d : List ℕ) → s + n ≤ length c → length c ≡ length d → ((i : ℕ) → s ≤ i → i < s + n → get_or c i 0 ≡ get_or d i 0) → part s n c ≡ part s n d
part_same s n c d h e same =
    let k : s + n ≤ length d = omega arith in
    ext_get_or 0 (part s n c) (part s n d) (length_part s n c h ∙ sym (length_part s n d k)) (λ i b. at i (rw (length_part s n c h) at b))
  where
    at : (i : ℕ) → i < n → get_or (part s n c) i 0 ≡ get_or (part s n d) i 0
    at i b = get_d_part s n c h i b ∙ same (s + i) (omega arith) (omega arith) ∙ sym (get_d_part s n d (omega arith) i b)

module _ (s : ℕ) (x c : List ℕ) (h : s + length x ≤ length c) where
  front : length (take s c) ≡ s
  front = length-take-le s c (omega arith)

  pub part_put : part s (length x) (put s x c) ≡ x
  part_put = rw (drop_at (take s c) (x ++ drop (s + length x) c) s front) (take_at x (drop (s + length x) c) (length x) refl)

  pub length_put : length (put s x c) ≡ length c
  length_put = simp (length-append, length-drop, front) (omega arith)

  pub get_d_put_low : (i : ℕ) → i < s → get_or (put s x c) i 0 ≡ get_or c i 0
  get_d_put_low i k = get_or-append (take s c) (x ++ drop (s + length x) c) 0 i (rw front k) ∙ get_or-take s c i 0 k

  pub get_d_put_high : (i : ℕ) → s + length x ≤ i → get_or (put s x c) i 0 ≡ get_or c i 0
  get_d_put_high i k =
      let j = i - (s + length x) in
      let e : i ≡ s + (length x + j) = omega arith in
      let a : get_or (put s x c) (s + (length x + j)) 0 ≡ get_or (drop (s + length x) c) j 0 =
      subst (λ (p : ℕ). get_or (put s x c) (p + (length x + j)) 0 ≡ get_or (drop (s + length x) c) j 0) front
      (get_or-append-add (take s c) (x ++ drop (s + length x) c) (length x + j) 0 ∙ get_or-append-add x (drop (s + length x) c) j 0) in
      let b : (s + length x) + j ≡ i = omega arith in
      ap (λ (p : ℕ). get_or (put s x c) p 0) e ∙ a ∙ get_or-drop (s + length x) c j 0 ∙ ap (λ (p : ℕ). get_or c p 0) b

  pub part_put_below : (t n : ℕ) → t + n ≤ s → part t n (put s x c) ≡ part t n c
  part_put_below t n k = part_same t n (put s x c) c (rw length_put (omega arith)) length_put (λ i a b. get_d_put_low i (omega arith))

pub part_set : (t n p v : ℕ) (c : List ℕ) → t + n ≤ length c → ((i : ℕ) → t ≤ i → i < t + n → i ≡ p → ⊥) → part t n (set c p v) ≡ part t n c
part_set t n p v c h d = part_same t n (set c p v) c (rw (length-set c p v) h) (length-set c p v) (λ i a b. get_or-set_other c p i v 0 (d i a b))

-- a part that starts at a, written at its front, is the whole written at a
pub put_part : (a : ℕ) (x c : List ℕ) → take a c ++ put 0 x (drop a c) ≡ put a x c
put_part a x c = let z : 0 + length x ≡ length x = zero-add (length x) in rw (z, drop-drop (length x) a c)

-- what comes back of a lent `&mut c[a..]` whose front became x
pub put_mid_is_put : (a k : ℕ) (x c d : List ℕ) → a ≤ length c → k ≡ length c - a → d ≡ put 0 x (take k (drop a c)) → put_mid a k c d ≡ put a x c
put_mid_is_put a k x c d h ek ed =
    let t : take k (drop a c) ≡ drop a c = take_all k (drop a c) (rw (length-drop a c) (omega arith)) in
    let n : drop k (drop a c) ≡ [] = drop_of_length-le (drop a c) {i = k} (rw (length-drop a c) (omega arith)) in
    let e : d ≡ put 0 x (drop a c) = rw t at ed in
    rw (n, append-nil d, e) (put_part a x c)

-- what comes back of a lent `&mut c[a..a + k]` that became d
pub put_middle : (a k : ℕ) (c d : List ℕ) → length d ≡ k → put_mid a k c d ≡ put a d c
put_middle a k c d e = ap (λ (r : List ℕ). take a c ++ (d ++ r)) (drop-drop k a c ∙ ap (λ (n : ℕ). drop (a + n) c) (sym e))

-- zeros behind
pub length_pad : (n : ℕ) (x : List ℕ) → length x ≤ n → length (pad n x) ≡ n
length_pad n x h = simp (length-append, length-replicate) (omega arith)

get_d_zeros : (k i : ℕ) → ◌≡◌ {A = ℕ} (get_or (replicate k 0) i 0) 0
get_d_zeros zero i = refl
get_d_zeros (suc k) zero = refl
get_d_zeros (suc k) (suc i) = get_d_zeros k i

pub get_d_pad : (n : ℕ) (x : List ℕ) (i : ℕ) → get_or (pad n x) i 0 ≡ get_or x i 0
get_d_pad n x i =
    ⊎_elim (λ (t : i < length x). get_or-append x (replicate (n - length x) 0) 0 i t) behind (lt_or_le i (length x))
  where
    behind : length x ≤ i → get_or (pad n x) i 0 ≡ get_or x i 0
    behind h =
        let e : length x + (i - length x) ≡ i = omega arith in
        subst (λ (j : ℕ). get_or (pad n x) j 0 ≡ 0) e (get_or-append-add x (replicate (n - length x) 0) (i - length x) 0 ∙ get_d_zeros (n - length x) (i - length x))
        ∙ sym (get_or-eq_default x 0 {n = i} h)

-- zeros behind n bytes are none
pub pad_whole : (n : ℕ) (x : List ℕ) → length x ≡ n → pad n x ≡ x
pad_whole n x e = let z : n - length x ≡ 0 = omega arith in rw z (append-nil x)
