-- A list d of which the first i elements have become those of a list t: what a loop that stores one element of t a turn has made of d.
-- Assumes nothing.
use mathlib.Core.Path.{◌≡◌, refl, ap, ◌∙◌}
use mathlib.Core.List.{List, [], ◌∷◌, ◌++◌, append-nil}
use Prim.Native.Nat.{ℕ, zero, suc, ◌+◌, ◌-◌, ◌<◌, ◌≤◌}
use native.Mathlib.Nat.{not-suc-le-zero, le_of_suc-le-suc, zero-add}
use native.Mathlib.Numerals.{add-one}
use native.Mathlib.Omega.{arith}
use lib.ListN.{length, set, take, drop, get_or, replicate, length-set, drop_of_length-le}
use lib.Seq.{take-append_seam, take_all}
use Rattle.lists.specs.Parts.{put, pad}

module _ {A : Type 0} where
  abbrev pub grown : List A → List A → ℕ → List A
  grown t d i = take i t ++ drop i d

  grown_suc : (t d : List A) (i : ℕ) (z : A) → i < length t → i < length d → set (grown t d i) i (get_or t i z) ≡ grown t d (suc i)
  grown_suc [] d i z p q = absurd (not-suc-le-zero p)
  grown_suc (a ∷ t) [] i z p q = absurd (not-suc-le-zero q)
  grown_suc (a ∷ t) (b ∷ d) zero z p q = refl
  grown_suc (a ∷ t) (b ∷ d) (suc i) z p q = ap (λ (l : List A). a ∷ l) (grown_suc t d i z (le_of_suc-le-suc p) (le_of_suc-le-suc q))

  -- one more store, at the code's i + 1
  pub grown_more : (t d : List A) (i : ℕ) (z : A) → i < length t → i < length d → set (grown t d i) i (get_or t i z) ≡ grown t d (i + 1)
  grown_more t d i z p q = rw (add-one i) (grown_suc t d i z p q)

  -- all of them
  pub grown_all : (t d : List A) (i : ℕ) → length t ≡ length d → length d ≤ i → grown t d i ≡ t
  grown_all [] [] zero e h = refl
  grown_all [] [] (suc i) e h = refl
  grown_all [] (b ∷ d) i e h = absurd (omega arith)
  grown_all (a ∷ t) [] i e h = absurd (omega arith)
  grown_all (a ∷ t) (b ∷ d) zero e h = absurd (omega arith)
  grown_all (a ∷ t) (b ∷ d) (suc i) e h = ap (λ (l : List A). a ∷ l) (grown_all t d i (omega arith) (omega arith))

drop_zeros : (k n : ℕ) → drop {A = ℕ} k (replicate n 0) ≡ replicate (n - k) 0
drop_zeros zero n = let e : n - 0 ≡ n = omega arith in rw e
drop_zeros (suc k) zero = let e : 0 - suc k ≡ 0 = omega arith in rw e
drop_zeros (suc k) (suc n) = let e : suc n - suc k ≡ n - k = omega arith in rw e (drop_zeros k n)

-- zeros whose front has become x are x with zeros behind
pub grown_pad : (n : ℕ) (x : List ℕ) → grown (pad n x) (replicate n 0) (length x) ≡ pad n x
grown_pad n x = rw (take-append_seam x (replicate (n - length x) 0), drop_zeros (length x) n)

-- zeros with x put at their front are x with zeros behind
pub put_zeros : (n : ℕ) (x : List ℕ) → put 0 x (replicate n 0) ≡ pad n x
put_zeros n x = rw (zero-add (length x), drop_zeros (length x) n)

-- a whole list put in place of another is that list
pub put_whole : (x d : List ℕ) → length x ≡ length d → put 0 x d ≡ x
put_whole x d e = rw (zero-add (length x), drop_of_length-le d {i = length x} (omega arith)) (append-nil x)

-- d is d₀ with the first i bytes of t at its front
pub record Copied (t d₀ d : List ℕ) (i : ℕ) : Type 0 where
  pub within : i ≤ length t
  pub is : d ≡ grown t d₀ i
  pub long : length d ≡ length d₀

pub copied_none : (t d : List ℕ) → Copied t d d 0
copied_none t d = record { within = omega arith; is = refl; long = refl }

module _ (t d₀ d : List ℕ) (i : ℕ) (h : Copied t d₀ d i) where
  pub copied_more : length t ≤ length d₀ → i < length t → (b : ℕ) → b ≡ get_or t i 0 → Copied t d₀ (set d i b) (i + 1)
  copied_more room l b e =
      record {
        within = omega arith;
        is = rw (h.is, e) (grown_more t d₀ i 0 l (omega arith));
        long = length-set d i b ∙ h.long;
      }

  pub copied_all : length t ≤ i → d ≡ put 0 t d₀
  copied_all l =
      let n : i ≡ length t = omega arith in
      h.is ∙ rw (zero-add (length t), n, take_all (length t) t (omega arith))
