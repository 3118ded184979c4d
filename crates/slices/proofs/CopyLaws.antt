-- A part copied byte by byte into a list from an offset on, and zeros written over a list. Assumes nothing.
use Prim.Native.Nat.{ℕ, ◌+◌, ◌-◌, ◌≤◌, ◌<◌, min}
use mathlib.Core.Path.{◌≡◌, refl, sym, ap, ◌∙◌, subst}
use mathlib.Core.List.{List, ◌++◌}
use native.Mathlib.Omega.{arith}
use lib.ListN.{length, get_or, take, drop, set, replicate}
use lib.ListN.{length-take, length-drop, length-set, length-replicate, take-append-drop}
use lib.Seq.{take_all, get_or-take, take-set-le, drop-set-add}
use Rattle.lists.specs.Parts.{put, pad}
use Rattle.lists.proofs.PartLaws.{put_part}
use Rattle.lists.proofs.Fill.{put_zeros, Copied, copied_none, copied_more, copied_all}

-- l with a part x copied into it from an offset on, as much of it as there is room for
abbrev pub copied_into : ℕ → List ℕ → List ℕ → List ℕ
copied_into at x l = put at (take (length l - at) x) l

-- a part for which there is room is copied whole
pub copied_whole : (at : ℕ) (x l : List ℕ) → at + length x ≤ length l → copied_into at x l ≡ put at x l
copied_whole at x l h = ap (λ (r : List ℕ). put at r l) (take_all (length l - at) x (omega arith))

-- and over zeros it has zeros behind
pub copied_zeros : (n : ℕ) (x : List ℕ) → length x ≤ n → copied_into 0 x (replicate n 0) ≡ pad n x
copied_zeros n x h =
    copied_whole 0 x (replicate n 0) (omega (arith, length-replicate {A = ℕ} n 0)) ∙ put_zeros n x

-- the first i bytes of what there is room for of x stand in d from an offset on, over d₀
pub record Copying (d₀ : List ℕ) (at : ℕ) (x d : List ℕ) (i : ℕ) : Type 0 where
  pub before : take at d ≡ take at d₀
  pub behind : Copied (take (length d₀ - at) x) (drop at d₀) (drop at d) i
  pub long : length d ≡ length d₀

pub copying_none : (d : List ℕ) (at : ℕ) (x : List ℕ) → Copying d at x d 0
copying_none d at x = record { before = refl; behind = copied_none (take (length d - at) x) (drop at d); long = refl }

module _ (d₀ : List ℕ) (at : ℕ) (x d : List ℕ) (i : ℕ) (h : Copying d₀ at x d i) where
  abbrev fitting : List ℕ
  fitting = take (length d₀ - at) x

  fitting_length : length fitting ≡ min (length d₀ - at) (length x)
  fitting_length = length-take (length d₀ - at) x

  -- one byte more
  pub copying_more : i < min (length d₀ - at) (length x) → Copying d₀ at x (set d (at + i) (get_or x i 0)) (i + 1)
  copying_more l =
      let n = fitting_length in
      let k = length-drop at d₀ in
      let b : get_or x i 0 ≡ get_or fitting i 0 = sym (get_or-take (length d₀ - at) x i 0 (omega arith)) in
      record {
        before = take-set-le at d (at + i) (get_or x i 0) (omega arith) ∙ h.before;
        behind = subst (λ (r : List ℕ). Copied fitting (drop at d₀) r (i + 1)) (sym (drop-set-add at d i (get_or x i 0)))
            (copied_more fitting (drop at d₀) (drop at d) i h.behind (omega arith) (omega arith) (get_or x i 0) b);
        long = length-set d (at + i) (get_or x i 0) ∙ h.long;
      }

  -- all bytes
  pub copying_all : min (length d₀ - at) (length x) ≤ i → d ≡ copied_into at x d₀
  copying_all l =
      let n = fitting_length in
      sym (take-append-drop at d) ∙ ap (λ (r : List ℕ). r ++ drop at d) h.before
      ∙ ap (λ (r : List ℕ). take at d₀ ++ r) (copied_all fitting (drop at d₀) (drop at d) i h.behind (omega arith))
      ∙ put_part at fitting d₀
