-- The frames of entries by the numbers at their fronts, and what each says. Assumes nothing.
use Prim.Native.Nat.{ℕ, ◌+◌, ◌%◌, ◌≤◌, ◌<◌}
use mathlib.Core.Path.{◌≡◌, refl, sym, ap, subst, ◌∙◌}
use mathlib.Core.Bool.{Bool}
use mathlib.Core.List.{List, ◌++◌}
use native.Mathlib.Omega.{arith}
use lib.ListN.{length, take, drop, length-take, length-drop, length-append, take-append-drop}
use lib.Seq.{drop-drop}
use lib.Dec.{ltb}
use borrow.Author.Tests.{lt-ltb, le-ltb, ltb-true, ltb-false}
use Rattle.lists.specs.Pick.{pick}
use Rattle.lists.specs.Parts.{IsBytes}
use Rattle.lists.proofs.PickLaws.{pick_by}
use Rattle.record.specs.Number.{largest, number, read_number}
use Rattle.record.specs.declared.number.Number.{Number}
use Rattle.record.specs.Number as counted
use Rattle.record.proofs.NumberLaws.{written_read, read_written}
use Rattle.record.proofs.NumberTakes.{number_takes}
use Rattle.frame.specs.Framing.{framed_by, framing}
use Rattle.frame.specs.declared.Framed.{Framed}
use Rattle.frame.specs.declared.Framed.TheVariants.{Broken, Short, Whole}
use Rattle.std.specs.Prelude.{Option, Some, None}

-- ---- the frame by the number

module _ (l : List ℕ) where
  pub frame_broken : read_number l ≡ counted.Broken → framing l ≡ Broken
  unfolding framing
  frame_broken e = ap (framed_by l) e

  module _ (v u : ℕ) (e : read_number l ≡ counted.Value v u) where
    pub frame_short : length l < u + 256 → framing l ≡ Short
    unfolding framing
    frame_short h = ap (framed_by l) e ∙ ap (λ (t : Bool). pick t Short (Whole v (v % 2) u)) (lt-ltb (length l) (u + 256) h)

    pub frame_whole : u + 256 ≤ length l → framing l ≡ Whole v (v % 2) u
    unfolding framing
    frame_whole h = ap (framed_by l) e ∙ ap (λ (t : Bool). pick t Short (Whole v (v % 2) u)) (le-ltb (length l) (u + 256) h)

-- ---- what a frame says

-- what stands at the front of l, by its frame
pub data Front (l : List ℕ) : Framed → Type 0 where
  broken : read_number l ≡ counted.Broken → Front l Broken
  short : (v u : ℕ) → read_number l ≡ counted.Value v u → length l < u + 256 → Front l Short
  whole : (v u : ℕ) → read_number l ≡ counted.Value v u → u + 256 ≤ length l → Front l (Whole v (v % 2) u)

front_by : (l : List ℕ) (r : Option Number) → read_number l ≡ r → Front l (framed_by l r)
front_by l None e = broken e
front_by l (Some number) e =
    pick_by (Front l) (ltb (length l) (number.used + 256)) (λ t. short number.value number.used e (ltb-true (length l) (number.used + 256) t)) (λ t. whole number.value number.used e (ltb-false (length l) (number.used + 256) t))

pub front_of : (l : List ℕ) → Front l (framing l)
unfolding framing
front_of l = front_by l (read_number l) refl

pub front_only : (l : List ℕ) (f : Framed) → Front l f → f ≡ framing l
front_only l f (broken e) = sym (frame_broken l e)
front_only l f (short v u e h) = sym (frame_short l v u e h)
front_only l f (whole v u e h) = sym (frame_whole l v u e h)

-- ---- a whole entry is a number and 256 bytes of the list

pub record Entry (l : List ℕ) (v d u : ℕ) : Type 0 where
  pub read : read_number l ≡ counted.Value v u
  pub direction : d ≡ v % 2
  pub some : 1 ≤ u
  pub few : u ≤ 5
  pub within : u + 256 ≤ length l

entry_by : (l : List ℕ) (v d u : ℕ) {f : Framed} → Front l f → f ≡ Whole v d u → Entry l v d u
entry_by l v d u (broken e) q = absurd (let z : ◌≡◌ {A = ℕ} 0 1 = cc in omega arith)
entry_by l v d u (short x y e h) q = absurd (let z : ◌≡◌ {A = ℕ} 0 1 = cc in omega arith)
entry_by l v d u (whole x y e h) q =
    let number : x ≡ v = cc in
    let parity : x % 2 ≡ d = cc in
    let bytes : y ≡ u = cc in
    let read : read_number l ≡ counted.Value v u = cc in
    let t = number_takes l v u read in
    record {
      read = read;
      direction = sym parity ∙ ap (λ (n : ℕ). n % 2) number;
      some = t.0;
      few = t.1.0;
      within = subst (λ (n : ℕ). n + 256 ≤ length l) bytes h;
    }

pub whole_entry : (l : List ℕ) (v d u : ℕ) → framing l ≡ Whole v d u → Entry l v d u
whole_entry l v d u e = entry_by l v d u (front_of l) e

-- in a list of bytes: the number in its groups, the container, and the rest
pub whole_parts : (l : List ℕ) (v d u : ℕ) → IsBytes l → framing l ≡ Whole v d u
    → (l ≡ number v ++ (take 256 (drop u l) ++ drop (u + 256) l)) × (length (take 256 (drop u l)) ≡ 256)
unfolding number
whole_parts l v d u bytes e =
    let w = whole_entry l v d u e in
    let s = read_written l bytes v u w.read in
    let room = w.within in
    let rest : drop u l ≡ take 256 (drop u l) ++ drop (u + 256) l = sym (take-append-drop 256 (drop u l)) ∙ ap (λ (x : List ℕ). take 256 (drop u l) ++ x) (drop-drop 256 u l) in
    (s.front ∙ ap (λ (x : List ℕ). number v ++ x) rest, simp (length-take, length-drop) (omega arith))

-- what is written so is framed so
pub written_framed : (v : ℕ) (c l : List ℕ) → v ≤ largest → length c ≡ 256 → framing (number v ++ (c ++ l)) ≡ Whole v (v % 2) (length (number v))
written_framed v c l h n = frame_whole (number v ++ (c ++ l)) v (length (number v)) (written_read v (c ++ l) h) (simp length-append (omega arith))
