-- What judging a cell finds, case by case, and the part of a container that a cell is. Assumes nothing.
use Prim.Native.Nat.{ℕ, ◌+◌, ◌-◌, ◌%◌, ◌≤◌}
use mathlib.Core.Path.{◌≡◌, refl, sym, ap, ◌∙◌}
use mathlib.Core.Bool.{Bool, true, false, ◌&&◌, not}
use mathlib.Core.List.{List}
use native.Mathlib.Omega.{arith}
use lib.ListN.{length, get_or, take, drop, drop_of_length-le}
use lib.Dec.{ltb, eqb}
use borrow.Author.Tests.{lt-ltb, not-true, not-false}
use Rattle.lists.specs.Parts.{zeros}
use Rattle.cause.specs.declared.Cause.TheVariants.{StartInsideMessage, UnknownMessage, PlaceNotAllowed, HeadWrong, UnusedByteNotZero}
use Rattle.container.specs.Layout.{Format, format_of, wide, start, granule}
use Rattle.message.specs.Heads.{msg_size, size_by, well_headed}
use Rattle.message.specs.Places.{placed, placed_by}
use Rattle.cause.specs.declared.Cause.{Cause}
use Rattle.reader.specs.declared.cell.Granule.{Granule}
use Rattle.std.specs.Prelude.{Result, Ok, Err}
use Rattle.reader.specs.TrackingMirror.{cell_from, cell_answer, start_mark}

module _ (fm : Format) (g : ℕ) (b : List ℕ) where
  pub twice : Err StartInsideMessage ≡ cell_answer fm g (cell_from true true b)
  unfolding cell_answer
  twice = refl

  pub on_fine : length b ≤ 20 → Ok (record { mark = 1; size = 0 }) ≡ cell_answer fm g (cell_from true false b)
  unfolding cell_answer
  on_fine h = rw (drop_of_length-le b h)

  pub empty_fine : zeros b ≡ true → Ok (record { mark = 0; size = 0 }) ≡ cell_answer fm g (cell_from false false b)
  unfolding cell_answer
  empty_fine e = rw e

  pub empty_not : zeros b ≡ false → Err UnusedByteNotZero ≡ cell_answer fm g (cell_from false false b)
  unfolding cell_answer
  empty_not e = rw e

  -- a message starts, by its first two bytes and its size as the code has them
  module _ {first second size : ℕ} (ef : first ≡ get_or b 0 0) (es : second ≡ get_or b 1 0) (ez : size ≡ size_by (first % 16) second) where
    size_is : msg_size b ≡ size
    size_is = rw (ez, ef, es)

    pub unknown : size ≡ 0 → Err UnknownMessage ≡ cell_answer fm g (cell_from false true b)
    unfolding cell_answer
    unknown z = rw (size_is ∙ z)

    module _ (d : size ≡ 0 → ⊥) {allowed : Bool} (ep : allowed ≡ placed_by fm g (first % 16) second) where
      has_size : ltb 0 (msg_size b) ≡ true
      has_size = let s = size_is in lt-ltb 0 (msg_size b) (omega arith)

      placed_is : placed fm g b ≡ allowed
      placed_is = rw (ep, ef, es)

      pub misplaced : not allowed ≡ true → Err PlaceNotAllowed ≡ cell_answer fm g (cell_from false true b)
      unfolding cell_answer
      misplaced p = rw (has_size, placed_is ∙ not-true allowed p)

      module _ (p : not allowed ≡ false) {headed : Bool} (eh : headed ≡ well_headed b) where
        pub misheaded : not headed ≡ true → Err HeadWrong ≡ cell_answer fm g (cell_from false true b)
        unfolding cell_answer
        misheaded h = rw (has_size, placed_is ∙ not-false allowed p, sym eh ∙ not-true headed h)

        module _ (h : not headed ≡ false) {rest : Bool} (er : rest ≡ zeros (drop size b)) where
          rest_is : zeros (drop (msg_size b) b) ≡ rest
          rest_is = rw (size_is, er)

          pub start_not : not rest ≡ true → Err UnusedByteNotZero ≡ cell_answer fm g (cell_from false true b)
          unfolding cell_answer
          start_not z = rw (has_size, placed_is ∙ not-false allowed p, sym eh ∙ not-false headed h, rest_is ∙ not-true rest z)

          pub start_fine : not rest ≡ false → {mark : ℕ} → mark ≡ start_mark (first % 16) second → Ok (record { mark = mark; size = size }) ≡ cell_answer fm g (cell_from false true b)
          unfolding cell_answer
          start_fine z k = rw (has_size, placed_is ∙ not-false allowed p, sym eh ∙ not-false headed h, rest_is ∙ not-false rest z, k, ez, ef, es)

-- the part that the code takes of granule g
pub granule_part : (f g a n : ℕ) (c : List ℕ) → a ≡ start g → n ≡ (format_of f).size g → take ((a + n) - a) (drop a c) ≡ granule (format_of f) g c
granule_part f g a n c ea en = let d : (a + n) - a ≡ n = omega arith in rw (d, ea, en)

-- equal parts make equal cells
pub same_answer : (f g owed : ℕ) {on : Bool} {n : ℕ} → on ≡ (ltb 0 owed && eqb n 20) → n ≡ (format_of f).size g → {s t : Bool} → s ≡ t → {a b : List ℕ} → a ≡ b → {r : Result Granule Cause} → r ≡ cell_answer (format_of f) g (cell_from on s a) → r ≡ cell_answer (format_of f) g (cell_from (ltb 0 owed && wide (format_of f) g) t b)
same_answer f g owed eo en es eb er =
    let x = eo ∙ ap (λ (k : ℕ). ltb 0 owed && eqb k 20) en in er ∙ (λ i. cell_answer (format_of f) g (cell_from (x i) (es i) (eb i)))
