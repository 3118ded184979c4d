-- What one turn makes of a window. Assumes nothing.
use Prim.Native.Nat.{ℕ, ◌-◌, ◌≤◌, ◌<◌}
use mathlib.Core.Path.{◌≡◌, refl, sym, ap, ◌∙◌}
use mathlib.Core.Bool.{Bool, true, false}
use mathlib.Core.List.{List, [], ◌++◌, append-nil}
use native.Mathlib.Omega.{arith}
use lib.ListN.{length, take, drop, take-append-drop, length-drop}
use lib.Seq.{take-take, length-take-le}
use lib.Dec.{eqb}
use borrow.Author.Tests.{ne_eqb}
use Rattle.std.specs.Prelude.{Ok}
use Rattle.input.specs.Refills.{Refilled}
use Rattle.input.specs.declared.Refill.TheVariants.{Got, End}
use Rattle.logs.specs.Stream.{consuming}
use Rattle.logs.specs.declared.log.LogReader.{LogReader}
use Rattle.audit.specs.Turns.{turn_by, Turned}
use Rattle.audit.specs.declared.Turn.{Turn}

module _ (s : LogReader) (left before window : List ℕ) (r : Turn) where
  turned_by : (n : ℕ) (ended : Bool) (read : List ℕ) → n ≤ length window → left ++ read ≡ take n window → eqb (length read) 0 ≡ ended
      → r ≡ turn_by (length (take (n - 0) window)) (consuming s (take (n - 0) window) ended) → Turned s left window r
  turned_by n ended read fits same is e =
      let z : n - 0 ≡ n = omega arith in
      let all : take (n - 0) window ≡ left ++ read = ap (λ (k : ℕ). take k window) z ∙ sym same in
      let long : length (left ++ read) ≡ n = ap length same ∙ length-take-le n window fits in
      record {
        read = read;
        at_hand = ap (λ (k : ℕ). take k window) long ∙ sym same;
        call =
            e ∙ ap (λ (l : List ℕ). turn_by (length l) (consuming s l ended)) all
            ∙ ap (λ (t : Bool). turn_by (length (left ++ read)) (consuming s (left ++ read) t)) (sym is);
      }

  -- bytes were read: the window's first n are those left and these
  pub turned_got : (n : ℕ) → Refilled left before window (Ok (Got n))
      → r ≡ turn_by (length (take (n - 0) window)) (consuming s (take (n - 0) window) false) → Turned s left window r
  turned_got n h e =
      let read = drop (length left) (take n window) in
      let more = h.more.0 in
      let fits = h.more.1 in
      let front : take (length left) (take n window) ≡ left = take-take (length left) n window (omega arith) ∙ h.front in
      let same : left ++ read ≡ take n window =
      ap (λ (l : List ℕ). l ++ read) (sym front) ∙ take-append-drop (length left) (take n window) in
      let some : length read ≡ 0 → ⊥ = λ none. omega (arith, length-drop (length left) (take n window), length-take-le n window fits) in
      turned_by n false read fits same (ne_eqb (length read) 0 some) e

  -- nothing was read
  pub turned_end : (n : ℕ) → Refilled left before window (Ok End) → n ≡ length left
      → r ≡ turn_by (length (take (n - 0) window)) (consuming s (take (n - 0) window) true) → Turned s left window r
  turned_end n h k e =
      let room : length left < length window = h.more in
      turned_by n true [] (omega arith) (append-nil left ∙ sym h.front ∙ ap (λ (j : ℕ). take j window) (sym k)) refl e
