-- A refill of the buffer: the bytes at hand afterwards. Assumes nothing.
use Prim.Native.Nat.{ℕ, ◌+◌, ◌-◌, ◌≤◌, ◌<◌}
use mathlib.Core.Path.{◌≡◌, refl, sym, ap, ◌∙◌, subst}
use mathlib.Core.Bool.{false}
use mathlib.Core.List.{List, ◌++◌}
use native.Mathlib.Omega.{arith}
use lib.ListN.{length, take, drop, length-drop}
use lib.Seq.{take-add, length-take-le}
use Rattle.std.specs.Prelude.{Ok}
use Rattle.lists.specs.Parts.{part}
use Rattle.lists.proofs.PartLaws.{length_part}
use Rattle.input.specs.Refills.{Refilled}
use Rattle.input.specs.declared.Refill.TheVariants.{Got}
use Rattle.unpack.specs.Turns.{Filled, got}
use Rattle.unpack.specs.declared.Window.{Window}

module _ (before after : List ℕ) (at have : ℕ) (ok : (at ≤ have) × (have ≤ length before)) (w : Window) where
  abbrev kept : List ℕ
  kept = part at (have - at) before

  abbrev left : ℕ
  left = have - at

  long : length kept ≡ left
  long = length_part at left before (omega arith)

  pub refill_got : (n : ℕ) → Refilled kept before after (Ok (Got n)) → w ≡ record { at = 0; have = n; ended = false } → Filled kept after w
  refill_got n h ew =
      let lo : length kept < n = h.more.0 in
      let hi : n ≤ length after = h.more.1 in
      let k = length kept in
      let p = take (n - k) (drop k after) in
      let sum : n - 0 ≡ k + (n - k) = omega arith in
      let some : length p ≡ n - k = length-take-le (n - k) (drop k after) (omega (arith, length-drop k after)) in
      let all : take (n - 0) after ≡ kept ++ p =
      ap (λ (j : ℕ). take j after) sum ∙ take-add k (n - k) after ∙ ap (λ (x : List ℕ). x ++ p) h.front in
      subst (Filled kept after) (sym ew) (got p (omega arith) (record { inside = omega arith; within = hi; bytes = all }) refl)
