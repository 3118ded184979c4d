-- A part of a list of which bytes before it are dropped. Assumes nothing.
use Prim.Native.Nat.{ℕ, ◌+◌, ◌-◌, ◌≤◌}
use mathlib.Core.Path.{◌≡◌, ap, ◌∙◌}
use mathlib.Core.List.{List}
use native.Mathlib.Omega.{arith}
use lib.ListN.{take, drop}
use lib.Seq.{drop-drop}
use Rattle.lists.specs.Parts.{part}

module _ (l : List ℕ) (at a : ℕ) (h : a ≤ at) where
  pub same_part : (n : ℕ) → part (at - a) n (drop a l) ≡ part at n l
  same_part n = let e : a + (at - a) ≡ at = omega arith in ap (take n) (drop-drop (at - a) a l ∙ ap (λ (k : ℕ). drop k l) e)
