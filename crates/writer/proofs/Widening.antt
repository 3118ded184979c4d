-- The writer's one way from one granule earlier, which stays empty. Assumes nothing.
use Prim.Native.Nat.{ℕ, ◌+◌, ◌≤◌, ◌<◌}
use mathlib.Core.Path.{◌≡◌, subst}
use mathlib.Core.Bool.{false}
use mathlib.Core.List.{List}
use mathlib.Core.Logic.{⊎_elim}
use native.Mathlib.Omega.{arith}
use lib.ListN.{length, drop}
use Rattle.lists.proofs.Order.{lt_or_le}
use Rattle.container.specs.Layout.{Format}
use Rattle.container.specs.declared.grant.Grant.{Grant}
use Rattle.record.specs.Records.{first_of, message_of}
use Rattle.record.specs.declared.list.First.TheVariants.{Whole}
use Rattle.placement.specs.Cells.{Cell}
use Rattle.writer.specs.Plan.{empty_cell}
use Rattle.writer.specs.OneWay.{cell_of, may_start, NoneLegal, Empties, Way, goes_on, puts_beneath, passes_over, starts, stops, ends}

module _ (fm : Format) (n : Grant) (l : List ℕ) (es : List Cell) (used : ℕ) (owes : List ℕ) where
  abbrev From : ℕ → List ℕ → ℕ → Type 0
  From = Way fm n l es used owes

  -- one more granule that stays empty
  widen_empties : (g h : ℕ) → cell_of es g ≡ empty_cell (fm.size g) → Empties fm es (g + 1) h → Empties fm es g h
  widen_empties g h e p j a b = ⊎_elim (λ (x : g < j). p j (omega arith) b) (λ (x : j ≤ g). let q : j ≡ g = omega arith in rw q e) (lt_or_le g j)

  widen_none : (g h : ℕ) (m : List ℕ) → may_start fm n es g m ≡ false → NoneLegal fm n es (g + 1) h m → NoneLegal fm n es g h m
  widen_none g h m e p j a b = ⊎_elim (λ (x : g < j). p j (omega arith) b) (λ (x : j ≤ g). let q : j ≡ g = omega arith in rw q e) (lt_or_le g j)

  pub widen : {g' at : ℕ} {t : List ℕ} (g : ℕ) → g' ≡ g + 1 → g < 12 → length t ≡ 0 → cell_of es g ≡ empty_cell (fm.size g)
      → ((start end : ℕ) → first_of (drop at l) ≡ Whole start end → may_start fm n es g (message_of (drop at l) start end) ≡ false) → From g' t at → From g t at
  widen g e b z c here (goes_on a p w d r) = absurd (omega arith)
  widen g e b z c here (puts_beneath s f a p w q may d r) = absurd (omega arith)
  widen g e b z c here (passes_over a p w none d r) = absurd (omega arith)
  widen {at = at} g e b z c here (starts h s f a d z' q may none empty cell r) =
      starts {g = g} h s f (omega arith) d z q may
      (widen_none g h (message_of (drop at l) s f) (here s f q) (subst (λ (i : ℕ). NoneLegal fm n es i h (message_of (drop at l) s f)) e none))
      (widen_empties g h c (subst (λ (i : ℕ). Empties fm es i h) e empty)) cell r
  widen {at = at} g e b z c here (stops a z' none empty u o) =
      stops {g = g} (omega arith) z
      (λ s f q. widen_none g 12 (message_of (drop at l) s f) (here s f q) (subst (λ (i : ℕ). NoneLegal fm n es i 12 (message_of (drop at l) s f)) e (none s f q)))
      (widen_empties g 12 c (subst (λ (i : ℕ). Empties fm es i 12) e empty)) u o
  widen {at = at} g e b z c here (ends a u o) =
      let last : (j : ℕ) → g + 1 ≤ j → j < 12 → ⊥ = λ j x y. omega arith in
      stops {g = g} (omega arith) z (λ s f q. widen_none g 12 (message_of (drop at l) s f) (here s f q) (λ j x y. absurd (last j x y)))
      (widen_empties g 12 c (λ j x y. absurd (last j x y))) u o
