-- What passes over a smaller granule is of a message that started in this container: an old tail ends below G5. Assumes nothing.
use Prim.Native.Nat.{ℕ, zero, suc, ◌+◌, ◌-◌, ◌*◌, ◌≤◌, ◌<◌}
use mathlib.Core.Path.{◌≡◌, refl, sym, subst}
use mathlib.Core.Bool.{Bool, true, false}
use mathlib.Core.List.{List}
use mathlib.Core.Logic.{◌⊎◌, inl, inr, ⊎_elim}
use native.Mathlib.Omega.{arith}
use native.Mathlib.Nat.{zero-add}
use lib.ListN.{length, drop, length-drop}
use lib.Dec.{eqb}
use borrow.Author.Tests.{eqb-true}
use Rattle.lists.specs.Pick.{pick}
use Rattle.lists.proofs.Tests.{never_both}
use Rattle.lists.proofs.Order.{lt_or_le}
use Rattle.lists.proofs.PickLaws.{pick_by}
use Rattle.container.specs.Layout.{Format, format_of, wide}
use Rattle.container.specs.declared.grant.Grant.{Grant}
use Rattle.container.proofs.Formats.{lawful_of}
use Rattle.record.specs.Records.{first_of, message_of}
use Rattle.record.specs.declared.list.First.{First}
use Rattle.record.specs.declared.list.First.TheVariants.{Empty, Bad, Whole}
use Rattle.record.proofs.RecordLaws.{first_within}
use Rattle.writer.specs.Plan.{on_cell, legal, beneath, Cursor, Given, start_next, give, cursor_after, cursor_last, cursor_of}
use Rattle.writer.proofs.PlanLaws.{cursor_last_more}

-- a granule stays empty, or some of the list is used
abbrev Moves : Cursor → Given → Type 0
Moves w v = ((v.owes ≡ w.owes) × (v.at ≡ w.at)) ⊎ (w.at < v.at)

start_moves : (fm : Format) (l : List ℕ) (g : ℕ) (w : Cursor) (may : List ℕ → Bool) (rest : List ℕ → List ℕ) (x : First) → first_of (drop w.at l) ≡ x
    → Moves w (start_next fm l g w may rest x)
start_moves fm l g w may rest Empty q = inl (refl, refl)
start_moves fm l g w may rest Bad q = inl (refl, refl)
start_moves fm l g w may rest (Whole s e) q =
    let k = first_within (drop w.at l) s e q in
    pick_by (Moves w) (may (message_of (drop w.at l) s e)) (λ _. inr (omega arith)) (λ _. inl (refl, refl))

module _ (fm : Format) (n : Grant) (l : List ℕ) (k : ℕ) (low : (g : ℕ) → wide fm g ≡ false → k ≤ 20 * g) where
  -- some of the list is used, or what is owed is what is left at granule g of k bytes
  abbrev Started : ℕ → ℕ → List ℕ → Type 0
  Started g at t = (0 < at) ⊎ (length t ≤ k - 20 * g)

  started_next : (g : ℕ) (w : Cursor) → Started g w.at w.owes → Started (g + 1) (give fm n l g w).at (give fm n l g w).owes
  started_next g w h = pick_by Next (eqb (length w.owes) 0) idle busy
    where
      Next : Given → Type 0
      Next v = Started (g + 1) v.at v.owes

      moved : (v : Given) → Moves w v → (0 < w.at) ⊎ (length w.owes ≤ 0) → Next v
      moved v (inl m) (inl s) = inl (omega (arith, m.1))
      moved v (inl m) (inr s) = inr (rw m.0 (omega arith))
      moved v (inr m) s = inl (omega arith)

      idle : eqb (length w.owes) 0 ≡ true → Next (start_next fm l g w (legal fm n g w.group) (λ m. drop (fm.size g) m) (first_of (drop w.at l)))
      idle e =
          let z = eqb-true (length w.owes) 0 e in
          moved (start_next fm l g w (legal fm n g w.group) (λ m. drop (fm.size g) m) (first_of (drop w.at l)))
          (start_moves fm l g w (legal fm n g w.group) (λ m. drop (fm.size g) m) (first_of (drop w.at l)) refl) (inr (omega arith))

      on : wide fm g ≡ true → (0 < w.at) ⊎ (length w.owes ≤ k - 20 * g) → Started (g + 1) w.at (drop (fm.size g) w.owes)
      on e (inl s) = inl s
      on e (inr s) = let d = length-drop (fm.size g) w.owes in let size : fm.size g ≡ 20 = eqb-true (fm.size g) 20 e in inr (omega arith)

      over : wide fm g ≡ false → (0 < w.at) ⊎ (length w.owes ≤ k - 20 * g) → (0 < w.at) ⊎ (length w.owes ≤ 0)
      over e (inl s) = inl s
      over e (inr s) = let z = low g e in inr (omega arith)

      busy : eqb (length w.owes) 0 ≡ false
          → Next (pick (wide fm g) (record { cell = on_cell (fm.size g) w.owes; owes = drop (fm.size g) w.owes; at = w.at })
          (start_next fm l g w (beneath fm n g w.group) (λ m. w.owes) (first_of (drop w.at l))))
      busy _ =
          pick_by Next (wide fm g) (λ e. on e h)
          (λ e. moved (start_next fm l g w (beneath fm n g w.group) (λ m. w.owes) (first_of (drop w.at l)))
          (start_moves fm l g w (beneath fm n g w.group) (λ m. w.owes) (first_of (drop w.at l)) refl) (over e h))

  started_start : (t : List ℕ) → length t ≤ k → Started 0 (cursor_last fm n l 0 0 (cursor_of t)).at (cursor_last fm n l 0 0 (cursor_of t)).owes
  unfolding cursor_last
  started_start t short = inr (omega arith)

  started : (g : ℕ) (t : List ℕ) → length t ≤ k → Started g (cursor_last fm n l g 0 (cursor_of t)).at (cursor_last fm n l g 0 (cursor_of t)).owes
  started zero t short = started_start t short
  started (suc g) t short =
      let w = cursor_last fm n l g 0 (cursor_of t) in
      let more : g + 1 ≡ suc g = omega arith in
      let next : cursor_last fm n l (suc g) 0 (cursor_of t) ≡ cursor_after g w (give fm n l g w) =
      subst (λ (i : ℕ). cursor_last fm n l (suc g) 0 (cursor_of t) ≡ cursor_after i w (give fm n l i w)) (zero-add g) (cursor_last_more fm n l g 0 (cursor_of t)) in
      subst (λ (v : Cursor). Started (suc g) v.at v.owes) (sym next)
      (subst (λ (i : ℕ). Started i (give fm n l g w).at (give fm n l g w).owes) more (started_next g w (started g t short)))

-- every granule below G5 has 20 bytes
narrow_high : (f g : ℕ) → wide (format_of f) g ≡ false → 100 ≤ 20 * g
narrow_high f g e = ⊎_elim (λ (b : g < 5). absurd (never_both e ((lawful_of f).first_wide g b))) (λ (b : 5 ≤ g). omega arith) (lt_or_le g 5)

pub started_here : (f : ℕ) (n : Grant) (l t : List ℕ) → length t ≤ 100 → (g : ℕ) → wide (format_of f) g ≡ false
    → 0 < length (cursor_last (format_of f) n l g 0 (cursor_of t)).owes → 0 < (cursor_last (format_of f) n l g 0 (cursor_of t)).at
started_here f n l t short g e some =
    let high = narrow_high f g e in
    ⊎_elim (λ s. s) (λ (s : length (cursor_last (format_of f) n l g 0 (cursor_of t)).owes ≤ 100 - 20 * g). absurd (omega arith))
    (started (format_of f) n l 100 (narrow_high f) g t short)
