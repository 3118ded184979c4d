-- The groups of the writer's plan keep their rules. Assumes nothing.
use Prim.Native.Nat.{ℕ, zero, suc, ◌+◌, ◌%◌, ◌≤◌, ◌<◌}
use mathlib.Core.Path.{◌≡◌, refl, sym, ◌∙◌, subst}
use mathlib.Core.Bool.{true, false, ◌&&◌, ◌||◌, not}
use mathlib.Core.List.{List, [], ◌∷◌, ◌++◌}
use mathlib.Core.Logic.{◌⊎◌, inl, inr, ⊎_elim}
use native.Mathlib.Omega.{arith}
use native.Mathlib.Nat.{add-zero}
use lib.ListN.{length, drop}
use lib.Dec.{eqb}
use borrow.Author.Tests.{ne_eqb, eqb-true, eqb-false}
use Rattle.lists.proofs.Tests.{cases, and_left, and_right}
use Rattle.cause.specs.Checks.{Pass}
use Rattle.container.specs.Layout.{Format, wide}
use Rattle.container.specs.Grants.{no_counts}
use Rattle.container.specs.declared.grant.Grant.{Grant}
use Rattle.message.specs.Heads.{is_misc, activation}
use Rattle.message.specs.Places.{placed, miscs, responses}
use Rattle.record.specs.Records.{first_of, message_of}
use Rattle.record.specs.declared.list.First.{First}
use Rattle.record.specs.declared.list.First.TheVariants.{Empty, Bad, Whole}
use Rattle.placement.specs.Cells.{Cell}
use Rattle.placement.specs.Checking.{populated, no_gap, sum_of, one_misc, four_responses, group_checks}
use Rattle.writer.specs.Plan.{empty_cell, start_cell, on_cell, group_ok, legal, beneath, Cursor, Given, nothing, start_next, give, group_after, cursor_after, plan}
use Rattle.writer.proofs.Simulation.{beneath_legal}
use Rattle.writer.proofs.GroupLaws.{all_populated, all_more, sum_more, gap_more, ok_both, group_checks_law}

-- ---- one more cell

-- where the last is populated, no gap means that all are
gap_all : (es : List Cell) (e : Cell) → populated e ≡ true → no_gap (es ++ (e ∷ [])) ≡ true → all_populated (es ++ (e ∷ [])) ≡ true
gap_all es e p h = all_more es e ∙ rw (sym (gap_more es e p) ∙ h, p)

sum_idle : (f : List ℕ → ℕ) (es : List Cell) (e : Cell) → e.starts ≡ false → sum_of f (es ++ (e ∷ [])) ≡ sum_of f es
sum_idle f es e p = sum_more f es e ∙ rw p (add-zero (sum_of f es))

-- a cell in which nothing starts keeps the sums
ok_idle : (es : List Cell) (e : Cell) → e.starts ≡ false → no_gap (es ++ (e ∷ [])) ≡ true → group_ok es ≡ true → group_ok (es ++ (e ∷ [])) ≡ true
ok_idle es e p gap h = rw (gap, sum_idle miscs es e p, sum_idle responses es e p) (and_right (no_gap es) (one_misc es && four_responses es) h)

-- ---- the writer's step

-- the group so far keeps its rules, and has no empty cell while a message goes on
pub record Packed (es : List Cell) (t : List ℕ) : Type 0 where
  pub ok : group_ok es ≡ true
  pub full : 0 < length t → all_populated es ≡ true

-- the group with the cell given: while a message goes on, no cell is empty, unless the group ends here
pub record Grown (g : ℕ) (es : List Cell) (v : Given) : Type 0 where
  pub ok : group_ok (es ++ (v.cell ∷ [])) ≡ true
  pub full : (g % 3 ≡ 2 → ⊥) → 0 < length v.owes → all_populated (es ++ (v.cell ∷ [])) ≡ true

module _ (fm : Format) (n : Grant) (g : ℕ) (narrow_last : wide fm g ≡ false → g % 3 ≡ 2) (l : List ℕ) (at : ℕ) (es : List Cell) where
  stays_empty : (t : List ℕ) → (wide fm g ≡ false) ⊎ (length t ≡ 0) → group_ok es ≡ true → Grown g es (nothing fm g (record { owes = t; at = at; group = es }))
  stays_empty t why h = record {
    ok = ok_both es (empty_cell (fm.size g) ∷ []) refl ∙ h;
    full = λ not_last some. ⊎_elim (λ w. absurd (not_last (narrow_last w))) (λ z. absurd (none_left (length t) z some)) why;
  }
    where
      none_left : (k : ℕ) → k ≡ 0 → 0 < k → ⊥
      none_left k e p = omega arith

  starts_legal : (m : List ℕ) (r : ℕ) → legal fm n g es m ≡ true → Grown g es (record { cell = start_cell (fm.size g) m; owes = drop (fm.size g) m; at = r })
  starts_legal m r t =
      let es' = es ++ (start_cell (fm.size g) m ∷ []) in
      let rules : group_ok es' ≡ true = and_right (placed fm g m && (not (is_misc m activation) || no_counts n)) (group_ok es') t in
      record { ok = rules; full = λ _ _. gap_all es (start_cell (fm.size g) m) refl (and_left (no_gap es') (one_misc es' && four_responses es') rules) }

  group_step : (t : List ℕ) → Packed es t → Grown g es (give fm n l g (record { owes = t; at = at; group = es }))
  group_step t h = ⊎_elim idle busy (cases (eqb (length t) 0))
    where
      w : Cursor
      w = record { owes = t; at = at; group = es }

      goes_on : all_populated es ≡ true → Grown g es (record { cell = on_cell (fm.size g) t; owes = drop (fm.size g) t; at = at })
      goes_on f = record {
        ok = ok_idle es (on_cell (fm.size g) t) refl (gap_more es (on_cell (fm.size g) t) refl ∙ f) h.ok;
        full = λ _ _. all_more es (on_cell (fm.size g) t) ∙ rw f;
      }

      under : wide fm g ≡ false → (x : First) → Grown g es (start_next fm l g w (beneath fm n g es) (λ m. t) x)
      under x Empty = stays_empty t (inl x) h.ok
      under x Bad = stays_empty t (inl x) h.ok
      under x (Whole s f) =
          let m = message_of (drop at l) s f in
          ⊎_elim (λ (y : beneath fm n g es m ≡ true).
          rw y (record { ok = (starts_legal m (at + f) (beneath_legal fm n g es m y)).ok; full = λ not_last some. absurd (not_last (narrow_last x)) }))
          (λ (y : beneath fm n g es m ≡ false). rw y (stays_empty t (inl x) h.ok)) (cases (beneath fm n g es m))

      busy : eqb (length t) 0 ≡ false → Grown g es (give fm n l g w)
      busy e =
          let some = eqb-false (length t) 0 e in
          ⊎_elim (λ (x : wide fm g ≡ true). rw (e, x) (goes_on (h.full (omega arith)))) (λ (x : wide fm g ≡ false). rw (e, x) (under x (first_of (drop at l))))
          (cases (wide fm g))

      idle : eqb (length t) 0 ≡ true → Grown g es (give fm n l g w)
      idle e = rw e (next (first_of (drop at l)))
        where
          empty : Grown g es (nothing fm g w)
          empty = stays_empty t (inr (eqb-true (length t) 0 e)) h.ok

          next : (x : First) → Grown g es (start_next fm l g w (legal fm n g es) (λ m. drop (fm.size g) m) x)
          next Empty = empty
          next Bad = empty
          next (Whole s f) =
              let m = message_of (drop at l) s f in
              ⊎_elim (λ (y : legal fm n g es m ≡ true). rw y (starts_legal m (at + f) y)) (λ (y : legal fm n g es m ≡ false). rw y empty) (cases (legal fm n g es m))

pub packed_none : (t : List ℕ) → Packed [] t
packed_none t = record { ok = refl; full = λ _. refl }

packed_next : (g : ℕ) (es : List Cell) (v : Given) → Grown g es v → Packed (group_after g es v.cell) v.owes
packed_next g es v h =
    ⊎_elim (λ (e : eqb (g % 3) 2 ≡ true). rw e (packed_none v.owes))
    (λ (e : eqb (g % 3) 2 ≡ false). rw e (record { ok = h.ok; full = h.full (eqb-false (g % 3) 2 e) }))
    (cases (eqb (g % 3) 2))

-- ---- all groups

abbrev pub thrice : ℕ → ℕ
thrice zero = zero
thrice (suc k) = suc (suc (suc (thrice k)))

module _ (fm : Format) (n : Grant) (l : List ℕ) (narrow_last : (g : ℕ) → g < 12 → wide fm g ≡ false → g % 3 ≡ 2) where
  abbrev step : ℕ → Cursor → Cursor
  step g w = cursor_after g w (give fm n l g w)

  grown : (g : ℕ) (w : Cursor) → g < 12 → Packed w.group w.owes → Grown g w.group (give fm n l g w)
  grown g w b h = group_step fm n g (narrow_last g b) l w.at w.group w.owes h

  packed_step : (g : ℕ) (w : Cursor) → g < 12 → Packed w.group w.owes → Packed (step g w).group (step g w).owes
  packed_step g w b h = packed_next g w.group (give fm n l g w) (grown g w b h)

  group_after_step : (g : ℕ) (w : Cursor) → (g % 3 ≡ 2 → ⊥) → (step g w).group ≡ w.group ++ ((give fm n l g w).cell ∷ [])
  group_after_step g w d = rw (ne_eqb (g % 3) 2 d)

  group_ends : (g : ℕ) (w : Cursor) → g % 3 ≡ 2 → (step g w).group ≡ []
  group_ends g w e = rw e

  -- three granules from a group's first
  three : (g : ℕ) (w : Cursor) → g + 3 ≤ 12 → g % 3 ≡ 0 → w.group ≡ [] → Packed w.group w.owes
      → group_ok ((give fm n l g w).cell ∷ (give fm n l (g + 1) (step g w)).cell ∷ (give fm n l (g + 1 + 1) (step (g + 1) (step g w))).cell ∷ []) ≡ true
  three g w b e z h =
      let w₁ = step g w in
      let w₂ = step (g + 1) w₁ in
      let h₁ = packed_step g w (omega arith) h in
      let h₂ = packed_step (g + 1) w₁ (omega arith) h₁ in
      let g₁ : w₁.group ≡ (give fm n l g w).cell ∷ [] = group_after_step g w (λ k. omega arith) ∙ rw z in
      let g₂ : w₂.group ≡ (give fm n l g w).cell ∷ (give fm n l (g + 1) w₁).cell ∷ [] = group_after_step (g + 1) w₁ (λ k. omega arith) ∙ rw g₁ in
      subst (λ (es : List Cell). group_ok (es ++ ((give fm n l (g + 1 + 1) w₂).cell ∷ [])) ≡ true) g₂ (grown (g + 1 + 1) w₂ (omega arith) h₂).ok

  pub groups_pass : (k q g : ℕ) (w : Cursor) → g + thrice k ≤ 12 → g % 3 ≡ 0 → w.group ≡ [] → Packed w.group w.owes → Pass (group_checks k q (plan fm n l (thrice k) g w))
  unfolding plan group_checks
  groups_pass zero q g w b e z h = tt
  groups_pass (suc k) q g w b e z h =
      let w₂ = step (g + 1) (step g w) in
      let h₃ = packed_step (g + 1 + 1) w₂ (omega arith) (packed_step (g + 1) (step g w) (omega arith) (packed_step g w (omega arith) h)) in
      (group_checks_law k q (plan fm n l (thrice (suc k)) g w)).0 (
        three g w (omega arith) e z h,
        groups_pass k (q + 1) (g + 1 + 1 + 1) (step (g + 1 + 1) w₂) (omega arith) (omega arith) (group_ends (g + 1 + 1) w₂ (omega arith)) h₃,
      )
