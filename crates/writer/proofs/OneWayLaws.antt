-- The writer's one way, as document 01 says it record by record, is the way of the plan. Assumes nothing.
use Prim.Native.Nat.{ℕ, zero, suc, ◌+◌, ◌-◌, ◌*◌, ◌/◌, ◌%◌, ◌≤◌, ◌<◌}
use mathlib.Core.Path.{◌≡◌, refl, sym, ap, ◌∙◌, subst}
use mathlib.Core.Bool.{Bool, true, false}
use mathlib.Core.List.{List, [], ◌∷◌, ◌++◌}
use mathlib.Core.Logic.{⊎_elim, ◌↔◌}
use native.Mathlib.Omega.{arith}
use native.Mathlib.Numerals.{add-one}
use native.Mathlib.Nat.{zero-add}
use lib.ListN.{length, take, drop, drop_of_length-le}
use lib.Seq.{take-suc, drop-append-le, length-take-le, drop-cons}
use lib.Dec.{eqb}
use borrow.Author.Tests.{eq-eqb, ne_eqb, eqb-true, eqb-false}
use Rattle.lists.proofs.Tests.{cases, and_false}
use Rattle.container.specs.Layout.{Format, wide}
use Rattle.container.specs.Grants.{no_counts}
use Rattle.container.specs.declared.grant.Grant.{Grant}
use Rattle.message.specs.Heads.{is_misc, activation}
use Rattle.message.specs.Places.{placed}
use Rattle.record.specs.Records.{first_of, message_of}
use Rattle.record.specs.declared.list.First.{First}
use Rattle.record.specs.declared.list.First.TheVariants.{Empty, Bad, Whole}
use Rattle.placement.specs.Cells.{Cell}
use Rattle.writer.specs.Plan.{empty_cell, start_cell, on_cell, Cursor, Given, nothing, start_next, give, group_after, cursor_after, plan, cursor_last, cursor_of}
use Rattle.writer.specs.Laying.{used_of, owes_after}
use Rattle.writer.specs.OneWay.{cell_of, group_at, may_start, may_lie, NoneLegal, Empties, Way, goes_on, puts_beneath, passes_over, starts, stops, ends}
use Rattle.writer.proofs.PlanLaws.{cursor_last_more, plan_length}
use Rattle.writer.proofs.Widening.{widen}

module _ (fm : Format) (n : Grant) (l : List ℕ) (es : List Cell) (used : ℕ) (owes : List ℕ) where
  abbrev From : ℕ → List ℕ → ℕ → Type 0
  From = Way fm n l es used owes

  -- one granule of the machine is one of the way
  step_way : (g at : ℕ) (t : List ℕ) → g < 12 → cell_of es g ≡ (give fm n l g (record { owes = t; at = at; group = group_at es g })).cell
      → From (g + 1) (give fm n l g (record { owes = t; at = at; group = group_at es g })).owes (give fm n l g (record { owes = t; at = at; group = group_at es g })).at
      → From g t at
  step_way g at t b c r = ⊎_elim idle busy (cases (eqb (length t) 0))
    where
      w : Cursor
      w = record { owes = t; at = at; group = group_at es g }

      busy : eqb (length t) 0 ≡ false → From g t at
      busy e =
          let d = eqb-false (length t) 0 e in
          ⊎_elim (λ (x : wide fm g ≡ true). goes_on b (omega arith) x (rw (e, x) at c) (rw (e, x) at r))
          (λ (x : wide fm g ≡ false). under x (omega arith) (first_of (drop at l)) refl (rw (e, x) at c) (rw (e, x) at r)) (cases (wide fm g))
        where
          under : wide fm g ≡ false → 0 < length t → (x : First) → first_of (drop at l) ≡ x
              → cell_of es g ≡ (start_next fm l g w (may_lie fm n es g) (λ m. t) x).cell
              → From (g + 1) (start_next fm l g w (may_lie fm n es g) (λ m. t) x).owes (start_next fm l g w (may_lie fm n es g) (λ m. t) x).at → From g t at
          under k p Empty q c r = passes_over {g = g} {at = at} {t = t} b p k (λ s f (y : first_of (drop at l) ≡ Whole s f). let z : ◌≡◌ {A = ℕ} 0 1 = cc in absurd (omega arith)) c r
          under k p Bad q c r = passes_over {g = g} {at = at} {t = t} b p k (λ s f (y : first_of (drop at l) ≡ Whole s f). let z : ◌≡◌ {A = ℕ} 0 1 = cc in absurd (omega arith)) c r
          under k p (Whole s f) q c r =
              ⊎_elim (λ (y : may_lie fm n es g (message_of (drop at l) s f) ≡ true). puts_beneath s f b p k q y (rw y at c) (rw y at r))
              (λ (y : may_lie fm n es g (message_of (drop at l) s f) ≡ false).
              passes_over {g = g} {at = at} {t = t} b p k (λ s' f' (j : first_of (drop at l) ≡ Whole s' f'). let es' : s ≡ s' = cc in let ef : f ≡ f' = cc in rw (← es', ← ef) y) (rw y at c) (rw y at r))
              (cases (may_lie fm n es g (message_of (drop at l) s f)))

      idle : eqb (length t) 0 ≡ true → From g t at
      idle e = by (first_of (drop at l)) refl (rw e at c) (rw e at r)
        where
          z : length t ≡ 0
          z = eqb-true (length t) 0 e

          by : (x : First) → first_of (drop at l) ≡ x
              → cell_of es g ≡ (start_next fm l g w (may_start fm n es g) (λ m. drop (fm.size g) m) x).cell
              → From (g + 1) (start_next fm l g w (may_start fm n es g) (λ m. drop (fm.size g) m) x).owes (start_next fm l g w (may_start fm n es g) (λ m. drop (fm.size g) m) x).at
              → From g t at
          by Empty q c r = widen fm n l es used owes g refl b z c (λ s f k. let y : ◌≡◌ {A = ℕ} 0 1 = cc in absurd (omega arith)) r
          by Bad q c r = widen fm n l es used owes g refl b z c (λ s f k. let y : ◌≡◌ {A = ℕ} 0 1 = cc in absurd (omega arith)) r
          by (Whole s f) q c r =
              ⊎_elim (λ (y : may_start fm n es g (message_of (drop at l) s f) ≡ true).
              starts {g = g} g s f (omega arith) b z q y (λ j u v. absurd (omega arith)) (λ j u v. absurd (omega arith)) (rw y at c) (rw y at r))
              (λ (y : may_start fm n es g (message_of (drop at l) s f) ≡ false).
              widen fm n l es used owes g refl b z (rw y at c) (λ s' f' k. let es' : s ≡ s' = cc in let ef : f ≡ f' = cc in rw (← es', ← ef) y) (rw y at r))
              (cases (may_start fm n es g (message_of (drop at l) s f)))

-- where the next message may not start, the granule stays empty
start_none : (fm : Format) (l : List ℕ) (g : ℕ) (w : Cursor) (may : List ℕ → Bool) (rest : List ℕ → List ℕ) (x : First) → first_of (drop w.at l) ≡ x
    → ((s f : ℕ) → first_of (drop w.at l) ≡ Whole s f → may (message_of (drop w.at l) s f) ≡ false) → start_next fm l g w may rest x ≡ nothing fm g w
start_none fm l g w may rest Empty q none = refl
start_none fm l g w may rest Bad q none = refl
start_none fm l g w may rest (Whole s f) q none = rw (none s f q)

-- the cells of the group one granule further on
group_next_law : (es : List Cell) (g : ℕ) → g < length es → group_after g (group_at es g) (cell_of es g) ≡ group_at es (suc g)
group_next_law es g b =
    let front : length (take g es) ≡ g = length-take-le g es (omega arith) in
    let cut : take (suc g) es ≡ take g es ++ (cell_of es g ∷ []) = take-suc es g (empty_cell 0) b in
    ⊎_elim (λ (e : eqb (g % 3) 2 ≡ true).
    let q = eqb-true (g % 3) 2 e in
    let h : length (take (suc g) es) ≤ 3 * (suc g / 3) = rw (length-take-le (suc g) es (omega arith)) (omega arith) in
    rw e (sym (drop_of_length-le (take (suc g) es) h)))
    (λ (e : eqb (g % 3) 2 ≡ false).
    let q = eqb-false (g % 3) 2 e in
    let d : suc g / 3 ≡ g / 3 = omega arith in
    rw (e, d, cut, drop-append-le (3 * (g / 3)) (take g es) (cell_of es g ∷ []) (rw front (omega arith))))
    (cases (eqb (g % 3) 2))

-- ---- the plan by its granules

module _ (fm : Format) (n : Grant) (l : List ℕ) where
  -- the cell of a granule is given by the writer there
  plan_cell : (k g j : ℕ) (w : Cursor) → j < k → cell_of (plan fm n l k g w) j ≡ (give fm n l (g + j) (cursor_last fm n l j g w)).cell
  unfolding plan cursor_last
  plan_cell zero g j w b = absurd (omega arith)
  plan_cell (suc k) g zero w b = let e : g + 0 ≡ g = omega arith in rw e
  plan_cell (suc k) g (suc j) w b = let e : g + suc j ≡ (g + 1) + j = omega arith in rw e (plan_cell k (g + 1) j (cursor_after g w (give fm n l g w)) (omega arith))

module _ (fm : Format) (n : Grant) (l t : List ℕ) where
  abbrev laid : List Cell
  laid = plan fm n l 12 0 (cursor_of t)

  abbrev cursor : ℕ → Cursor
  cursor g = cursor_last fm n l g 0 (cursor_of t)

  cursor_step : (g : ℕ) → cursor (suc g) ≡ cursor_after g (cursor g) (give fm n l g (cursor g))
  cursor_step g = let e : 0 + g ≡ g = zero-add g in rw e at (cursor_last_more fm n l g 0 (cursor_of t))

  cell_at : (g : ℕ) → g < 12 → cell_of laid g ≡ (give fm n l g (cursor g)).cell
  cell_at g b = let e : 0 + g ≡ g = zero-add g in rw e at (plan_cell fm n l 12 0 g (cursor_of t) b)

  twelve : length laid ≡ 12
  twelve = plan_length fm n l 12 0 (cursor_of t)

  -- the writer has the cells of the present group
  group_at_law : (g : ℕ) → g ≤ 12 → (cursor g).group ≡ group_at laid g
  unfolding cursor_last
  group_at_law zero b = refl
  group_at_law (suc g) b =
      ap (λ (w : Cursor). w.group) (cursor_step g)
      ∙ ap (λ (es : List Cell). group_after g es (give fm n l g (cursor g)).cell) (group_at_law g (omega arith))
      ∙ ap (group_after g (group_at laid g)) (sym (cell_at g (omega arith)))
      ∙ group_next_law laid g (rw twelve (omega arith))

  abbrev Goes : ℕ → List ℕ → ℕ → Type 0
  Goes = Way fm n l laid (used_of fm n t l) (owes_after fm n t l)

  way_from : (k g : ℕ) → g + k ≡ 12 → Goes g (cursor g).owes (cursor g).at
  unfolding used_of owes_after
  way_from zero g e =
      let q : 12 ≡ g = omega arith in
      ends {g = g} (sym q) (ap (λ (i : ℕ). (cursor i).at) q) (ap (λ (i : ℕ). (cursor i).owes) q)
  way_from (suc k) g e =
      let group = group_at_law g (omega arith) in
      let same : cursor g ≡ record { owes = (cursor g).owes; at = (cursor g).at; group = group_at laid g } = λ i. record { owes = (cursor g).owes; at = (cursor g).at; group = group i } in
      let r = subst (λ (w : Cursor). Goes (suc g) w.owes w.at) (cursor_step g) (way_from k (suc g) (omega arith)) in
      step_way fm n l laid (used_of fm n t l) (owes_after fm n t l) g (cursor g).at (cursor g).owes (omega arith)
      (cell_at g (omega arith) ∙ ap (λ (w : Cursor). (give fm n l g w).cell) same)
      (rw (add-one g) (subst (λ (v : Given). Goes (suc g) v.owes v.at) (ap (give fm n l g) same) r))

  -- a writer that owes t fills a container from the list l in the one way
  pub one_way : Way fm n l laid (used_of fm n t l) (owes_after fm n t l) 0 t 0
  unfolding cursor_last
  one_way = way_from 12 0 refl

-- ---- no other cells go that way

module _ (fm : Format) (n : Grant) (l : List ℕ) (es : List Cell) (used : ℕ) (owes : List ℕ) (count : length es ≡ 12) where
  abbrev cursor_with : ℕ → List ℕ → ℕ → Cursor
  cursor_with g t at = record { owes = t; at = at; group = group_at es g }

  -- the machine goes on from granule g as the cells do, to their end
  record Same (g : ℕ) (t : List ℕ) (at k : ℕ) : Type 0 where
    same_cells : drop g es ≡ plan fm n l k g (cursor_with g t at)
    same_used : used ≡ (cursor_last fm n l k g (cursor_with g t at)).at
    same_owes : owes ≡ (cursor_last fm n l k g (cursor_with g t at)).owes

  back : (g k : ℕ) (t : List ℕ) (at : ℕ) (v : Given) → g + suc k ≡ 12 → give fm n l g (cursor_with g t at) ≡ v → cell_of es g ≡ v.cell
      → Same (g + 1) v.owes v.at k → Same g t at (suc k)
  unfolding plan cursor_last
  back g k t at v e q c r =
      let group : group_at es (g + 1) ≡ group_after g (group_at es g) v.cell =
      ap (group_at es) (add-one g) ∙ sym (group_next_law es g (rw count (omega arith))) ∙ ap (group_after g (group_at es g)) c in
      let w : cursor_with (g + 1) v.owes v.at ≡ cursor_after g (cursor_with g t at) (give fm n l g (cursor_with g t at)) =
      (λ i. record { owes = v.owes; at = v.at; group = group i }) ∙ ap (cursor_after g (cursor_with g t at)) (sym q) in
      record {
        same_cells =
            drop-cons es g (empty_cell 0) (rw count (omega arith))
            ∙ ap (λ (x : Cell). x ∷ drop (suc g) es) (c ∙ ap (λ (x : Given). x.cell) (sym q))
            ∙ ap (λ (x : List Cell). (give fm n l g (cursor_with g t at)).cell ∷ x) (ap (λ (i : ℕ). drop i es) (sym (add-one g)) ∙ r.same_cells ∙ ap (plan fm n l k (g + 1)) w);
        same_used = r.same_used ∙ ap (λ (x : Cursor). (cursor_last fm n l k (g + 1) x).at) w;
        same_owes = r.same_owes ∙ ap (λ (x : Cursor). (cursor_last fm n l k (g + 1) x).owes) w;
      }

  -- a granule that stays empty
  give_empty : (g : ℕ) (t : List ℕ) (at : ℕ) → length t ≡ 0 → ((s f : ℕ) → first_of (drop at l) ≡ Whole s f → may_start fm n es g (message_of (drop at l) s f) ≡ false)
      → give fm n l g (cursor_with g t at) ≡ nothing fm g (cursor_with g t at)
  give_empty g t at z h = rw (eq-eqb (length t) 0 z) (start_none fm l g (cursor_with g t at) (may_start fm n es g) (λ m. drop (fm.size g) m) (first_of (drop at l)) refl h)

  skip : (d k g : ℕ) (t : List ℕ) (at : ℕ) → g + (d + k) ≡ 12 → length t ≡ 0
      → ((s f : ℕ) → first_of (drop at l) ≡ Whole s f → NoneLegal fm n es g (g + d) (message_of (drop at l) s f)) → Empties fm es g (g + d)
      → Same (g + d) t at k → Same g t at (d + k)
  skip zero k g t at e z none empty r =
      let a : g + 0 ≡ g = omega arith in
      let b : k ≡ 0 + k = omega arith in
      subst (Same g t at) b (subst (λ (i : ℕ). Same i t at k) a r)
  skip (suc d) k g t at e z none empty r =
      let q : g + suc d ≡ (g + 1) + d = omega arith in
      let more : suc (d + k) ≡ suc d + k = omega arith in
      subst (Same g t at) more
      (back g (d + k) t at (nothing fm g (cursor_with g t at)) (omega arith)
      (give_empty g t at z (λ s f x. none s f x g (omega arith) (omega arith))) (empty g (omega arith) (omega arith))
      (skip d k (g + 1) t at (omega arith) z (λ s f x j a b. none s f x j (omega arith) (omega arith)) (λ j a b. empty j (omega arith) (omega arith))
      (subst (λ (i : ℕ). Same i t at k) q r)))

  -- behind the last granule
  same_end : (g : ℕ) (t : List ℕ) (at : ℕ) → g ≡ 12 → used ≡ at → owes ≡ t → Same g t at 0
  unfolding plan cursor_last
  same_end g t at e u o = record { same_cells = drop_of_length-le es {i = g} (rw count (omega arith)); same_used = u; same_owes = o }

  follow : {g at : ℕ} {t : List ℕ} → Way fm n l es used owes g t at → (k : ℕ) → g + k ≡ 12 → Same g t at k
  follow (goes_on b p w c r) zero e = absurd (omega arith)
  follow (goes_on {g = g} {at = at} {t = t} b p w c r) (suc k) e =
      back g k t at (record { cell = on_cell (fm.size g) t; owes = drop (fm.size g) t; at = at }) e (rw (ne_eqb (length t) 0 (λ z. omega arith), w)) c (follow r k (omega arith))
  follow (puts_beneath s f b p w q may c r) zero e = absurd (omega arith)
  follow (puts_beneath {g = g} {at = at} {t = t} s f b p w q may c r) (suc k) e =
      back g k t at (record { cell = start_cell (fm.size g) (message_of (drop at l) s f); owes = t; at = at + f }) e
      (rw (ne_eqb (length t) 0 (λ z. omega arith), w, q, may)) c (follow r k (omega arith))
  follow (passes_over b p w none c r) zero e = absurd (omega arith)
  follow (passes_over {g = g} {at = at} {t = t} b p w none c r) (suc k) e =
      back g k t at (nothing fm g (cursor_with g t at)) e (rw (ne_eqb (length t) 0 (λ z. omega arith), w) (start_none fm l g (cursor_with g t at) (may_lie fm n es g) (λ m. t) (first_of (drop at l)) refl none)) c (follow r k (omega arith))
  follow (starts {g = g} {at = at} {t = t} h s f a b z q may none empty cell r) k e =
      let there : g + (h - g) ≡ h = omega arith in
      let long : (h - g) + suc (11 - h) ≡ k = omega arith in
      let v : Given = record { cell = start_cell (fm.size h) (message_of (drop at l) s f); owes = drop (fm.size h) (message_of (drop at l) s f); at = at + f } in
      subst (Same g t at) long
      (skip (h - g) (suc (11 - h)) g t at (omega arith) z
      (λ s' f' q'. let es' : s ≡ s' = cc in let ef : f ≡ f' = cc in rw (← es', ← ef) (subst (λ (i : ℕ). NoneLegal fm n es g i (message_of (drop at l) s f)) (sym there) none))
      (subst (Empties fm es g) (sym there) empty)
      (subst (λ (i : ℕ). Same i t at (suc (11 - h))) (sym there)
      (back h (11 - h) t at v (omega arith) (rw (eq-eqb (length t) 0 z, q, may)) cell (follow r (11 - h) (omega arith)))))
  follow (stops {g = g} {at = at} {t = t} b z none empty u o) k e =
      let none_more : k + 0 ≡ k = omega arith in
      subst (Same g t at) none_more
      (skip k 0 g t at (omega arith) z (λ s f q. subst (λ (i : ℕ). NoneLegal fm n es g i (message_of (drop at l) s f)) (sym e) (none s f q)) (subst (Empties fm es g) (sym e) empty)
      (same_end (g + k) t at e u o))
  follow (ends {g = g} {at = at} {t = t} a u o) k e = let z : k ≡ 0 = omega arith in subst (Same g t at) (sym z) (same_end g t at a u o)

-- the one way is that of the plan, and there is no other
pub one_way_exactly : (fm : Format) (n : Grant) (l t : List ℕ) (es : List Cell) (used : ℕ) (owes : List ℕ)
    → ((length es ≡ 12) × Way fm n l es used owes 0 t 0) ↔ ((es ≡ plan fm n l 12 0 (cursor_of t)) × (used ≡ used_of fm n t l) × (owes ≡ owes_after fm n t l))
unfolding used_of owes_after
one_way_exactly fm n l t es used owes = (
  λ h. let r = follow fm n l es used owes h.0 h.1 12 refl in (r.same_cells, r.same_used, r.same_owes),
  λ h. (ap length h.0 ∙ plan_length fm n l 12 0 (cursor_of t), rw (h.0, h.1, h.2) (one_way fm n l t)),
)

-- any two that go the one way have the same twelve cells, use the same bytes and owe the same
pub one_way_only : (fm : Format) (n : Grant) (l t : List ℕ) (es es' : List Cell) (used used' : ℕ) (owes owes' : List ℕ) → length es ≡ 12 → length es' ≡ 12
    → Way fm n l es used owes 0 t 0 → Way fm n l es' used' owes' 0 t 0 → (es ≡ es') × (used ≡ used') × (owes ≡ owes')
one_way_only fm n l t es es' used used' owes owes' c c' w w' =
    let a = (one_way_exactly fm n l t es used owes).0 (c, w) in
    let b = (one_way_exactly fm n l t es' used' owes').0 (c', w') in
    (a.0 ∙ sym b.0, a.1 ∙ sym b.1, a.2 ∙ sym b.2)

-- an Activation beside a count in the header grant has no legal granule
pub activation_waits : (fm : Format) (n : Grant) (es : List Cell) (m : List ℕ) → no_counts n ≡ false → is_misc m activation ≡ true → (j : ℕ) → may_start fm n es j m ≡ false
activation_waits fm n es m c a j = rw (a, c, and_false (placed fm j m))
