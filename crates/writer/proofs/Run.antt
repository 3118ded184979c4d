-- The granules of a container one after the other: the reader follows the writer's plan. Assumes nothing.
use Prim.Native.Nat.{ℕ, zero, suc, ◌+◌, ◌<◌}
use mathlib.Core.Path.{◌≡◌, refl, sym, ap, ◌∙◌}
use mathlib.Core.Bool.{◌&&◌}
use mathlib.Core.List.{List, [], ◌∷◌, ◌++◌, append_assoc, append-nil}
use mathlib.Core.Logic.{◌⊎◌, inl, inr, ⊎_elim}
use native.Mathlib.Omega.{arith}
use lib.ListN.{length}
use lib.Dec.{ltb}
use Rattle.cause.specs.Checks.{Pass}
use Rattle.container.specs.Layout.{Format, wide, granule, bit, msg_start}
use Rattle.container.specs.declared.grant.Grant.{Grant}
use Rattle.placement.specs.Cells.{Cell, owed, cell_at, after, ended, cells, carry_after, endings}
use Rattle.placement.specs.Checking.{cell_checks}
use Rattle.writer.specs.Plan.{Cursor, Given, give, cursor_after, plan, cursor_last}
use Rattle.writer.proofs.OtherOrder.{OtherOrder, unchanged, other_order_on, other_order_through}
use Rattle.writer.proofs.Simulation.{Link, begun, Left, Steps, step_followed}

-- a cell of the writer, with m read before it: as the reader sees it, of its granule's size, and with its rules kept
pub record WrittenCell (fm : Format) (g : ℕ) (m : List ℕ) (e : Cell) : Type 0 where
  pub on : (ltb 0 (owed m) && wide fm g) ≡ e.goes_on
  pub long : length e.bytes ≡ fm.size g
  pub fine : Pass (cell_checks fm g e)

-- cells of the writer from granule g on
abbrev pub Written : Format → ℕ → List ℕ → List Cell → Type 0
Written fm g m [] = Unit {0}
Written fm g m (e ∷ es) = WrittenCell fm g m e × Written fm (g + 1) (after fm g e m) es

-- the reader behind the cells es from granule g on, and the writer behind them
pub record Ran (fm : Format) (l : List ℕ) (g : ℕ) (m t : List ℕ) (at : ℕ) (ms : List (List ℕ)) (es : List Cell) (w : Cursor) : Type 0 where
  pub written : Written fm g m es
  pub taken : List (List ℕ)
  pub rest : List (List ℕ)
  pub split : ms ≡ taken ++ rest
  pub left : Left l w.at rest
  pub link : Link (carry_after fm g es m) w.owes
  pub out : OtherOrder fm (endings fm g es m ++ begun (carry_after fm g es m) w.owes) (begun m t ++ taken)
  pub moved : ((rest ≡ ms) × (w.at ≡ at)) ⊎ (at < w.at)

-- two steps along the list
moved_on : {a b c : List (List ℕ)} {i j k : ℕ} → ((b ≡ a) × (j ≡ i)) ⊎ (i < j) → ((c ≡ b) × (k ≡ j)) ⊎ (j < k) → ((c ≡ a) × (k ≡ i)) ⊎ (i < k)
moved_on p q =
    ⊎_elim (λ x. ⊎_elim (λ y. inl (y.0 ∙ x.0, y.1 ∙ x.1)) (λ y. inr (omega (arith, x.1))) q)
    (λ x. ⊎_elim (λ y. inr (omega (arith, y.1))) (λ y. inr (omega arith)) q) p

module _ (fm : Format) (n : Grant) (l : List ℕ) where
  pub plan_followed : (k g : ℕ) (m : List ℕ) (ms : List (List ℕ)) (w : Cursor) → Link m w.owes → Left l w.at ms
      → Ran fm l g m w.owes w.at ms (plan fm n l k g w) (cursor_last fm n l k g w)
  unfolding plan cursor_last carry_after endings
  plan_followed zero g m ms w link left = record { written = tt; taken = []; rest = ms; split = refl; left = left; link = link; out = unchanged (sym (append-nil (begun m w.owes))); moved = inl (refl, refl) }
  plan_followed (suc k) g m ms w link left =
      joined (step_followed fm n l g w.at w.group m w.owes ms link left)
      (λ rest a b. plan_followed k (g + 1) (after fm g (give fm n l g w).cell m) rest (cursor_after g w (give fm n l g w)) a b)
    where
      v : Given
      v = give fm n l g w

      es : List Cell
      es = plan fm n l k (g + 1) (cursor_after g w v)

      m' : List ℕ
      m' = after fm g v.cell m

      joined : Steps fm l g m w.owes w.at ms v
          → ((rest : List (List ℕ)) → Link m' v.owes → Left l v.at rest → Ran fm l (g + 1) m' v.owes v.at rest es (cursor_last fm n l k (g + 1) (cursor_after g w v)))
          → Ran fm l g m w.owes w.at ms (v.cell ∷ es) (cursor_last fm n l k (g + 1) (cursor_after g w v))
      joined s go =
          let f = s.follows in
          let r = go s.rest f.link s.left in
          record {
            written = (record { on = f.on; long = f.long; fine = f.fine }, r.written);
            taken = s.taken ++ r.taken;
            rest = r.rest;
            split = s.split ∙ ap (λ (x : List (List ℕ)). s.taken ++ x) r.split ∙ sym (append_assoc s.taken r.taken r.rest);
            left = r.left;
            link = r.link;
            out =
                other_order_on
                (other_order_through (ended v.cell m) (begun m' v.owes) (begun m w.owes ++ s.taken) (endings fm (g + 1) es m')
                (begun (carry_after fm (g + 1) es m') (cursor_last fm n l k (g + 1) (cursor_after g w v)).owes) r.taken f.out r.out)
                (unchanged (append_assoc (begun m w.owes) s.taken r.taken));
            moved = moved_on s.moved r.moved;
          }

-- what a container shows of cells: their bytes and their starts
abbrev pub Shows : Format → List ℕ → ℕ → List Cell → Type 0
Shows fm c g [] = Unit {0}
Shows fm c g (e ∷ es) = ((granule fm g c ≡ e.bytes) × (bit (msg_start fm c) g ≡ e.starts)) × Shows fm c (g + 1) es

-- a container that shows the cells of a writer is read as these cells
pub cells_shown : (fm : Format) (c : List ℕ) (es : List Cell) (g : ℕ) (m : List ℕ) → Written fm g m es → Shows fm c g es → cells fm c (length es) g m ≡ es
unfolding cells
cells_shown fm c [] g m a s = refl
cells_shown fm c (e ∷ es) g m a s =
    let h : cell_at fm g c m ≡ e = λ i. record { goes_on = a.0.on i; starts = s.0.1 i; bytes = s.0.0 i } in
    ap (λ (x : Cell). x ∷ cells fm c (length es) (g + 1) (after fm g x m)) h ∙ ap (λ (r : List Cell). e ∷ r) (cells_shown fm c es (g + 1) (after fm g e m) a.1 s.1)
