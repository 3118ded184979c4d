-- The faults of a container over its cells are those of the table, wherever nothing comes before them. Assumes nothing.
use Prim.Native.Nat.{ℕ, ◌+◌, ◌*◌, ◌/◌, ◌%◌, ◌≤◌, ◌<◌}
use mathlib.Core.Path.{◌≡◌, refl, sym, subst}
use mathlib.Core.Bool.{true, false}
use mathlib.Core.List.{List}
use mathlib.Core.Logic.{inl, inr, ⊎_elim, ◌↔◌}
use native.Mathlib.Omega.{arith}
use lib.ListN.{length, get_or}
use lib.Dec.{T, eqb, ltb}
use borrow.Author.Tests.{eq-eqb, eqb-true, ltb-true, ltb-false}
use Rattle.lists.proofs.Tests.{cases, T_true, true_t, never_both, not_true_false}
use Rattle.cause.specs.Causes.{cause_number}
use Rattle.cause.specs.declared.Cause.{Cause}
use Rattle.cause.specs.declared.Cause.TheVariants.{ReservedBitSet, HeaderGrantForm, StartInsideMessage, UnknownMessage, PlaceNotAllowed, HeadWrong, UnusedByteNotZero, GapInGroup, SecondMisc, TooManyResponses, GrantBesideActivation}
use Rattle.container.specs.Layout.{Format, granule, header, msg_start, bit}
use Rattle.container.specs.Lawful.{Lawful}
use Rattle.message.specs.Heads.{msg_size, well_headed}
use Rattle.message.specs.HeadRules.{Bytes}
use Rattle.message.specs.Places.{placed}
use Rattle.message.proofs.HeadRuleLaws.{bytes_size, bytes_some, size_bytes, head_exactly}
use Rattle.message.proofs.PlaceRuleLaws.{place_exactly}
use Rattle.placement.specs.Cells.{Cell, carry_ok}
use Rattle.placement.proofs.Keeps.{progress, cell_of, KeepsGranule}
use Rattle.placement.specs.Rules.{start_bit, Starts, Origin, GoesOn, Populated}
use Rattle.placement.proofs.OccupyLaws.{Follow, follow_to, goes_exactly}
use Rattle.placement.proofs.RulesLaws.{unused_behind, behind_unused}
use Rattle.placement.specs.Faults.{ContainerFault}
use Rattle.cause.specs.Order.{rank}
use Rattle.cause.proofs.NamedLaws.{turn_of}
use Rattle.placement.proofs.CellFaults.{Filled, StartsMisc, CellFault}
use Rattle.lists.proofs.FailLaws.{not_zero}

module _ (fm : Format) (m c : List ℕ) where
  -- a cell starts exactly where its bit is set
  pub starts_in_law : (g : ℕ) → T (cell_of fm c m g).starts → Starts fm c g
  unfolding cell_of
  starts_in_law g t = eqb-true (start_bit fm c g) 1 (T_true (bit (msg_start fm c) g) t)

  pub starts_cell : (g : ℕ) → Starts fm c g → T (cell_of fm c m g).starts
  unfolding cell_of
  starts_cell g s = true_t (bit (msg_start fm c) g) (eq-eqb (start_bit fm c g) 1 s)

  -- no fault of a container comes before rank 4
  pub cells_late : (k : Cause) (p : ℕ) → CellFault fm m c k p → 4 ≤ turn_of k p
  cells_late k p (CellFault.reserved h) = omega arith
  cells_late k p (CellFault.form s h) = omega arith
  cells_late k p (CellFault.inside g b t s) = omega arith
  cells_late k p (CellFault.unknown g b s e) = omega arith
  cells_late k p (CellFault.place g b s e) = omega arith
  cells_late k p (CellFault.head g b s e) = omega arith
  cells_late k p (CellFault.unused g i b l h) = omega arith
  cells_late k p (CellFault.gap q i j b l u x y) = omega arith
  cells_late k p (CellFault.second q i j b l u x y) = omega arith
  cells_late k p (CellFault.many q b h) = omega arith
  cells_late k p (CellFault.beside g b a h) = omega arith

  pub rows_late : (j q : ℕ) → ContainerFault fm m c j q → 4 ≤ rank j q
  rows_late j q (ContainerFault.reserved h) = omega arith
  rows_late j q (ContainerFault.form s h) = omega arith
  rows_late j q (ContainerFault.inside g o n b s v) = omega arith
  rows_late j q (ContainerFault.unknown g b s e) = omega arith
  rows_late j q (ContainerFault.place g b s e) = omega arith
  rows_late j q (ContainerFault.head g b s e) = omega arith
  rows_late j q (ContainerFault.unused g i b u h) = omega arith
  rows_late j q (ContainerFault.gap r g h b a d l x y) = omega arith
  rows_late j q (ContainerFault.second r g h b a d l s x t y) = omega arith
  rows_late j q (ContainerFault.many r b h) = omega arith
  rows_late j q (ContainerFault.beside g b s a h) = omega arith

  -- and none has a number over 13
  pub container_numbers : (j q : ℕ) → ContainerFault fm m c j q → j ≤ 13
  container_numbers j q (ContainerFault.reserved h) = omega arith
  container_numbers j q (ContainerFault.form s h) = omega arith
  container_numbers j q (ContainerFault.inside g o n b s v) = omega arith
  container_numbers j q (ContainerFault.unknown g b s e) = omega arith
  container_numbers j q (ContainerFault.place g b s e) = omega arith
  container_numbers j q (ContainerFault.head g b s e) = omega arith
  container_numbers j q (ContainerFault.unused g i b u h) = omega arith
  container_numbers j q (ContainerFault.gap r g h b a d l x y) = omega arith
  container_numbers j q (ContainerFault.second r g h b a d l s x t y) = omega arith
  container_numbers j q (ContainerFault.many r b h) = omega arith
  container_numbers j q (ContainerFault.beside g b s a h) = omega arith

module _ (fm : Format) (law : Lawful fm) (m c : List ℕ) (n256 : length c ≡ 256) (valid : carry_ok m ≡ true) where
  abbrev cell : ℕ → Cell
  cell g = cell_of fm c m g

  -- no fault has a rank below r
  abbrev pub Before : ℕ → Type 0
  Before r = (k : Cause) (p : ℕ) → CellFault fm m c k p → turn_of k p < r → ⊥

  -- the granules whose faults all come before r keep the rules
  module _ (r : ℕ) (none : Before r) where
    known_at : (g : ℕ) → g < 12 → 106 + 10 * g < r → T (cell g).starts → 0 < msg_size (cell g).bytes
    known_at g b l s =
        ⊎_elim (λ (e : ltb 0 (msg_size (cell g).bytes) ≡ true). ltb-true 0 (msg_size (cell g).bytes) e)
        (λ (e : ltb 0 (msg_size (cell g).bytes) ≡ false). let z = ltb-false 0 (msg_size (cell g).bytes) e in absurd (none UnknownMessage g (CellFault.unknown g b s (omega arith)) (omega arith)))
        (cases (ltb 0 (msg_size (cell g).bytes)))

    keeps_at : (g : ℕ) → g < 12 → 109 + 10 * g < r → KeepsGranule fm g (cell g)
    keeps_at g b l = record {
      apart = λ t s. none StartInsideMessage g (CellFault.inside g b t s) (omega arith);
      known = λ s. known_at g b (omega arith) s;
      place = λ s. true_t (placed fm g (cell g).bytes) (⊎_elim (λ e. e) (λ e. absurd (none PlaceNotAllowed g (CellFault.place g b s e) (omega arith))) (cases (placed fm g (cell g).bytes)));
      head = λ s. true_t (well_headed (cell g).bytes) (⊎_elim (λ e. e) (λ e. absurd (none HeadWrong g (CellFault.head g b s e) (omega arith))) (cases (well_headed (cell g).bytes)));
      zero = λ i u. ⊎_elim (λ e. eqb-true (get_or (cell g).bytes i 0) 0 e) (λ e. absurd (none UnusedByteNotZero g (CellFault.unused g i b u (not_zero (get_or (cell g).bytes i 0) e)) (omega arith))) (cases (eqb (get_or (cell g).bytes i 0) 0));
    }

    -- so a cell goes on exactly where a message does
    goes_at : (g : ℕ) → g < 12 → 100 + 10 * g ≤ r → T (cell g).goes_on ↔ ((o : Origin) × (n : ℕ) × GoesOn fm m c o n g)
    goes_at g b l = goes_exactly fm law m c n256 valid g b (λ h k. keeps_at h (omega arith) (omega arith))

    follow_at : (g : ℕ) → g < 12 → 100 + 10 * g ≤ r → Follow fm law m c n256 valid g (progress fm c m g)
    follow_at g b l = follow_to fm law m c n256 valid g (omega arith) (λ h k. keeps_at h (omega arith) (omega arith))

    filled_of : (g : ℕ) → g < 12 → 100 + 10 * g ≤ r → Filled (cell g) → Populated fm m c g
    filled_of g b l h = ⊎_elim (λ (t : T (cell g).goes_on). inr ((goes_at g b l).0 t)) (λ (t : T (cell g).starts). inl (starts_in_law fm m c g t)) h

    filled_to : (g : ℕ) → g < 12 → 100 + 10 * g ≤ r → Populated fm m c g → Filled (cell g)
    filled_to g b l h = ⊎_elim (λ (s : Starts fm c g). inr (starts_cell fm m c g s)) (λ v. inl ((goes_at g b l).1 v)) h

    -- a message that starts where nothing comes before its kind is one of the table
    bytes_at : (g : ℕ) → g < 12 → 106 + 10 * g < r → T (cell g).starts → Bytes (granule fm g c) (msg_size (granule fm g c))
    unfolding cell_of
    bytes_at g b l s = size_bytes (granule fm g c) (known_at g b l s)

  -- ---- granule rows
  unknown_to : (g : ℕ) → msg_size (cell g).bytes ≡ 0 → (n : ℕ) → Bytes (granule fm g c) n → ⊥
  unfolding cell_of
  unknown_to g e n b = let z = bytes_size (granule fm g c) b in let y = bytes_some (granule fm g c) b in omega arith

  unknown_of : (g : ℕ) → ((n : ℕ) → Bytes (granule fm g c) n → ⊥) → msg_size (cell g).bytes ≡ 0
  unfolding cell_of
  unknown_of g h =
      ⊎_elim (λ (e : eqb (msg_size (granule fm g c)) 0 ≡ true). eqb-true (msg_size (granule fm g c)) 0 e)
      (λ (e : eqb (msg_size (granule fm g c)) 0 ≡ false). absurd (h (msg_size (granule fm g c)) (size_bytes (granule fm g c) (not_zero (msg_size (granule fm g c)) e))))
      (cases (eqb (msg_size (granule fm g c)) 0))

  -- with nothing before a fault of the cells, it is one of the table
  pub row_of : (k : Cause) (p : ℕ) → CellFault fm m c k p → Before (turn_of k p) → ContainerFault fm m c (cause_number k) p
  unfolding cell_of
  row_of k p (CellFault.reserved h) none = ContainerFault.reserved h
  row_of k p (CellFault.form s h) none = ContainerFault.form (eqb-true (header fm c 2 % 2) 1 s) h
  row_of k p (CellFault.inside g b t s) none =
      let v = (goes_at (turn_of StartInsideMessage g) none g b (omega arith)).0 t in ContainerFault.inside g v.0 v.1 b (starts_in_law fm m c g s) v.2
  row_of k p (CellFault.unknown g b s e) none = ContainerFault.unknown g b (starts_in_law fm m c g s) (unknown_to g e)
  row_of k p (CellFault.place g b s e) none =
      let r = bytes_at (turn_of PlaceNotAllowed g) none g b (omega arith) s in
      ContainerFault.place g b (starts_in_law fm m c g s) (λ h. never_both e ((place_exactly fm law g b (granule fm g c) (msg_size (granule fm g c)) r).1 h))
  row_of k p (CellFault.head g b s e) none =
      let r = bytes_at (turn_of HeadWrong g) none g b (omega arith) s in
      ContainerFault.head g b (starts_in_law fm m c g s) (λ h. never_both e ((head_exactly (granule fm g c) (msg_size (granule fm g c)) r).1 h))
  row_of k p (CellFault.unused g i b l h) none =
      let f = follow_at (turn_of UnusedByteNotZero g) none g b (omega arith) in
      ContainerFault.unused g i b
      (⊎_elim (λ e. absurd (omega arith)) (λ u. u) (behind_unused fm law m c n256 valid g (progress fm c m g) b f (λ s. known_at (turn_of UnusedByteNotZero g) none g b (omega arith) s) i l)) h
  row_of k p (CellFault.gap q i j b l u x y) none =
      ContainerFault.gap q (3 * q + i) (3 * q + j) b (omega arith) (omega arith) (omega arith)
      (λ h. x (filled_to (turn_of GapInGroup q) none (3 * q + i) (omega arith) (omega arith) h)) (filled_of (turn_of GapInGroup q) none (3 * q + j) (omega arith) (omega arith) y)
  row_of k p (CellFault.second q i j b l u x y) none =
      ContainerFault.second q (3 * q + i) (3 * q + j) b (omega arith) (omega arith) (omega arith) (starts_in_law fm m c (3 * q + i) x.0) x.1 (starts_in_law fm m c (3 * q + j) y.0) y.1
  row_of k p (CellFault.many q b h) none = ContainerFault.many q b h
  row_of k p (CellFault.beside g b a h) none = ContainerFault.beside g b (starts_in_law fm m c g a.0) (a.1, a.2) h

  -- ---- back
  -- granule g of group q, by its place in the group
  within : (q g : ℕ) → g / 3 ≡ q → 3 * q + g % 3 ≡ g
  within q g e = omega arith

  -- with nothing before a row of the table, it is a fault of the cells
  pub of_row : (j q : ℕ) → ContainerFault fm m c j q → Before (rank j q) → (k : Cause) × (cause_number k ≡ j) × CellFault fm m c k q
  unfolding cell_of
  of_row j q (ContainerFault.reserved h) none = (ReservedBitSet, refl, CellFault.reserved h)
  of_row j q (ContainerFault.form s h) none = (HeaderGrantForm, refl, CellFault.form (eq-eqb (header fm c 2 % 2) 1 s) h)
  of_row j q (ContainerFault.inside g o n b s v) none = (StartInsideMessage, refl, CellFault.inside g b ((goes_at (rank 5 g) none g b (omega arith)).1 (o, n, v)) (starts_cell fm m c g s))
  of_row j q (ContainerFault.unknown g b s e) none = (UnknownMessage, refl, CellFault.unknown g b (starts_cell fm m c g s) (unknown_of g e))
  of_row j q (ContainerFault.place g b s e) none =
      let r = bytes_at (rank 7 g) none g b (omega arith) (starts_cell fm m c g s) in
      (PlaceNotAllowed, refl, CellFault.place g b (starts_cell fm m c g s) (not_true_false _ (λ t. e ((place_exactly fm law g b (granule fm g c) (msg_size (granule fm g c)) r).0 t))))
  of_row j q (ContainerFault.head g b s e) none =
      let r = bytes_at (rank 8 g) none g b (omega arith) (starts_cell fm m c g s) in
      (HeadWrong, refl, CellFault.head g b (starts_cell fm m c g s) (not_true_false _ (λ t. e ((head_exactly (granule fm g c) (msg_size (granule fm g c)) r).0 t))))
  of_row j q (ContainerFault.unused g i b u h) none =
      let f = follow_at (rank 9 g) none g b (omega arith) in
      (UnusedByteNotZero, refl, CellFault.unused g i b (unused_behind fm law m c n256 valid g (progress fm c m g) b f (λ t s. none StartInsideMessage g (CellFault.inside g b t s) (omega arith)) i u) h)
  of_row j q (ContainerFault.gap r g h b a d l x y) none =
      let eg = within r g a in
      let eh = within r h d in (
        GapInGroup,
        refl,
        CellFault.gap r (g % 3) (h % 3) b (omega arith) (omega arith)
            (λ t. x (filled_of (rank 10 r) none g (omega arith) (omega arith) (subst (λ (z : ℕ). Filled (cell z)) eg t))) (subst (λ (z : ℕ). Filled (cell z)) (sym eh) (filled_to (rank 10 r) none h (omega arith) (omega arith) y)),
      )
  of_row j q (ContainerFault.second r g h b a d l s x t y) none = (
    SecondMisc,
    refl,
    CellFault.second r (g % 3) (h % 3) b (omega arith) (omega arith)
        (subst (λ (z : ℕ). StartsMisc (cell z)) (sym (within r g a)) (starts_cell fm m c g s, x)) (subst (λ (z : ℕ). StartsMisc (cell z)) (sym (within r h d)) (starts_cell fm m c h t, y)),
  )
  of_row j q (ContainerFault.many r b h) none = (TooManyResponses, refl, CellFault.many r b h)
  of_row j q (ContainerFault.beside g b s a h) none = (GrantBesideActivation, refl, CellFault.beside g b (starts_cell fm m c g s, a.0, a.1) h)
