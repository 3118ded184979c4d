-- A container passes the reader's checks exactly where it keeps the packing rules. Assumes nothing.
use Prim.Native.Nat.{ℕ, zero, suc, ◌+◌, ◌-◌, ◌*◌, ◌≤◌, ◌<◌}
use mathlib.Core.Path.{◌≡◌, refl, sym, ap, ◌∙◌, subst}
use mathlib.Core.Bool.{Bool, true, false, ◌&&◌, ◌||◌, not}
use mathlib.Core.List.{List, [], ◌∷◌, ◌++◌}
use mathlib.Core.Logic.{⊎_elim, ◌↔◌}
use native.Mathlib.Omega.{arith}
use lib.ListN.{get_or, drop}
use lib.Dec.{T, eqb, ltb, ltb→lt, lt→ltb, eqb→eq}
use lib.Seq.{get_or-drop}
use borrow.Author.Tests.{lt-ltb, le-leb, eq-eqb, ltb-true, leb-true, eqb-true, eqb-false}
use Rattle.lists.specs.Pick.{pick}
use Rattle.lists.proofs.Tests.{cases, T_true, true_t, and_left, and_right, or_cases, or_true, never_both}
use Rattle.lists.proofs.ZeroLaws.{zeros_at, at_zeros}
use Rattle.cause.specs.Checks.{Pass}
use Rattle.cause.proofs.CheckLaws.{pass_append, pass_front, pass_back}
use Rattle.container.specs.Layout.{Format, header}
use Rattle.container.specs.Grants.{header_grant, no_counts, reserved_ok}
use Rattle.container.specs.declared.grant.Grant.{Grant}
use Rattle.message.specs.Heads.{msg_size, known, well_headed, is_misc, activation}
use Rattle.message.specs.Places.{placed, miscs, responses}
use Rattle.placement.specs.Cells.{Cell, cells}
use Rattle.placement.specs.Checking.{used, cell_checks, granule_checks, populated, no_gap, starting, sum_of, one_misc, four_responses, group_checks, activations, quiet, activation_checks, container_checks}
use Rattle.placement.proofs.Keeps.{progress, cell_of, KeepsGranule, KeepsGroup, NoCounts, Keeps}
use Rattle.placement.proofs.ProgressLaws.{list_from, cells_of}

-- ---- tests as statements
guarded : (a b : Bool) → ((not a || b) ≡ true) ↔ (T a → T b)
guarded true b = (λ (e : b ≡ true). λ t. true_t b e, λ (f : T true → T b). T_true b (f tt))
guarded false b = (λ (e : true ≡ true). λ t. absurd t, λ (f : T false → T b). refl)

not_both : (a b : Bool) → (not (a && b) ≡ true) ↔ (T a → T b → ⊥)
not_both true true = (λ (e : false ≡ true). absurd (never_both refl e), λ (f : T true → T true → ⊥). absurd (f tt tt))
not_both true false = (λ (e : true ≡ true). λ s t. t, λ (f : T true → T false → ⊥). refl)
not_both false b = (λ (e : true ≡ true). λ s t. s, λ (f : T false → T b → ⊥). refl)

-- ---- a granule
pub granule_exactly : (fm : Format) (g : ℕ) (e : Cell) → Pass (cell_checks fm g e) ↔ KeepsGranule fm g e
granule_exactly fm g e = (to, from)
  where
    to : Pass (cell_checks fm g e) → KeepsGranule fm g e
    to p = record {
      apart = (not_both e.goes_on e.starts).0 p.0;
      known = λ t. ltb→lt 0 (msg_size e.bytes) ((guarded e.starts (known e.bytes)).0 p.1.0 t);
      place = (guarded e.starts (placed fm g e.bytes)).0 p.1.1.0;
      head = (guarded e.starts (well_headed e.bytes)).0 p.1.1.1.0;
      zero = λ i l. behind i l;
    }
      where
        behind : (i : ℕ) → used e ≤ i → get_or e.bytes i 0 ≡ 0
        behind i l =
            let j : used e + (i - used e) ≡ i = omega arith in
            rw j at (sym (get_or-drop (used e) e.bytes (i - used e) 0) ∙ zeros_at (drop (used e) e.bytes) p.1.1.1.1.0 (i - used e))

    from : KeepsGranule fm g e → Pass (cell_checks fm g e)
    from k = (
      (not_both e.goes_on e.starts).1 k.apart,
      (
        (guarded e.starts (known e.bytes)).1 (λ t. lt→ltb 0 (msg_size e.bytes) (k.known t)),
        (
          (guarded e.starts (placed fm g e.bytes)).1 k.place,
          (
            (guarded e.starts (well_headed e.bytes)).1 k.head,
            (at_zeros (drop (used e) e.bytes) (λ i. get_or-drop (used e) e.bytes i 0 ∙ k.zero (used e + i) (omega arith)), tt),
          ),
        ),
      ),
    )

-- ---- a rule at each of g, g + 1, .., k of them
abbrev From : (ℕ → Type 0) → ℕ → ℕ → Type 0
From P k g = (j : ℕ) → g ≤ j → j < g + k → P j

none_from : (P : ℕ → Type 0) (g : ℕ) → From P 0 g
none_from P g j a b = absurd (omega arith)

more_from : (P : ℕ → Type 0) (k g : ℕ) → P g → From P k (g + 1) → From P (suc k) g
more_from P k g p r j a b =
    ⊎_elim (λ (e : eqb j g ≡ true). subst P (sym (eqb-true j g e)) p)
    (λ (e : eqb j g ≡ false). let d = eqb-false j g e in r j (omega arith) (omega arith))
    (cases (eqb j g))

rest_from : (P : ℕ → Type 0) (k g : ℕ) → From P (suc k) g → From P k (g + 1)
rest_from P k g r j a b = r j (omega arith) (omega arith)

module _ (fm : Format) (f : ℕ → Cell) where
  abbrev Kept : ℕ → Type 0
  Kept j = KeepsGranule fm j (f j)

  granules_to : (k g : ℕ) → Pass (granule_checks fm g (list_from f k g)) → From Kept k g
  unfolding granule_checks list_from
  granules_to zero g p = none_from Kept g
  granules_to (suc k) g p =
      let r = granule_checks fm (g + 1) (list_from f k (g + 1)) in
      more_from Kept k g ((granule_exactly fm g (f g)).0 (pass_front (cell_checks fm g (f g)) r p)) (granules_to k (g + 1) (pass_back (cell_checks fm g (f g)) r p))

  granules_from : (k g : ℕ) → From Kept k g → Pass (granule_checks fm g (list_from f k g))
  unfolding granule_checks list_from
  granules_from zero g h = tt
  granules_from (suc k) g h =
      pass_append (cell_checks fm g (f g)) (granule_checks fm (g + 1) (list_from f k (g + 1)))
      ((granule_exactly fm g (f g)).1 (h g (omega arith) (omega arith))) (granules_from k (g + 1) (rest_from Kept k g h))

-- ---- a group
gap_exactly : (a b c : Bool) → (pick a (pick b (pick c true true) (not c && true)) (not b && (not c && true)) ≡ true) ↔ ((T b → T a) × (T c → T b))
gap_exactly true true true = (λ e. (λ t. tt, λ t. tt), λ h. refl)
gap_exactly true true false = (λ e. (λ t. tt, λ t. tt), λ h. refl)
gap_exactly true false true = (λ e. absurd (never_both refl e), λ h. absurd (h.1 tt))
gap_exactly true false false = (λ e. (λ t. tt, λ t. t), λ h. refl)
gap_exactly false true true = (λ e. absurd (never_both refl e), λ h. absurd (h.0 tt))
gap_exactly false true false = (λ e. absurd (never_both refl e), λ h. absurd (h.0 tt))
gap_exactly false false true = (λ e. absurd (never_both refl e), λ h. absurd (h.1 tt))
gap_exactly false false false = (λ e. (λ t. t, λ t. t), λ h. refl)

module _ (a b c : Cell) where
  abbrev three : List Cell
  three = a ∷ b ∷ c ∷ []

  group_to : no_gap three ≡ true → one_misc three ≡ true → four_responses three ≡ true → KeepsGroup a b c
  group_to x y z =
      let h = (gap_exactly (populated a) (populated b) (populated c)).0 x in
      let i : sum_of miscs three ≤ 1 = leb-true (sum_of miscs three) 1 y in
      let j : sum_of responses three ≤ 4 = leb-true (sum_of responses three) 4 z in
      record { second = h.0; third = h.1; one_misc = omega arith; four_responses = omega arith }

  module _ (k : KeepsGroup a b c) where
    group_gap : no_gap three ≡ true
    group_gap = (gap_exactly (populated a) (populated b) (populated c)).1 (k.second, k.third)

    group_misc : one_misc three ≡ true
    group_misc = le-leb (sum_of miscs three) 1 (omega (arith, k.one_misc))

    group_responses : four_responses three ≡ true
    group_responses = le-leb (sum_of responses three) 4 (omega (arith, k.four_responses))

module _ (f : ℕ → Cell) where
  -- group q of the twelve granules
  abbrev Grouped : ℕ → Type 0
  Grouped q = KeepsGroup (f (3 * q)) (f (3 * q + 1)) (f (3 * q + 2))

  groups_to : Pass (group_checks 4 0 (list_from f 12 0)) → (q : ℕ) → q < 4 → Grouped q
  unfolding group_checks list_from
  groups_to p zero h = group_to (f 0) (f 1) (f 2) p.0 p.1.0 p.1.1.0
  groups_to p (suc zero) h = let r = p.1.1.1 in group_to (f 3) (f 4) (f 5) r.0 r.1.0 r.1.1.0
  groups_to p (suc (suc zero)) h = let r = p.1.1.1.1.1.1 in group_to (f 6) (f 7) (f 8) r.0 r.1.0 r.1.1.0
  groups_to p (suc (suc (suc zero))) h = let r = p.1.1.1.1.1.1.1.1.1 in group_to (f 9) (f 10) (f 11) r.0 r.1.0 r.1.1.0
  groups_to p (suc (suc (suc (suc q)))) h = absurd (omega arith)

  groups_from : ((q : ℕ) → q < 4 → Grouped q) → Pass (group_checks 4 0 (list_from f 12 0))
  unfolding group_checks list_from
  groups_from h =
      let a = h 0 (omega arith) in
      let b = h 1 (omega arith) in
      let c = h 2 (omega arith) in
      let d = h 3 (omega arith) in (
        group_gap (f 0) (f 1) (f 2) a,
        (
          group_misc (f 0) (f 1) (f 2) a,
          (
            group_responses (f 0) (f 1) (f 2) a,
            (
              group_gap (f 3) (f 4) (f 5) b,
              (
                group_misc (f 3) (f 4) (f 5) b,
                (
                  group_responses (f 3) (f 4) (f 5) b,
                  (
                    group_gap (f 6) (f 7) (f 8) c,
                    (
                      group_misc (f 6) (f 7) (f 8) c,
                      (
                        group_responses (f 6) (f 7) (f 8) c,
                        (group_gap (f 9) (f 10) (f 11) d, (group_misc (f 9) (f 10) (f 11) d, (group_responses (f 9) (f 10) (f 11) d, tt))),
                      ),
                    ),
                  ),
                ),
              ),
            ),
          ),
        ),
      )

-- ---- an Activation beside a grant
module _ (count : List ℕ → ℕ) (f : ℕ → Cell) where
  abbrev None : ℕ → Type 0
  None j = starting count (f j) ≡ 0

  sum_none : (k g : ℕ) → From None k g → sum_of count (list_from f k g) ≡ 0
  unfolding list_from
  sum_none zero g h = refl
  sum_none (suc k) g h = rw (h g (omega arith) (omega arith), sum_none k (g + 1) (rest_from None k g h))

  sum_each : (k g : ℕ) → sum_of count (list_from f k g) ≡ 0 → From None k g
  unfolding list_from
  sum_each zero g e = none_from None g
  sum_each (suc k) g e =
      let a : starting count (f g) + sum_of count (list_from f k (g + 1)) ≡ 0 = e in
      more_from None k g (omega arith) (sum_each k (g + 1) (omega arith))

counts_exactly : (n : Grant) → (no_counts n ≡ true) ↔ ((n.req ≡ 0) × (n.rsp ≡ 0) × (n.snp ≡ 0) × (n.dat ≡ 0))
counts_exactly n = (to, λ h. rw (eq-eqb n.req 0 h.0, eq-eqb n.rsp 0 h.1, eq-eqb n.snp 0 h.2, eq-eqb n.dat 0 h.3))
  where
    to : no_counts n ≡ true → (n.req ≡ 0) × (n.rsp ≡ 0) × (n.snp ≡ 0) × (n.dat ≡ 0)
    to e =
        let r = and_right (eqb n.req 0) (eqb n.rsp 0 && (eqb n.snp 0 && eqb n.dat 0)) e in
        let s = and_right (eqb n.rsp 0) (eqb n.snp 0 && eqb n.dat 0) r in (
          eqb-true n.req 0 (and_left (eqb n.req 0) (eqb n.rsp 0 && (eqb n.snp 0 && eqb n.dat 0)) e),
          eqb-true n.rsp 0 (and_left (eqb n.rsp 0) (eqb n.snp 0 && eqb n.dat 0) r),
          eqb-true n.snp 0 (and_left (eqb n.snp 0) (eqb n.dat 0) s),
          eqb-true n.dat 0 (and_right (eqb n.snp 0) (eqb n.dat 0) s),
        )

-- an Activation starts exactly where the count of a cell is not zero
activation_exactly : (s a : Bool) → (pick {A = ℕ} s (pick a 1 0) 0 ≡ 0) ↔ (T s → T a → ⊥)
activation_exactly true true = (λ e s t. omega arith, λ h. absurd (h tt tt))
activation_exactly true false = (λ e s t. t, λ h. refl)
activation_exactly false a = (λ e s t. s, λ h. refl)

-- ShC 1 requires RP 0
plane_exactly : (s : Bool) (r : ℕ) → ((not s || eqb r 0) ≡ true) ↔ (s ≡ true → r ≡ 0)
plane_exactly true r = (λ e t. eqb-true r 0 e, λ h. eq-eqb r 0 (h refl))
plane_exactly false r = (λ e t. absurd (never_both refl t), λ h. refl)

-- the container's cells, their Activations and the header's counts
module _ (fm : Format) (m c : List ℕ) where
  abbrev cell : ℕ → Cell
  cell = cell_of fm c m

  abbrev Quiet : Type 0
  Quiet = (g : ℕ) → g < 12 → T (cell g).starts → T (is_misc (cell g).bytes activation) → NoCounts fm c

  quiet_to : quiet fm c (list_from cell 12 0) ≡ true → Quiet
  quiet_to e g b s a =
      ⊎_elim (λ (z : T (eqb (sum_of activations (list_from cell 12 0)) 0)). absurd ((activation_exactly (cell g).starts (is_misc (cell g).bytes activation)).0 (sum_each activations cell 12 0 (eqb→eq (sum_of activations (list_from cell 12 0)) 0 z) g (omega arith) (omega arith)) s a))
      (λ (z : T (no_counts (header_grant fm c))). (counts_exactly (header_grant fm c)).0 (T_true (no_counts (header_grant fm c)) z))
      (or_cases (eqb (sum_of activations (list_from cell 12 0)) 0) (no_counts (header_grant fm c)) (true_t (quiet fm c (list_from cell 12 0)) e))

  quiet_from : Quiet → quiet fm c (list_from cell 12 0) ≡ true
  quiet_from h = ⊎_elim zero_counts some_count (cases (no_counts (header_grant fm c)))
    where
      zero_counts : no_counts (header_grant fm c) ≡ true → quiet fm c (list_from cell 12 0) ≡ true
      zero_counts e = ap (λ (t : Bool). eqb (sum_of activations (list_from cell 12 0)) 0 || t) e ∙ or_true (eqb (sum_of activations (list_from cell 12 0)) 0)

      some_count : no_counts (header_grant fm c) ≡ false → quiet fm c (list_from cell 12 0) ≡ true
      some_count e =
          let z : sum_of activations (list_from cell 12 0) ≡ 0 = sum_none activations cell 12 0 (λ j a b. (activation_exactly (cell j).starts (is_misc (cell j).bytes activation)).1 (λ s t. never_both e ((counts_exactly (header_grant fm c)).1 (h j (omega arith) s t)))) in
          ap (λ (t : Bool). t || no_counts (header_grant fm c)) (eq-eqb (sum_of activations (list_from cell 12 0)) 0 z)

  -- ---- the header
  abbrev Reserved : Type 0
  Reserved = (header fm c 1 < 16) × (header fm c 2 < 16) × (header fm c 7 ≡ 0) × (header fm c 8 ≡ 0) × (header fm c 9 ≡ 0)

  reserved_to : reserved_ok fm c ≡ true → Reserved
  reserved_to e =
      let r = and_right (ltb (header fm c 1) 16) (ltb (header fm c 2) 16 && (eqb (header fm c 7) 0 && (eqb (header fm c 8) 0 && eqb (header fm c 9) 0))) e in
      let s = and_right (ltb (header fm c 2) 16) (eqb (header fm c 7) 0 && (eqb (header fm c 8) 0 && eqb (header fm c 9) 0)) r in
      let t = and_right (eqb (header fm c 7) 0) (eqb (header fm c 8) 0 && eqb (header fm c 9) 0) s in (
        ltb-true (header fm c 1) 16 (and_left (ltb (header fm c 1) 16) (ltb (header fm c 2) 16 && (eqb (header fm c 7) 0 && (eqb (header fm c 8) 0 && eqb (header fm c 9) 0))) e),
        ltb-true (header fm c 2) 16 (and_left (ltb (header fm c 2) 16) (eqb (header fm c 7) 0 && (eqb (header fm c 8) 0 && eqb (header fm c 9) 0)) r),
        eqb-true (header fm c 7) 0 (and_left (eqb (header fm c 7) 0) (eqb (header fm c 8) 0 && eqb (header fm c 9) 0) s),
        eqb-true (header fm c 8) 0 (and_left (eqb (header fm c 8) 0) (eqb (header fm c 9) 0) t),
        eqb-true (header fm c 9) 0 (and_right (eqb (header fm c 8) 0) (eqb (header fm c 9) 0) t),
      )

  reserved_from : Reserved → reserved_ok fm c ≡ true
  reserved_from h = rw (lt-ltb (header fm c 1) 16 h.0, lt-ltb (header fm c 2) 16 h.1, eq-eqb (header fm c 7) 0 h.2, eq-eqb (header fm c 8) 0 h.3, eq-eqb (header fm c 9) 0 h.4)

  -- ---- the container
  abbrev es : List Cell
  es = list_from cell 12 0

  keeps_of : Pass (container_checks fm c es) → Keeps fm m c
  unfolding container_checks
  keeps_of p =
      let q = p.1.1 in
      let granules = granules_to fm cell 12 0 (pass_front (granule_checks fm 0 es) (group_checks 4 0 es ++ activation_checks fm c es) q) in
      let r = pass_back (granule_checks fm 0 es) (group_checks 4 0 es ++ activation_checks fm c es) q in
      let last = pass_back (group_checks 4 0 es) (activation_checks fm c es) r in
      record {
        reserved = reserved_to p.0;
        shared = (plane_exactly (header_grant fm c).shc (header_grant fm c).rp).0 p.1.0;
        granules = λ g b. granules g (omega arith) (omega arith);
        groups = groups_to cell (pass_front (group_checks 4 0 es) (activation_checks fm c es) r);
        quiet = quiet_to last.0;
      }

  of_keeps : Keeps fm m c → Pass (container_checks fm c es)
  unfolding container_checks
  of_keeps k = (
    reserved_from k.reserved,
    (
      (plane_exactly (header_grant fm c).shc (header_grant fm c).rp).1 k.shared,
      pass_append (granule_checks fm 0 es) (group_checks 4 0 es ++ activation_checks fm c es) (granules_from fm cell 12 0 (λ g a b. k.granules g (omega arith)))
          (pass_append (group_checks 4 0 es) (activation_checks fm c es) (groups_from cell k.groups)
          (quiet_from k.quiet, tt)),
    ),
  )

  cells_listed : cells fm c 12 0 m ≡ es
  unfolding progress
  cells_listed = cells_of fm c m 12 0

pub passes_keeps : (fm : Format) (m c : List ℕ) → Pass (container_checks fm c (cells fm c 12 0 m)) → Keeps fm m c
passes_keeps fm m c p = keeps_of fm m c (subst (λ (l : List Cell). Pass (container_checks fm c l)) (cells_listed fm m c) p)

pub keeps_passes : (fm : Format) (m c : List ℕ) → Keeps fm m c → Pass (container_checks fm c (cells fm c 12 0 m))
keeps_passes fm m c k = subst (λ (l : List Cell). Pass (container_checks fm c l)) (sym (cells_listed fm m c)) (of_keeps fm m c k)

-- a container passes exactly where it keeps the rules
pub container_exactly : (fm : Format) (m c : List ℕ) → Pass (container_checks fm c (cells fm c 12 0 m)) ↔ Keeps fm m c
container_exactly fm m c = (passes_keeps fm m c, keeps_passes fm m c)
