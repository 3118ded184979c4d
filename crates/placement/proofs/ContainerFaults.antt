-- The checks of a container list its faults, in the order of refusal. Assumes nothing.
use Prim.Native.Nat.{ℕ, zero, suc, ◌+◌, ◌-◌, ◌*◌, ◌≤◌, ◌<◌}
use mathlib.Core.Path.{◌≡◌, refl, sym, ap, ◌∙◌, subst}
use mathlib.Core.Bool.{Bool, true, false, ◌&&◌, ◌||◌, not}
use mathlib.Core.List.{List, [], ◌∷◌, ◌++◌}
use mathlib.Core.Logic.{◌⊎◌, inl, inr, ⊎_elim}
use native.Mathlib.Omega.{arith}
use lib.ListN.{get_or, drop}
use lib.Seq.{get_or-drop}
use lib.Dec.{T, eqb, ltb}
use borrow.Author.Tests.{le-ltb, lt-leb, eq-eqb, ltb-false, leb-false, eqb-true, eqb-false}
use Rattle.lists.specs.Pick.{pick}
use Rattle.lists.specs.Parts.{zeros}
use Rattle.lists.proofs.Tests.{cases, T_true, true_t, never_both, not_true_false, and_false, or_true, and_left, and_right}
use Rattle.lists.proofs.ZeroLaws.{zeros_at}
use Rattle.cause.specs.Checks.{Check, check}
use Rattle.cause.specs.declared.Cause.{Cause}
use Rattle.cause.specs.declared.Cause.TheVariants.{ReservedBitSet, HeaderGrantForm, StartInsideMessage, UnknownMessage, PlaceNotAllowed, HeadWrong, UnusedByteNotZero, GapInGroup, SecondMisc, TooManyResponses, GrantBesideActivation}
use Rattle.container.specs.Layout.{Format, header}
use Rattle.container.specs.Grants.{header_grant, plane_allowed, no_counts, reserved_ok}
use Rattle.container.specs.declared.grant.Grant.{Grant}
use Rattle.message.specs.Heads.{type_of, op_of, msg_size, known, well_headed, misc_u, activation}
use Rattle.message.specs.Places.{placed, miscs, responses}
use Rattle.placement.specs.Cells.{Cell, cells}
use Rattle.placement.specs.Checking.{used, cell_checks, granule_checks, populated, no_gap, starting, sum_of, one_misc, four_responses, group_checks, header_checks, activations, quiet, activation_checks, container_checks}
use Rattle.placement.proofs.Keeps.{progress, cell_of}
use Rattle.placement.proofs.ProgressLaws.{list_from, cells_of}
use Rattle.cause.proofs.NamedLaws.{turn_of}
use Rattle.placement.proofs.CellFaults.{Filled, StartsMisc, StartsActivation, started, CellFault, reserved, form, inside, unknown, place, head, unused, gap, second, many, beside}
use Rattle.cause.proofs.FirstLaws.{Site, Fails, fails_front, fails_back, Rises, rises_append, rises_from, rises_to, Sounds, sounds_append}
use Rattle.cause.proofs.RankedLaws.{ranked, ranked_append, fails_as}
use Rattle.lists.proofs.FailLaws.{guard_fails, fail_guard, and_fails, fail_left, fail_right, or_fails, not_zero, zero_not}

-- ---- tests that fail
both_fail : (a b : Bool) → not (a && b) ≡ false → T a × T b
both_fail true true e = (tt, tt)
both_fail true false e = absurd (never_both e refl)
both_fail false b e = absurd (never_both e refl)

fail_both : (a b : Bool) → T a → T b → not (a && b) ≡ false
fail_both true true s t = refl
fail_both true false s t = absurd t
fail_both false b s t = absurd s

-- ---- a granule
some_byte : (l : List ℕ) → zeros l ≡ false → (i : ℕ) × (0 < get_or l i 0)
some_byte [] e = absurd (never_both e refl)
some_byte (b ∷ l) e = ⊎_elim (λ (t : eqb b 0 ≡ false). here t) (λ (t : zeros l ≡ false). there (some_byte l t)) (and_fails (eqb b 0) (zeros l) e)
  where
    here : eqb b 0 ≡ false → (i : ℕ) × (0 < get_or (b ∷ l) i 0)
    here t = (0, not_zero b t)

    there : ((i : ℕ) × (0 < get_or l i 0)) → (i : ℕ) × (0 < get_or (b ∷ l) i 0)
    there w = (suc w.0, w.1)

byte_some : (l : List ℕ) (i : ℕ) → 0 < get_or l i 0 → zeros l ≡ false
byte_some l i h = not_true_false (zeros l) (λ t. let z = zeros_at l t i in omega arith)

-- ---- a group
populated_so : (e : Cell) → populated e ≡ true → Filled e
populated_so e t = so e.goes_on e.starts t
  where
    so : (a b : Bool) → (a || b) ≡ true → T a ⊎ T b
    so true b t = inl tt
    so false b t = inr (true_t b t)

so_populated : (e : Cell) → Filled e → populated e ≡ true
so_populated e (inl h) = rw (T_true e.goes_on h)
so_populated e (inr h) = rw (T_true e.starts h) (or_true e.goes_on)

-- the populated ones of three come first
abbrev in_front : Bool → Bool → Bool → Bool
in_front a b c = pick a (pick b (pick c true true) (not c && true)) (not b && (not c && true))

gap_found : (a b c : Bool) → in_front a b c ≡ false
    → ((a ≡ false) × (b ≡ true)) ⊎ (((a ≡ false) × (c ≡ true)) ⊎ ((b ≡ false) × (c ≡ true)))
gap_found true true true e = absurd (never_both e refl)
gap_found true true false e = absurd (never_both e refl)
gap_found true false true e = inr (inr (refl, refl))
gap_found true false false e = absurd (never_both e refl)
gap_found false true c e = inl (refl, refl)
gap_found false false true e = inr (inl (refl, refl))
gap_found false false false e = absurd (never_both e refl)

found_gap : (P : ℕ → Bool) (i j : ℕ) → i < j → j < 3 → P i ≡ false → P j ≡ true → in_front (P 0) (P 1) (P 2) ≡ false
found_gap P zero zero h b e f = absurd (omega arith)
found_gap P zero (suc zero) h b e f = rw (e, f)
found_gap P zero (suc (suc zero)) h b e f = rw (e, f) (and_false (not (P 1)))
found_gap P zero (suc (suc (suc j))) h b e f = absurd (omega arith)
found_gap P (suc zero) zero h b e f = absurd (omega arith)
found_gap P (suc zero) (suc zero) h b e f = absurd (omega arith)
found_gap P (suc zero) (suc (suc zero)) h b e f = rw (e, f) (same (P 0))
  where
    same : (a : Bool) → pick a false false ≡ false
    same true = refl
    same false = refl
found_gap P (suc zero) (suc (suc (suc j))) h b e f = absurd (omega arith)
found_gap P (suc (suc i)) j h b e f = absurd (omega arith)

misc_so : (e : Cell) → (starting miscs e ≡ 0) ⊎ ((starting miscs e ≡ 1) × StartsMisc e)
misc_so e = so e.starts (type_of e.bytes)
  where
    so : (s : Bool) (t : ℕ) → (pick {A = ℕ} s (pick (eqb t misc_u) 1 0) 0 ≡ 0) ⊎ ((pick {A = ℕ} s (pick (eqb t misc_u) 1 0) 0 ≡ 1) × (T s × (t ≡ misc_u)))
    so false t = inl refl
    so true t = ⊎_elim (λ (e : eqb t misc_u ≡ true). inr (rw e, (tt, eqb-true t misc_u e))) (λ (e : eqb t misc_u ≡ false). inl (rw e)) (cases (eqb t misc_u))

so_misc : (e : Cell) → StartsMisc e → starting miscs e ≡ 1
so_misc e h = rw (T_true e.starts h.0, eq-eqb (type_of e.bytes) misc_u h.1)

two_of : (N : ℕ → ℕ) (i j : ℕ) → i < j → j < 3 → N i ≡ 1 → N j ≡ 1 → 1 < N 0 + (N 1 + (N 2 + 0))
two_of N zero zero h b e f = absurd (omega arith)
two_of N zero (suc zero) h b e f = omega arith
two_of N zero (suc (suc zero)) h b e f = omega arith
two_of N zero (suc (suc (suc j))) h b e f = absurd (omega arith)
two_of N (suc zero) zero h b e f = absurd (omega arith)
two_of N (suc zero) (suc zero) h b e f = absurd (omega arith)
two_of N (suc zero) (suc (suc zero)) h b e f = omega arith
two_of N (suc zero) (suc (suc (suc j))) h b e f = absurd (omega arith)
two_of N (suc (suc i)) j h b e f = absurd (omega arith)

-- ---- an Activation
activation_so : (e : Cell) → (starting activations e ≡ 0) ⊎ StartsActivation e
activation_so e = so e.starts (type_of e.bytes) (op_of e.bytes)
  where
    so : (s : Bool) (t o : ℕ) → (pick {A = ℕ} s (pick (eqb t misc_u && eqb o activation) 1 0) 0 ≡ 0) ⊎ (T s × (t ≡ misc_u) × (o ≡ activation))
    so false t o = inl refl
    so true t o =
        ⊎_elim (λ (e : (eqb t misc_u && eqb o activation) ≡ true). inr (tt, eqb-true t misc_u (and_left (eqb t misc_u) (eqb o activation) e), eqb-true o activation (and_right (eqb t misc_u) (eqb o activation) e)))
        (λ (e : (eqb t misc_u && eqb o activation) ≡ false). inl (rw e))
        (cases (eqb t misc_u && eqb o activation))

so_activation : (e : Cell) → StartsActivation e → starting activations e ≡ 1
so_activation e h = rw (T_true e.starts h.0, eq-eqb (type_of e.bytes) misc_u h.1, eq-eqb (op_of e.bytes) activation h.2)

module _ (f : ℕ → Cell) where
  some_activation : (k g : ℕ) → 0 < sum_of activations (list_from f k g) → (j : ℕ) × (g ≤ j) × (j < g + k) × StartsActivation (f j)
  unfolding list_from
  some_activation zero g h = absurd (omega arith)
  some_activation (suc k) g h = ⊎_elim (λ (z : starting activations (f g) ≡ 0). later (some_activation k (g + 1) (omega arith))) (λ (a : StartsActivation (f g)). (g, omega arith, omega arith, a)) (activation_so (f g))
    where
      later : ((j : ℕ) × (g + 1 ≤ j) × (j < g + 1 + k) × StartsActivation (f j)) → (j : ℕ) × (g ≤ j) × (j < g + suc k) × StartsActivation (f j)
      later w = let a = w.1 in let b = w.2 in (w.0, omega arith, omega arith, w.3)

  activation_some : (k g j : ℕ) → g ≤ j → j < g + k → StartsActivation (f j) → 0 < sum_of activations (list_from f k g)
  unfolding list_from
  activation_some zero g j a b h = absurd (omega arith)
  activation_some (suc k) g j a b h =
      ⊎_elim (λ (e : eqb j g ≡ true). let z = so_activation (f g) (subst (λ (i : ℕ). StartsActivation (f i)) (eqb-true j g e) h) in omega arith)
      (λ (e : eqb j g ≡ false). let d = eqb-false j g e in let z = activation_some k (g + 1) j (omega arith) (omega arith) h in omega arith)
      (cases (eqb j g))

-- ---- the header
abbrev SomeCount : Grant → Type 0
SomeCount n = (0 < n.req) ⊎ (0 < n.rsp) ⊎ (0 < n.snp) ⊎ (0 < n.dat)

some_count : (n : Grant) → no_counts n ≡ false → SomeCount n
some_count n e =
    ⊎_elim (λ t. inl (not_zero n.req t))
    (λ t. ⊎_elim (λ u. inr (inl (not_zero n.rsp u)))
    (λ u. ⊎_elim (λ v. inr (inr (inl (not_zero n.snp v)))) (λ v. inr (inr (inr (not_zero n.dat v)))) (and_fails (eqb n.snp 0) (eqb n.dat 0) u))
    (and_fails (eqb n.rsp 0) (eqb n.snp 0 && eqb n.dat 0) t))
    (and_fails (eqb n.req 0) (eqb n.rsp 0 && (eqb n.snp 0 && eqb n.dat 0)) e)

count_some : (n : Grant) → SomeCount n → no_counts n ≡ false
count_some n (inl h) = fail_left (eqb n.req 0) _ (zero_not n.req h)
count_some n (inr (inl h)) = fail_right (eqb n.req 0) _ (fail_left (eqb n.rsp 0) _ (zero_not n.rsp h))
count_some n (inr (inr (inl h))) = fail_right (eqb n.req 0) _ (fail_right (eqb n.rsp 0) _ (fail_left (eqb n.snp 0) _ (zero_not n.snp h)))
count_some n (inr (inr (inr h))) = fail_right (eqb n.req 0) _ (fail_right (eqb n.rsp 0) _ (fail_right (eqb n.snp 0) _ (zero_not n.dat h)))

-- ---- a container
module _ (fm : Format) (m c : List ℕ) where
  abbrev cell : ℕ → Cell
  cell = cell_of fm c m

  abbrev Of : Cause → ℕ → Type 0
  Of = CellFault fm m c

  -- the three of group q, as they are checked
  abbrev three : ℕ → List Cell
  three q = cell (3 * q + 0) ∷ cell (3 * q + 1) ∷ cell (3 * q + 2) ∷ []

  abbrev group_row : ℕ → List Check
  group_row q = check (no_gap (three q)) GapInGroup q ∷ check (one_misc (three q)) SecondMisc q ∷ check (four_responses (three q)) TooManyResponses q ∷ []

  abbrev es : List Cell
  es = list_from cell 12 0

  -- ---- a check that fails is a fault
  reserved_fault : reserved_ok fm c ≡ false → Of ReservedBitSet 0
  reserved_fault e =
      reserved
      (⊎_elim (λ t. inl (ltb-false (header fm c 1) 16 t))
      (λ t. inr (⊎_elim (λ u. inl (ltb-false (header fm c 2) 16 u))
      (λ u. inr (⊎_elim (λ v. inl (not_zero (header fm c 7) v))
      (λ v. inr (⊎_elim (λ w. inl (not_zero (header fm c 8) w)) (λ w. inr (not_zero (header fm c 9) w)) (and_fails (eqb (header fm c 8) 0) (eqb (header fm c 9) 0) v)))
      (and_fails (eqb (header fm c 7) 0) (eqb (header fm c 8) 0 && eqb (header fm c 9) 0) u)))
      (and_fails (ltb (header fm c 2) 16) (eqb (header fm c 7) 0 && (eqb (header fm c 8) 0 && eqb (header fm c 9) 0)) t)))
      (and_fails (ltb (header fm c 1) 16) (ltb (header fm c 2) 16 && (eqb (header fm c 7) 0 && (eqb (header fm c 8) 0 && eqb (header fm c 9) 0))) e))

  form_fault : plane_allowed (header_grant fm c) ≡ false → Of HeaderGrantForm 0
  form_fault e =
      let w = guard_fails (header_grant fm c).shc (eqb (header_grant fm c).rp 0) e in
      form (T_true (header_grant fm c).shc w.0) (not_zero (header_grant fm c).rp w.1)

  module _ (g : ℕ) (b : g < 12) where
    abbrev here : Cell
    here = cell g

    inside_fault : not (here.goes_on && here.starts) ≡ false → Of StartInsideMessage g
    inside_fault e = let w = both_fail here.goes_on here.starts e in inside g b w.0 w.1

    unknown_fault : (not here.starts || known here.bytes) ≡ false → Of UnknownMessage g
    unknown_fault e =
        let w = guard_fails here.starts (known here.bytes) e in
        let z = ltb-false 0 (msg_size here.bytes) w.1 in unknown g b w.0 (omega arith)

    place_fault : (not here.starts || placed fm g here.bytes) ≡ false → Of PlaceNotAllowed g
    place_fault e = let w = guard_fails here.starts (placed fm g here.bytes) e in place g b w.0 w.1

    head_fault : (not here.starts || well_headed here.bytes) ≡ false → Of HeadWrong g
    head_fault e = let w = guard_fails here.starts (well_headed here.bytes) e in head g b w.0 w.1

    unused_fault : zeros (drop (used here) here.bytes) ≡ false → Of UnusedByteNotZero g
    unused_fault e =
        let w = some_byte (drop (used here) here.bytes) e in
        unused g (used here + w.0) b (omega arith) (rw get_or-drop at w.1)

  module _ (q : ℕ) (b : q < 4) where
    gap_fault : no_gap (three q) ≡ false → Of GapInGroup q
    gap_fault e =
        ⊎_elim (λ w. at 0 1 (omega arith) (omega arith) w.0 w.1)
        (⊎_elim (λ w. at 0 2 (omega arith) (omega arith) w.0 w.1) (λ w. at 1 2 (omega arith) (omega arith) w.0 w.1))
        (gap_found (populated (cell (3 * q + 0))) (populated (cell (3 * q + 1))) (populated (cell (3 * q + 2))) e)
      where
        at : (i j : ℕ) → i < j → j < 3 → populated (cell (3 * q + i)) ≡ false → populated (cell (3 * q + j)) ≡ true → Of GapInGroup q
        at i j h l x y = gap q i j b h l (λ t. never_both x (so_populated (cell (3 * q + i)) t)) (populated_so (cell (3 * q + j)) y)

    second_fault : one_misc (three q) ≡ false → Of SecondMisc q
    second_fault e = found (leb-false (sum_of miscs (three q)) 1 e) (misc_so (cell (3 * q + 0))) (misc_so (cell (3 * q + 1))) (misc_so (cell (3 * q + 2)))
      where
        Misc : ℕ → Type 0
        Misc i = (starting miscs (cell (3 * q + i)) ≡ 0) ⊎ ((starting miscs (cell (3 * q + i)) ≡ 1) × StartsMisc (cell (3 * q + i)))

        found : 1 < sum_of miscs (three q) → Misc 0 → Misc 1 → Misc 2 → Of SecondMisc q
        found l (inr x) (inr y) z = second q 0 1 b (omega arith) (omega arith) x.1 y.1
        found l (inr x) (inl y) (inr z) = second q 0 2 b (omega arith) (omega arith) x.1 z.1
        found l (inr x) (inl y) (inl z) = let w = x.0 in absurd (omega arith)
        found l (inl x) (inr y) (inr z) = second q 1 2 b (omega arith) (omega arith) y.1 z.1
        found l (inl x) (inr y) (inl z) = let w = y.0 in absurd (omega arith)
        found l (inl x) (inl y) (inr z) = let w = z.0 in absurd (omega arith)
        found l (inl x) (inl y) (inl z) = absurd (omega arith)

    many_fault : four_responses (three q) ≡ false → Of TooManyResponses q
    many_fault e =
        let l = leb-false (sum_of responses (three q)) 4 e in
        let z : 3 * q + 0 ≡ 3 * q = omega arith in
        let s : started (cell (3 * q + 0)) ≡ started (cell (3 * q)) = ap (λ (i : ℕ). started (cell i)) z in
        many q b (omega arith)

  quiet_fault : quiet fm c es ≡ false → Of GrantBesideActivation 0
  quiet_fault e =
      let w = or_fails (eqb (sum_of activations es) 0) (no_counts (header_grant fm c)) e in
      let a = some_activation cell 12 0 (not_zero (sum_of activations es) w.0) in
      let l = a.2 in beside a.0 (omega arith) a.3 (some_count (header_grant fm c) w.1)

  -- ---- a fault is a check that fails
  -- granule j among g, g + 1, .., k of them
  granule_fails : (r : ℕ) (x : Cause) (p : ℕ) (k g j : ℕ) → g ≤ j → j < g + k → Fails r x p (ranked (cell_checks fm j (cell j)))
      → Fails r x p (ranked (granule_checks fm g (list_from cell k g)))
  unfolding granule_checks list_from
  granule_fails r x p zero g j a b h = absurd (omega arith)
  granule_fails r x p (suc k) g j a b h =
      ⊎_elim (λ (e : eqb j g ≡ true). fails_front r x p (ranked (cell_checks fm g (cell g))) (ranked (granule_checks fm (g + 1) (list_from cell k (g + 1)))) (subst (λ (i : ℕ). Fails r x p (ranked (cell_checks fm i (cell i)))) (eqb-true j g e) h))
      (λ (e : eqb j g ≡ false). let d = eqb-false j g e in inr (inr (inr (inr (inr (granule_fails r x p k (g + 1) j (omega arith) (omega arith) h))))))
      (cases (eqb j g))

  group_fails : (r : ℕ) (x : Cause) (p : ℕ) (q : ℕ) → q < 4 → Fails r x p (ranked (group_row q)) → Fails r x p (ranked (group_checks 4 0 es))
  unfolding group_checks list_from
  group_fails r x p zero b h = fails_front r x p (ranked (group_row 0)) (ranked (group_checks 3 1 (list_from cell 9 3))) h
  group_fails r x p (suc zero) b h = inr (inr (inr (fails_front r x p (ranked (group_row 1)) (ranked (group_checks 2 2 (list_from cell 6 6))) h)))
  group_fails r x p (suc (suc zero)) b h = inr (inr (inr (inr (inr (inr (fails_front r x p (ranked (group_row 2)) (ranked (group_checks 1 3 (list_from cell 3 9))) h))))))
  group_fails r x p (suc (suc (suc zero))) b h = inr (inr (inr (inr (inr (inr (inr (inr (inr h))))))))
  group_fails r x p (suc (suc (suc (suc q)))) b h = absurd (omega arith)

  -- the parts of the list
  abbrev parts : List Site
  parts = ranked (header_checks fm c) ++ (ranked (granule_checks fm 0 es) ++ (ranked (group_checks 4 0 es) ++ ranked (activation_checks fm c es)))

  in_header : (r : ℕ) (x : Cause) (p : ℕ) → Fails r x p (ranked (header_checks fm c)) → Fails r x p parts
  in_header r x p h =
      fails_front r x p (ranked (header_checks fm c)) (ranked (granule_checks fm 0 es) ++ (ranked (group_checks 4 0 es) ++ ranked (activation_checks fm c es))) h

  in_granule_part : (r : ℕ) (x : Cause) (p : ℕ) (g : ℕ) → g < 12 → Fails r x p (ranked (cell_checks fm g (cell g))) → Fails r x p parts
  in_granule_part r x p g b h =
      inr (inr (fails_front r x p (ranked (granule_checks fm 0 es)) _ (granule_fails r x p 12 0 g (omega arith) (omega arith) h)))

  in_group : (r : ℕ) (x : Cause) (p : ℕ) (q : ℕ) → q < 4 → Fails r x p (ranked (group_row q)) → Fails r x p parts
  in_group r x p q b h =
      inr (inr (fails_back r x p (ranked (granule_checks fm 0 es)) _ (fails_front r x p (ranked (group_checks 4 0 es)) _ (group_fails r x p q b h))))

  in_last : (r : ℕ) (x : Cause) (p : ℕ) → Fails r x p (ranked (activation_checks fm c es)) → Fails r x p parts
  in_last r x p h =
      inr (inr (fails_back r x p (ranked (granule_checks fm 0 es)) _ (fails_back r x p (ranked (group_checks 4 0 es)) _ h)))

  reserved_false : (16 ≤ header fm c 1) ⊎ (16 ≤ header fm c 2) ⊎ (0 < header fm c 7) ⊎ (0 < header fm c 8) ⊎ (0 < header fm c 9) → reserved_ok fm c ≡ false
  reserved_false (inl h) = fail_left (ltb (header fm c 1) 16) _ (le-ltb (header fm c 1) 16 h)
  reserved_false (inr (inl h)) = fail_right (ltb (header fm c 1) 16) _ (fail_left (ltb (header fm c 2) 16) _ (le-ltb (header fm c 2) 16 h))
  reserved_false (inr (inr (inl h))) =
      fail_right (ltb (header fm c 1) 16) _ (fail_right (ltb (header fm c 2) 16) _ (fail_left (eqb (header fm c 7) 0) _ (zero_not (header fm c 7) h)))
  reserved_false (inr (inr (inr (inl h)))) =
      fail_right (ltb (header fm c 1) 16) _ (fail_right (ltb (header fm c 2) 16) _ (fail_right (eqb (header fm c 7) 0) _ (fail_left (eqb (header fm c 8) 0) _ (zero_not (header fm c 8) h))))
  reserved_false (inr (inr (inr (inr h)))) =
      fail_right (ltb (header fm c 1) 16) _ (fail_right (ltb (header fm c 2) 16) _ (fail_right (eqb (header fm c 7) 0) _ (fail_right (eqb (header fm c 8) 0) _ (zero_not (header fm c 9) h))))

  complete_parts : (k : Cause) (p : ℕ) → Of k p → Fails (turn_of k p) k p parts
  complete_parts k p (reserved h) = in_header _ _ _ (inl (refl, fails_as _ _ _ (reserved_false h)))
  complete_parts k p (form s h) = in_header _ _ _ (inr (inl (refl, fails_as _ _ _ (fail_guard (header_grant fm c).shc _ (true_t _ s) (zero_not (header_grant fm c).rp h)))))
  complete_parts k p (inside g b s t) = in_granule_part _ _ _ g b (inl (refl, fails_as _ _ _ (fail_both (cell g).goes_on (cell g).starts s t)))
  complete_parts k p (unknown g b s e) =
      in_granule_part _ _ _ g b (inr (inl (refl, fails_as _ _ _ (fail_guard (cell g).starts _ s (le-ltb 0 (msg_size (cell g).bytes) (omega arith))))))
  complete_parts k p (place g b s e) = in_granule_part _ _ _ g b (inr (inr (inl (refl, fails_as _ _ _ (fail_guard (cell g).starts _ s e)))))
  complete_parts k p (head g b s e) = in_granule_part _ _ _ g b (inr (inr (inr (inl (refl, fails_as _ _ _ (fail_guard (cell g).starts _ s e))))))
  complete_parts k p (unused g i b l h) =
      in_granule_part _ _ _ g b (inr (inr (inr (inr (inl (refl, fails_as _ _ _ (byte_some (drop (used (cell g)) (cell g).bytes) (i - used (cell g)) (later g i l h))))))))
    where
      later : (g i : ℕ) → used (cell g) ≤ i → 0 < get_or (cell g).bytes i 0 → 0 < get_or (drop (used (cell g)) (cell g).bytes) (i - used (cell g)) 0
      later g i l h =
          let z : used (cell g) + (i - used (cell g)) ≡ i = omega arith in
          let y = get_or-drop (used (cell g)) (cell g).bytes (i - used (cell g)) 0 in
          let x : get_or (cell g).bytes (used (cell g) + (i - used (cell g))) 0 ≡ get_or (cell g).bytes i 0 = ap (λ (n : ℕ). get_or (cell g).bytes n 0) z in
          omega arith
  complete_parts k p (gap q i j b h l x y) =
      in_group _ _ _ q b (inl (refl, fails_as _ _ _ (found_gap (λ n. populated (cell (3 * q + n))) i j h l (not_true_false _ (λ t. x (populated_so (cell (3 * q + i)) t))) (so_populated (cell (3 * q + j)) y))))
  complete_parts k p (second q i j b h l x y) =
      in_group _ _ _ q b (inr (inl (refl, fails_as _ _ _ (lt-leb (sum_of miscs (three q)) 1 (two_of (λ n. starting miscs (cell (3 * q + n))) i j h l (so_misc (cell (3 * q + i)) x) (so_misc (cell (3 * q + j)) y))))))
  complete_parts k p (many q b h) =
      in_group _ _ _ q b (inr (inr (inl (refl, fails_as _ _ _ (lt-leb (sum_of responses (three q)) 4 (more q h))))))
    where
      more : (q : ℕ) → 4 < started (cell (3 * q)) + (started (cell (3 * q + 1)) + started (cell (3 * q + 2))) → 4 < sum_of responses (three q)
      more q h =
          let z : 3 * q + 0 ≡ 3 * q = omega arith in
          let s : started (cell (3 * q + 0)) ≡ started (cell (3 * q)) = ap (λ (i : ℕ). started (cell i)) z in
          omega arith
  complete_parts k p (beside g b a h) =
      in_last _ _ _ (inl (refl, fails_as _ _ _ (quiet_false (zero_not _ (activation_some cell 12 0 g (omega arith) (omega arith) a)) (count_some (header_grant fm c) h))))
    where
      quiet_false : eqb (sum_of activations es) 0 ≡ false → no_counts (header_grant fm c) ≡ false → quiet fm c es ≡ false
      quiet_false e f = rw (e, f)

  -- ---- turns rise
  granules_rise : (k g : ℕ) → Rises (100 + 10 * g) (ranked (granule_checks fm g (list_from cell k g))) (100 + 10 * (g + k))
  unfolding granule_checks list_from
  granules_rise zero g = omega arith
  granules_rise (suc k) g =
      let e : g + suc k ≡ g + 1 + k = omega arith in
      let r = granules_rise k (g + 1) in (
        omega arith,
        (
          omega arith,
          (
            omega arith,
            (
              omega arith,
              (
                omega arith,
                rises_from (suc (100 + 10 * g + 9)) (100 + 10 * (g + 1)) (ranked (granule_checks fm (g + 1) (list_from cell k (g + 1)))) (100 + 10 * (g + suc k)) (omega arith) (rw e r),
              ),
            ),
          ),
        ),
      )

  groups_rise : Rises 300 (ranked (group_checks 4 0 es)) 400
  unfolding group_checks list_from
  groups_rise = (
    omega arith,
    (omega arith, (omega arith, (omega arith, (omega arith, (omega arith, (omega arith, (omega arith, (omega arith, (omega arith, (omega arith, (omega arith, omega arith))))))))))),
  )

  parts_rise : Rises 4 parts 500
  parts_rise =
      rises_append 4 (ranked (header_checks fm c)) 100 (ranked (granule_checks fm 0 es) ++ (ranked (group_checks 4 0 es) ++ ranked (activation_checks fm c es))) 500 (omega arith, (omega arith, omega arith))
      (rises_append 100 (ranked (granule_checks fm 0 es)) 300 (ranked (group_checks 4 0 es) ++ ranked (activation_checks fm c es)) 500 (more (granules_rise 12 0))
      (rises_append 300 (ranked (group_checks 4 0 es)) 400 (ranked (activation_checks fm c es)) 500 groups_rise (omega arith, omega arith)))
    where
      more : Rises 100 (ranked (granule_checks fm 0 es)) 220 → Rises 100 (ranked (granule_checks fm 0 es)) 300
      more r = rises_to 100 (ranked (granule_checks fm 0 es)) 220 300 (omega arith) r

  -- ---- in a family that has them
  module _ (R : ℕ → Cause → ℕ → Type 0) (has : (k : Cause) (p : ℕ) → Of k p → R (turn_of k p) k p) where
    granules_sound : (k g : ℕ) → g + k ≤ 12 → Sounds R (ranked (granule_checks fm g (list_from cell k g)))
    unfolding granule_checks list_from
    granules_sound zero g b = tt
    granules_sound (suc k) g b =
        let l : g < 12 = omega arith in (
          λ t. has _ _ (inside_fault g l t),
          (
            λ t. has _ _ (unknown_fault g l t),
            (
              λ t. has _ _ (place_fault g l t),
              (λ t. has _ _ (head_fault g l t), (λ t. has _ _ (unused_fault g l t), granules_sound k (g + 1) (omega arith))),
            ),
          ),
        )

    group_sound : (q : ℕ) → q < 4 → Sounds R (ranked (group_row q))
    group_sound q l = (λ t. has _ _ (gap_fault q l t), (λ t. has _ _ (second_fault q l t), (λ t. has _ _ (many_fault q l t), tt)))

    groups_sound : Sounds R (ranked (group_checks 4 0 es))
    unfolding group_checks list_from
    groups_sound =
        sounds_append R (ranked (group_row 0)) (ranked (group_checks 3 1 (list_from cell 9 3))) (group_sound 0 (omega arith))
        (sounds_append R (ranked (group_row 1)) (ranked (group_checks 2 2 (list_from cell 6 6))) (group_sound 1 (omega arith))
        (sounds_append R (ranked (group_row 2)) (ranked (group_row 3)) (group_sound 2 (omega arith)) (group_sound 3 (omega arith))))

    parts_sound : Sounds R parts
    parts_sound =
        sounds_append R (ranked (header_checks fm c)) (ranked (granule_checks fm 0 es) ++ (ranked (group_checks 4 0 es) ++ ranked (activation_checks fm c es))) (λ t. has _ _ (reserved_fault t), (λ t. has _ _ (form_fault t), tt))
        (sounds_append R (ranked (granule_checks fm 0 es)) (ranked (group_checks 4 0 es) ++ ranked (activation_checks fm c es)) (granules_sound 12 0 (omega arith))
        (sounds_append R (ranked (group_checks 4 0 es)) (ranked (activation_checks fm c es)) groups_sound (λ t. has _ _ (quiet_fault t), tt)))

  -- ---- as the checks stand
  whole : ranked (container_checks fm c (cells fm c 12 0 m)) ≡ parts
  unfolding container_checks progress
  whole =
      ap (λ (l : List Cell). ranked (container_checks fm c l)) (cells_of fm c m 12 0)
      ∙ ranked_append (header_checks fm c) (granule_checks fm 0 es ++ (group_checks 4 0 es ++ activation_checks fm c es))
      ∙ ap (λ (l : List Site). ranked (header_checks fm c) ++ l)
      (ranked_append (granule_checks fm 0 es) (group_checks 4 0 es ++ activation_checks fm c es)
      ∙ ap (λ (l : List Site). ranked (granule_checks fm 0 es) ++ l) (ranked_append (group_checks 4 0 es) (activation_checks fm c es)))

  -- the sites of a container's checks
  abbrev pub container_sites : List Site
  container_sites = ranked (container_checks fm c (cells fm c 12 0 m))

  pub container_complete : (k : Cause) (p : ℕ) → CellFault fm m c k p → Fails (turn_of k p) k p container_sites
  container_complete k p f = subst (Fails (turn_of k p) k p) (sym whole) (complete_parts k p f)

  pub container_rises : Rises 4 container_sites 500
  container_rises = subst (λ (l : List Site). Rises 4 l 500) (sym whole) parts_rise

  pub container_sound : (R : ℕ → Cause → ℕ → Type 0) → ((k : Cause) (p : ℕ) → CellFault fm m c k p → R (turn_of k p) k p) → Sounds R container_sites
  container_sound R has = subst (Sounds R) (sym whole) (parts_sound R has)
