-- A container keeps the rules in the papers' words exactly where it keeps those that are made of the checks' tests. Assumes nothing.
use Prim.Native.Nat.{ℕ, ◌+◌, ◌*◌, ◌/◌, ◌%◌, ◌≤◌, ◌<◌}
use mathlib.Core.Path.{◌≡◌, refl, sym, ◌∙◌, subst}
use mathlib.Core.Bool.{Bool, true, false, ◌&&◌, ◌||◌}
use mathlib.Core.List.{List}
use mathlib.Core.Logic.{◌⊎◌, inl, inr, ⊎_elim, ◌↔◌}
use native.Mathlib.Omega.{arith}
use lib.ListN.{length, get_or-eq_default}
use lib.Dec.{T, eqb, ltb}
use borrow.Author.Tests.{eq-eqb, eqb-true, eqb-false}
use Rattle.lists.specs.Pick.{pick}
use Rattle.lists.proofs.Tests.{cases, T_true, true_t, and_both, or_cases, never_both, not_true_false}
use Rattle.container.specs.Layout.{Format, wide, granule, header, msg_start, bit}
use Rattle.container.specs.Lawful.{Lawful}
use Rattle.message.specs.Heads.{type_of, msg_size, well_headed}
use Rattle.message.specs.Places.{placed, miscs}
use Rattle.message.specs.HeadRules.{byte, type, Bytes}
use Rattle.message.proofs.HeadRuleLaws.{bytes_size, bytes_some, size_bytes, head_exactly, misc_exactly}
use Rattle.message.proofs.PlaceRuleLaws.{place_exactly}
use Rattle.placement.specs.Cells.{Cell, owed, cell_at, carry_ok}
use Rattle.placement.specs.Checking.{used, populated, starting}
use Rattle.placement.proofs.Keeps.{progress, cell_of, KeepsGranule, KeepsGroup, Keeps}
use Rattle.placement.specs.Rules.{start_bit, Starts, Origin, GoesOn, Populated, Unused, rest, last, empty, GranuleRules, GroupRules, Rules}
use Rattle.placement.proofs.OccupyLaws.{Follow, follow, on_goes, goes_on, goes_twenty, granule_sized}

-- ---- groups
third_cases : (q g : ℕ) → g / 3 ≡ q → (g ≡ 3 * q) ⊎ ((g ≡ 3 * q + 1) ⊎ (g ≡ 3 * q + 2))
third_cases q g e =
    ⊎_elim (λ (a : eqb g (3 * q) ≡ true). inl (eqb-true g (3 * q) a))
    (λ (a : eqb g (3 * q) ≡ false). ⊎_elim (λ (b : eqb g (3 * q + 1) ≡ true). inr (inl (eqb-true g (3 * q + 1) b)))
    (λ (b : eqb g (3 * q + 1) ≡ false). let x = eqb-false g (3 * q) a in let y = eqb-false g (3 * q + 1) b in inr (inr (omega arith)))
    (cases (eqb g (3 * q + 1))))
    (cases (eqb g (3 * q)))

-- the ones that a statement holds of come first in group q
module _ (P : ℕ → Type 0) (q : ℕ) where
  come_first : (P (3 * q + 1) → P (3 * q)) → (P (3 * q + 2) → P (3 * q + 1)) → (g h : ℕ) → g / 3 ≡ q → h / 3 ≡ q → g < h → P h → P g
  come_first s t g h a b l p =
      ⊎_elim (λ (e : h ≡ 3 * q). absurd (omega arith))
      (λ r. ⊎_elim (λ (e : h ≡ 3 * q + 1). let d : g ≡ 3 * q = omega arith in subst P (sym d) (s (subst P e p)))
      (λ (e : h ≡ 3 * q + 2). let z : P (3 * q + 1) = t (subst P e p) in
      ⊎_elim (λ (d : g ≡ 3 * q). subst P (sym d) (s z)) (λ y. ⊎_elim (λ (d : g ≡ 3 * q + 1). subst P (sym d) z) (λ (d : g ≡ 3 * q + 2). absurd (omega arith)) y) (third_cases q g a)) r)
      (third_cases q h b)

-- at most one of three counts, each 0 or 1
at_most_one : (a b c : Bool) → (pick {A = ℕ} a 1 0 + (pick {A = ℕ} b 1 0 + pick {A = ℕ} c 1 0) ≤ 1) ↔ ((T a → T b → ⊥) × (T a → T c → ⊥) × (T b → T c → ⊥))
at_most_one true true c = (λ e. absurd (omega arith), λ h. absurd (h.0 tt tt))
at_most_one true false true = (λ e. absurd (omega arith), λ h. absurd (h.1 tt tt))
at_most_one true false false = (λ e. (λ x y. y, λ x y. y, λ x y. x), λ h. omega arith)
at_most_one false true true = (λ e. absurd (omega arith), λ h. absurd (h.2 tt tt))
at_most_one false true false = (λ e. (λ x y. x, λ x y. x, λ x y. y), λ h. omega arith)
at_most_one false false c = (λ e. (λ x y. x, λ x y. x, λ x y. x), λ h. pick_one c)
  where
    pick_one : (c : Bool) → 0 + (0 + pick {A = ℕ} c 1 0) ≤ 1
    pick_one true = omega arith
    pick_one false = omega arith

-- what holds at no two granules of group q holds at one at most
module _ (P : ℕ → Type 0) (q : ℕ) where
  no_two : (P (3 * q) → P (3 * q + 1) → ⊥) × (P (3 * q) → P (3 * q + 2) → ⊥) × (P (3 * q + 1) → P (3 * q + 2) → ⊥) → (g h : ℕ) → g / 3 ≡ q → h / 3 ≡ q → P g → P h → g ≡ h
  no_two n g h a b x y = ⊎_elim low (λ r. ⊎_elim mid high r) (third_cases q g a)
    where
      low : g ≡ 3 * q → g ≡ h
      low e = ⊎_elim (λ (d : h ≡ 3 * q). e ∙ sym d) (λ r. ⊎_elim (λ (d : h ≡ 3 * q + 1). absurd (n.0 (subst P e x) (subst P d y))) (λ (d : h ≡ 3 * q + 2). absurd (n.1 (subst P e x) (subst P d y))) r) (third_cases q h b)

      mid : g ≡ 3 * q + 1 → g ≡ h
      mid e = ⊎_elim (λ (d : h ≡ 3 * q). absurd (n.0 (subst P d y) (subst P e x))) (λ r. ⊎_elim (λ (d : h ≡ 3 * q + 1). e ∙ sym d) (λ (d : h ≡ 3 * q + 2). absurd (n.2 (subst P e x) (subst P d y))) r) (third_cases q h b)

      high : g ≡ 3 * q + 2 → g ≡ h
      high e = ⊎_elim (λ (d : h ≡ 3 * q). absurd (n.1 (subst P d y) (subst P e x))) (λ r. ⊎_elim (λ (d : h ≡ 3 * q + 1). absurd (n.2 (subst P d y) (subst P e x))) (λ (d : h ≡ 3 * q + 2). e ∙ sym d) r) (third_cases q h b)

-- a MiscU that starts counts one
both_pick : (s t : Bool) → pick {A = ℕ} s (pick {A = ℕ} t 1 0) 0 ≡ pick (s && t) 1 0
both_pick true t = refl
both_pick false t = refl

module _ (fm : Format) (law : Lawful fm) (m c : List ℕ) (n256 : length c ≡ 256) (valid : carry_ok m ≡ true) where
  starts_to : (g : ℕ) → Starts fm c g → T (bit (msg_start fm c) g)
  starts_to g s = true_t (bit (msg_start fm c) g) (eq-eqb (start_bit fm c g) 1 s)

  starts_of : (g : ℕ) → T (bit (msg_start fm c) g) → Starts fm c g
  starts_of g t = eqb-true (start_bit fm c g) 1 (T_true (bit (msg_start fm c) g) t)

  -- ---- a granule
  module _ (g : ℕ) (p : List ℕ) (b : g < 12) (f : Follow fm law m c n256 valid g p) where
    abbrev x : List ℕ
    x = granule fm g c

    abbrev e : Cell
    e = cell_at fm g c p

    abbrev on : Bool
    on = ltb 0 (owed p) && wide fm g

    goes_t : (o : Origin) (n : ℕ) → GoesOn fm m c o n g → T on
    goes_t o n v = true_t on (goes_on fm law m c n256 valid g p b f o n v)

    t_goes : T on → (o : Origin) × (n : ℕ) × GoesOn fm m c o n g
    t_goes t = on_goes fm law m c n256 valid g p b f (T_true on t)

    -- a granule is populated exactly where its cell is
    populated_to : Populated fm m c g → T (populated e)
    populated_to h = ⊎_elim (λ (s : Starts fm c g). right on (bit (msg_start fm c) g) (starts_to g s)) (λ v. left on (bit (msg_start fm c) g) (goes_t v.0 v.1 v.2)) h
      where
        left : (a d : Bool) → T a → T (a || d)
        left true d t = tt
        left false d t = absurd t

        right : (a d : Bool) → T d → T (a || d)
        right true d t = tt
        right false d t = t

    populated_of : T (populated e) → Populated fm m c g
    populated_of t = ⊎_elim (λ (a : T on). inr (t_goes a)) (λ (s : T (bit (msg_start fm c) g)). inl (starts_of g s)) (or_cases on (bit (msg_start fm c) g) t)

    not_on : (T on → ⊥) → on ≡ false
    not_on h = not_true_false on (λ t. h (true_t on t))

    used_on : T on → used e ≡ 20
    used_on t = rw (T_true on t)

    -- an unused byte lies behind what a message uses of the cell
    pub unused_behind : (T on → T (bit (msg_start fm c) g) → ⊥) → (i : ℕ) → Unused fm m c g i → used e ≤ i
    unused_behind apart i (rest n s r l) = subst (λ (z : ℕ). z ≤ i) (sym (used_start ∙ bytes_size x r)) l
      where
        used_start : used e ≡ msg_size x
        used_start = rw (not_on (λ t. apart t (starts_to g s)), T_true (bit (msg_start fm c) g) (starts_to g s))
    unused_behind apart i (last o n v l) = let h = goes_twenty fm law m c n256 valid g p b f o n v in subst (λ (z : ℕ). z ≤ i) (sym (used_on (goes_t o n v))) (omega arith)
    unused_behind apart i (empty h) = subst (λ (z : ℕ). z ≤ i) (sym used_none) (omega arith)
      where
        used_none : used e ≡ 0
        used_none = rw (not_on (λ t. h (inr (t_goes t))), not_true_false (bit (msg_start fm c) g) (λ t. h (inl (starts_of g (true_t (bit (msg_start fm c) g) t)))))

    -- a byte behind what a message uses of the cell is unused, or there is none
    pub behind_unused : (T (bit (msg_start fm c) g) → 0 < msg_size x) → (i : ℕ) → used e ≤ i → (byte x i ≡ 0) ⊎ Unused fm m c g i
    behind_unused known i l = by on (bit (msg_start fm c) g) refl refl
      where
        by : (a s : Bool) → on ≡ a → bit (msg_start fm c) g ≡ s → (byte x i ≡ 0) ⊎ Unused fm m c g i
        by true s ea es =
            let u : used e ≡ 20 = rw ea in
            let w = law.most g b in
            let z = granule_sized fm law m c n256 valid g b in
            inl (get_or-eq_default x 0 {n = i} (omega arith))
        by false true ea es =
            let u : used e ≡ msg_size x = rw (ea, es) in
            let t = true_t (bit (msg_start fm c) g) es in
            inr (rest (msg_size x) (starts_of g t) (size_bytes x (known t)) (omega arith))
        by false false ea es =
            inr (empty (λ h. ⊎_elim (λ (s : Starts fm c g). never_both es (T_true (bit (msg_start fm c) g) (starts_to g s))) (λ v. never_both ea (T_true on (goes_t v.0 v.1 v.2))) h))

    rules_of_keeps : KeepsGranule fm g e → GranuleRules fm m c g
    rules_of_keeps k = record {
      known = λ s. (msg_size x, size s);
      place = λ s. (place_exactly fm law g b x (msg_size x) (size s)).0 (T_true (placed fm g x) (k.place (starts_to g s)));
      head = λ s. (head_exactly x (msg_size x) (size s)).0 (T_true (well_headed x) (k.head (starts_to g s)));
      alone = λ s o n v. k.apart (goes_t o n v) (starts_to g s);
      zero = λ i u. k.zero i (unused_behind k.apart i u);
    }
      where
        size : Starts fm c g → Bytes x (msg_size x)
        size s = size_bytes x (k.known (starts_to g s))

    keeps_of_rules : GranuleRules fm m c g → KeepsGranule fm g e
    keeps_of_rules k = record {
      apart = λ t s. let v = t_goes t in k.alone (starts_of g s) v.0 v.1 v.2;
      known = λ s. known s;
      place = λ s. let r = k.known (starts_of g s) in true_t (placed fm g x) ((place_exactly fm law g b x r.0 r.1).1 (k.place (starts_of g s)));
      head = λ s. let r = k.known (starts_of g s) in true_t (well_headed x) ((head_exactly x r.0 r.1).1 (k.head (starts_of g s)));
      zero = λ i l. ⊎_elim (λ z. z) (λ u. k.zero i u) (behind_unused known i l);
    }
      where
        known : T (bit (msg_start fm c) g) → 0 < msg_size x
        known s = let r = k.known (starts_of g s) in rw (bytes_size x r.1) (bytes_some x r.1)

  -- ---- all granules
  abbrev cell : ℕ → Cell
  cell g = cell_at fm g c (progress fm c m g)

  abbrev Followed : Type 0
  Followed = (g : ℕ) → g ≤ 12 → Follow fm law m c n256 valid g (progress fm c m g)

  pub keeps_followed : ((g : ℕ) → g < 12 → KeepsGranule fm g (cell_of fm c m g)) → Followed
  keeps_followed k = follow fm law m c n256 valid (λ g b f. k g b)

  pub rules_followed : ((g : ℕ) → g < 12 → GranuleRules fm m c g) → Followed
  unfolding cell_of
  rules_followed k = follow fm law m c n256 valid (λ g b f. keeps_of_rules g (progress fm c m g) b f (k g b))

  -- ---- a group
  module _ (all : Followed) where
    abbrev fol : (g : ℕ) → g < 12 → Follow fm law m c n256 valid g (progress fm c m g)
    fol g b = all g (omega arith)

    abbrev MiscAt : ℕ → Type 0
    MiscAt g = Starts fm c g × (type (granule fm g c) ≡ 10)

    abbrev misc_bit : ℕ → Bool
    misc_bit g = bit (msg_start fm c) g && eqb (type_of (granule fm g c)) 10

    misc_to : (g : ℕ) → MiscAt g → T (misc_bit g)
    misc_to g h = true_t (misc_bit g) (and_both (bit (msg_start fm c) g) (eqb (type_of (granule fm g c)) 10) (T_true (bit (msg_start fm c) g) (starts_to g h.0)) (eq-eqb (type_of (granule fm g c)) 10 h.1))

    misc_of : (g : ℕ) → T (misc_bit g) → MiscAt g
    misc_of g t = by (bit (msg_start fm c) g) (eqb (type_of (granule fm g c)) 10) refl refl t
      where
        by : (a d : Bool) → bit (msg_start fm c) g ≡ a → eqb (type_of (granule fm g c)) 10 ≡ d → T (a && d) → MiscAt g
        by true true ea ed u = (eqb-true (start_bit fm c g) 1 ea, eqb-true (type_of (granule fm g c)) 10 ed)
        by true false ea ed u = absurd u
        by false d ea ed u = absurd u

    module _ (q : ℕ) (b : q < 4) where
      abbrev g0 : ℕ
      g0 = 3 * q

      abbrev g1 : ℕ
      g1 = 3 * q + 1

      abbrev g2 : ℕ
      g2 = 3 * q + 2

      pop_to : (g : ℕ) → g < 12 → Populated fm m c g → T (populated (cell g))
      pop_to g l = populated_to g (progress fm c m g) l (fol g l)

      pop_of : (g : ℕ) → g < 12 → T (populated (cell g)) → Populated fm m c g
      pop_of g l = populated_of g (progress fm c m g) l (fol g l)

      sum_same : starting miscs (cell g0) + (starting miscs (cell g1) + starting miscs (cell g2)) ≡ pick (misc_bit g0) 1 0 + (pick (misc_bit g1) 1 0 + pick (misc_bit g2) 1 0)
      sum_same =
          rw (both_pick (bit (msg_start fm c) g0) (eqb (type_of (granule fm g0 c)) 10), both_pick (bit (msg_start fm c) g1) (eqb (type_of (granule fm g1 c)) 10), both_pick (bit (msg_start fm c) g2) (eqb (type_of (granule fm g2 c)) 10))

      group_rules : KeepsGroup (cell g0) (cell g1) (cell g2) → GroupRules fm m c q
      group_rules k = record {
        first = come_first (Populated fm m c) q (λ h. pop_of g0 (omega arith) (k.second (pop_to g1 (omega arith) h))) (λ h. pop_of g1 (omega arith) (k.third (pop_to g2 (omega arith) h)));
        one_misc = λ g h a d s x t y. no_two MiscAt q
            (λ u v. one.0 (misc_to g0 u) (misc_to g1 v), λ u v. one.1 (misc_to g0 u) (misc_to g2 v), λ u v. one.2 (misc_to g1 u) (misc_to g2 v)) g h a d (s, x) (t, y);
        four = k.four_responses;
      }
        where
          one : (T (misc_bit g0) → T (misc_bit g1) → ⊥) × (T (misc_bit g0) → T (misc_bit g2) → ⊥) × (T (misc_bit g1) → T (misc_bit g2) → ⊥)
          one = (at_most_one (misc_bit g0) (misc_bit g1) (misc_bit g2)).0 (subst (λ (z : ℕ). z ≤ 1) sum_same k.one_misc)

      group_keeps : GroupRules fm m c q → KeepsGroup (cell g0) (cell g1) (cell g2)
      group_keeps k = record {
        second = λ t. pop_to g0 (omega arith) (k.first g0 g1 (omega arith) (omega arith) (omega arith) (pop_of g1 (omega arith) t));
        third = λ t. pop_to g1 (omega arith) (k.first g1 g2 (omega arith) (omega arith) (omega arith) (pop_of g2 (omega arith) t));
        one_misc = subst (λ (z : ℕ). z ≤ 1) (sym sum_same) ((at_most_one (misc_bit g0) (misc_bit g1) (misc_bit g2)).1 (differ g0 g1 (omega arith) (omega arith) (omega arith), differ g0 g2 (omega arith) (omega arith) (omega arith), differ g1 g2 (omega arith) (omega arith) (omega arith)));
        four_responses = k.four;
      }
        where
          differ : (g h : ℕ) → g / 3 ≡ q → h / 3 ≡ q → g < h → T (misc_bit g) → T (misc_bit h) → ⊥
          differ g h a d l s t = let x = misc_of g s in let y = misc_of h t in let z = k.one_misc g h a d x.0 x.1 y.0 y.1 in omega arith

  -- ---- the container
  pub rules_keeps : Rules fm m c → Keeps fm m c
  unfolding cell_of
  rules_keeps r =
      let z = r.reserved in
      let second : header fm c 1 < 16 = omega (arith, z.0) in
      let third : header fm c 2 < 16 = omega (arith, z.1) in
      let all = rules_followed r.granules in
      record {
        reserved = (second, third, z.2, z.3, z.4);
        shared = λ t. r.shared (eqb-true (header fm c 2 % 2) 1 t);
        granules = λ g b. keeps_of_rules g (progress fm c m g) b (all g (omega arith)) (r.granules g b);
        groups = λ q b. group_keeps all q b (r.groups q b);
        quiet = λ g b s a. r.quiet g b (starts_of g s) ((misc_exactly (granule fm g c) 1).0 a);
      }

  pub keeps_rules : Keeps fm m c → Rules fm m c
  unfolding cell_of
  keeps_rules k =
      let all = keeps_followed k.granules in
      let z = k.reserved in
      record {
        reserved = (omega (arith, z.0), omega (arith, z.1), z.2, z.3, z.4);
        shared = λ t. k.shared (eq-eqb (header fm c 2 % 2) 1 t);
        granules = λ g b. rules_of_keeps g (progress fm c m g) b (all g (omega arith)) (k.granules g b);
        groups = λ q b. group_rules all q b (k.groups q b);
        quiet = λ g b s a. k.quiet g b (starts_to g s) ((misc_exactly (granule fm g c) 1).1 a);
      }

  -- a container keeps the rules in the papers' words exactly where it keeps those of the checks
  pub rules_exactly : Rules fm m c ↔ Keeps fm m c
  rules_exactly = (rules_keeps, keeps_rules)
