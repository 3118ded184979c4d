-- Where the messages of a container lie: the cells, followed one by one, go on exactly where a message that starts below or was carried in
-- does by its size. Assumes nothing.
use Prim.Native.Nat.{ℕ, zero, suc, ◌+◌, ◌*◌, ◌%◌, ◌≤◌, ◌<◌}
use mathlib.Core.Path.{◌≡◌, refl, sym, ap, ◌∙◌, subst}
use mathlib.Core.Bool.{Bool, true, false, ◌&&◌}
use mathlib.Core.List.{List, [], ◌∷◌, ◌++◌, append_assoc, append-nil}
use mathlib.Core.Logic.{◌⊎◌, inl, inr, ⊎_elim, ◌↔◌}
use native.Mathlib.Omega.{arith}
use lib.ListN.{length, length-append}
use lib.Dec.{T, eqb, ltb, leb}
use borrow.Author.Tests.{lt-ltb, ltb-true, ltb-false, le-leb, lt-leb, leb-true, leb-false, eq-eqb, ne_eqb, eqb-true, eqb-false}
use Rattle.lists.specs.Pick.{pick}
use Rattle.lists.proofs.Tests.{cases, T_true, true_t, and_left, and_right, and_both, never_both}
use Rattle.lists.proofs.PartLaws.{length_part}
use Rattle.container.specs.Layout.{Format, start, wide, granule, msg_start, bit}
use Rattle.container.specs.Lawful.{Lawful}
use Rattle.message.specs.Heads.{type_of, op_of, msg_size}
use Rattle.message.specs.HeadRules.{Bytes}
use Rattle.message.specs.Places.{placed}
use Rattle.message.proofs.HeadLaws.{size_append, size_of}
use Rattle.message.proofs.HeadRuleLaws.{bytes_size, bytes_some, size_bytes}
use Rattle.message.proofs.PlaceLaws.{placed_fits}
use Rattle.placement.specs.Cells.{owed, cell_at, whole, after, carry_ok}
use Rattle.placement.proofs.Keeps.{progress, cell_of, KeepsGranule}
use Rattle.placement.specs.Rules.{start_bit, Starts, Origin, There, front, next, full, before, GoesOn}
use Rattle.placement.specs.Rules.Origin.{carry, at}
use Rattle.placement.specs.Completion.{gather, so_far}
use Rattle.placement.proofs.FirmLaws.{carry_firm}

-- ---- the granules of 20 bytes
module _ (fm : Format) (s : ℕ) where
  pub full_in : (g : ℕ) → s ≤ g → fm.size g ≡ 20 → full fm s (suc g) ≡ full fm s g ++ (g ∷ [])
  unfolding full
  full_in g h w = rw (le-leb s g h, eq-eqb (fm.size g) 20 w)

  pub full_out : (g : ℕ) → (fm.size g ≡ 20 → ⊥) → full fm s (suc g) ≡ full fm s g
  unfolding full
  full_out g w = ⊎_elim
      (λ (t : leb s g ≡ true). rw (t, ne_eqb (fm.size g) 20 w) (append-nil (full fm s g)))
      (λ (t : leb s g ≡ false). rw t (append-nil (full fm s g))) (cases (leb s g))

  pub full_none : (g : ℕ) → g ≤ s → full fm s g ≡ []
  unfolding full
  full_none zero h = refl
  full_none (suc g) h = rw (lt-leb s g (omega arith), full_none g (omega arith))

-- ---- their bytes
pub gather_append : (fm : Format) (c a b : List ℕ) → gather fm c (a ++ b) ≡ gather fm c a ++ gather fm c b
gather_append fm c [] b = refl
gather_append fm c (g ∷ a) b = rw (gather_append fm c a b) (sym (append_assoc (granule fm g c) (gather fm c a) (gather fm c b)))

-- a message that is not all read when granule g is reached
pub record Under (fm : Format) (m c : List ℕ) (o : Origin) (n g : ℕ) : Type 0 where
  pub there : There fm c o
  pub bytes : Bytes (front fm m c o) n
  pub later : next o ≤ g
  pub more : before fm m c o g < n

next_cases : (o : Origin) (g : ℕ) → next o ≤ suc g → (next o ≤ g) ⊎ (o ≡ at g)
next_cases carry g h = inl (omega arith)
next_cases (at s) g h =
    ⊎_elim (λ (e : eqb s g ≡ true). inr (ap at (eqb-true s g e))) (λ (e : eqb s g ≡ false). let d = eqb-false s g e in inl (omega arith)) (cases (eqb s g))

module _ (fm : Format) (law : Lawful fm) (m c : List ℕ) (n256 : length c ≡ 256) (valid : carry_ok m ≡ true) where
  pub granule_sized : (g : ℕ) → g < 12 → length (granule fm g c) ≡ fm.size g
  granule_sized g b = length_part (start g) (fm.size g) c (rw n256 (law.inside g b))

  pub gather_length : (s g : ℕ) → g ≤ 12 → length (gather fm c (full fm s g)) ≡ 20 * length (full fm s g)
  unfolding full
  gather_length s zero b = refl
  gather_length s (suc g) b =
      let i = gather_length s g (omega arith) in
      ⊎_elim
      (λ (t : (leb s g && eqb (fm.size g) 20) ≡ true).
      let w : fm.size g ≡ 20 = eqb-true (fm.size g) 20 (and_right (leb s g) (eqb (fm.size g) 20) t) in
      let l = granule_sized g b in
      rw (t, gather_append fm c (full fm s g) (g ∷ []), length-append (gather fm c (full fm s g)) (granule fm g c ++ []), length-append (granule fm g c) [], length-append (full fm s g) (g ∷ [])) (omega arith))
      (λ (t : (leb s g && eqb (fm.size g) 20) ≡ false). rw (t, append-nil (full fm s g)) i)
      (cases (leb s g && eqb (fm.size g) 20))

  -- ---- a message that is under way
  pub front_long : (o : Origin) (n : ℕ) → There fm c o → Bytes (front fm m c o) n → 10 ≤ length (front fm m c o)
  front_long carry n t r =
      let f = carry_firm m valid in
      let e = bytes_size m r in
      let z = bytes_some m r in
      ⊎_elim (λ (k : ltb 0 (owed m) ≡ true). let l = f.begun (ltb-true 0 (owed m) k) in omega arith)
      (λ (k : ltb 0 (owed m) ≡ false). let q : owed m ≡ 0 = omega (arith, ltb-false 0 (owed m) k) in let none : m ≡ [] = f.idle q in let y : msg_size m ≡ 0 = rw none in absurd (omega arith))
      (cases (ltb 0 (owed m)))
  front_long (at s) n t r = let l = granule_sized s t.0 in let k = law.least s t.0 in omega arith

  module _ (o : Origin) (n g : ℕ) (b : g ≤ 12) (u : Under fm m c o n g) where
    pub far_length : length (so_far fm m c o g) ≡ before fm m c o g
    far_length = length-append (front fm m c o) (gather fm c (full fm (next o) g)) ∙ ap (λ (k : ℕ). length (front fm m c o) + k) (gather_length (next o) g b)

    pub far_size : msg_size (so_far fm m c o g) ≡ n
    far_size =
        let l = front_long o n u.there u.bytes in
        size_append (front fm m c o) (gather fm c (full fm (next o) g)) (omega arith) ∙ bytes_size (front fm m c o) u.bytes

    -- so where p is what was read of it, something is owed
    pub far_owed : (p : List ℕ) → p ≡ so_far fm m c o g → (msg_size p ≡ n) × (length p ≡ before fm m c o g) × (0 < owed p)
    far_owed p e =
        let s : msg_size p ≡ n = ap msg_size e ∙ far_size in
        let l : length p ≡ before fm m c o g = ap length e ∙ far_length in
        let k = u.more in
        (s, l, omega arith)

  -- one granule more
  module _ (o : Origin) (g : ℕ) (h : next o ≤ g) where
    pub before_wide : fm.size g ≡ 20 → before fm m c o (suc g) ≡ before fm m c o g + 20
    before_wide w = rw (full_in fm (next o) g h w, length-append (full fm (next o) g) (g ∷ [])) (omega arith)

    pub before_narrow : (fm.size g ≡ 20 → ⊥) → before fm m c o (suc g) ≡ before fm m c o g
    before_narrow w = rw (full_out fm (next o) g w)

    pub far_wide : fm.size g ≡ 20 → so_far fm m c o (suc g) ≡ so_far fm m c o g ++ granule fm g c
    far_wide w =
        rw (full_in fm (next o) g h w, gather_append fm c (full fm (next o) g) (g ∷ []), append-nil (granule fm g c))
        (sym (append_assoc (front fm m c o) (gather fm c (full fm (next o) g)) (granule fm g c)))

    far_narrow : (fm.size g ≡ 20 → ⊥) → so_far fm m c o (suc g) ≡ so_far fm m c o g
    far_narrow w = rw (full_out fm (next o) g w)

    before_less : (n : ℕ) → before fm m c o (suc g) < n → before fm m c o g < n
    before_less n l =
        ⊎_elim (λ (t : eqb (fm.size g) 20 ≡ true). omega (arith, before_wide (eqb-true (fm.size g) 20 t)))
        (λ (t : eqb (fm.size g) 20 ≡ false). omega (arith, before_narrow (eqb-false (fm.size g) 20 t))) (cases (eqb (fm.size g) 20))

    under_less : (n : ℕ) → Under fm m c o n (suc g) → Under fm m c o n g
    under_less n u = record { there = u.there; bytes = u.bytes; later = h; more = before_less n u.more }

  -- ---- what was read of the message in progress, p, belongs to a message that is under way
  pub record Follow (g : ℕ) (p : List ℕ) : Type 0 where
    pub idle : owed p ≡ 0 → p ≡ []
    pub granular : length p % 20 ≡ 0
    pub under : 0 < owed p → (o : Origin) × (n : ℕ) × Under fm m c o n g
    pub only : (o : Origin) (n : ℕ) → Under fm m c o n g → p ≡ so_far fm m c o g
    pub same : (o r : Origin) (n k : ℕ) → Under fm m c o n g → Under fm m c r k g → o ≡ r

  follow_left : (g : ℕ) (y : List ℕ) → g ≤ 12 → length y % 20 ≡ 0 → (length y < msg_size y → (o : Origin) × (n : ℕ) × Under fm m c o n g)
      → ((o : Origin) (n : ℕ) → Under fm m c o n g → y ≡ so_far fm m c o g) → ((o r : Origin) (n k : ℕ) → Under fm m c o n g → Under fm m c r k g → o ≡ r) → Follow g (pick (whole y) [] y)
  follow_left g y b r u only same =
      ⊎_elim
      (λ (t : whole y ≡ true). rw t (record {
        idle = λ z. refl;
        granular = refl;
        under = λ z. absurd (omega arith);
        only = λ o n k. let l = leb-true (msg_size y) (length y) t in let f = far_owed o n g b k y (only o n k) in let q = f.2 in absurd (omega arith);
        same = same;
      }))
      (λ (t : whole y ≡ false). let l = leb-false (msg_size y) (length y) t in rw t (record {
        idle = λ z. absurd (omega arith);
        granular = r;
        under = λ z. u l;
        only = only;
        same = same;
      }))
      (cases (whole y))

  module _ (g : ℕ) (p : List ℕ) (b : g < 12) (f : Follow g p) (k : KeepsGranule fm g (cell_at fm g c p)) where
    abbrev x : List ℕ
    x = granule fm g c

    abbrev Then : Type 0
    Then = Follow (suc g) (after fm g (cell_at fm g c p) p)

    twenty : wide fm g ≡ true → length x ≡ 20
    twenty w = granule_sized g b ∙ eqb-true (fm.size g) 20 w

    not_twenty : wide fm g ≡ false → fm.size g ≡ 20 → ⊥
    not_twenty w = eqb-false (fm.size g) 20 w

    under_owed : (o : Origin) (n : ℕ) → Under fm m c o n g → ltb 0 (owed p) ≡ true
    under_owed o n u = lt-ltb 0 (owed p) (far_owed o n g (omega arith) u p (f.only o n u)).2

    starts_bit : Starts fm c g → bit (msg_start fm c) g ≡ true
    starts_bit s = eq-eqb (start_bit fm c g) 1 s

    -- the message in progress goes on
    goes : ltb 0 (owed p) ≡ true → wide fm g ≡ true → Follow (suc g) (pick (whole (p ++ x)) [] (p ++ x))
    goes eo ew =
        let some = ltb-true 0 (owed p) eo in
        let u = f.under some in
        let w = eqb-true (fm.size g) 20 ew in
        let q = far_owed u.0 u.1 g (omega arith) u.2 p (f.only u.0 u.1 u.2) in
        let l : length (p ++ x) ≡ length p + 20 = length-append p x ∙ ap (λ (j : ℕ). length p + j) (twenty ew) in
        let y = u.2.more in
        let fl = front_long u.0 u.1 u.2.there u.2.bytes in
        let two : 1 < length p = omega (arith, q.1) in
        let s : msg_size (p ++ x) ≡ msg_size p = size_append p x two in
        let r = f.granular in
        follow_left (suc g) (p ++ x) b (rw l (omega arith))
        (λ (z : length (p ++ x) < msg_size (p ++ x)). (u.0, u.1, record { there = u.2.there; bytes = u.2.bytes; later = omega (arith, u.2.later); more = rw (before_wide u.0 g u.2.later w) (omega (arith, q.0, q.1)) }))
        (λ o n v. ⊎_elim
        (λ (h : next o ≤ g). ap (λ (j : List ℕ). j ++ x) (f.only o n (under_less o g h n v)) ∙ sym (far_wide o g h w))
        (λ (h : o ≡ at g). let t : There fm c (at g) = subst (There fm c) h v.there in absurd (k.apart (true_t (ltb 0 (owed p) && wide fm g) (and_both (ltb 0 (owed p)) (wide fm g) eo ew)) (true_t (bit (msg_start fm c) g) (starts_bit t.1))))
        (next_cases o g v.later))
        (λ o r n j v w. f.same o r n j (earlier o n v) (earlier r j w))
      where
        earlier : (o : Origin) (n : ℕ) → Under fm m c o n (suc g) → Under fm m c o n g
        earlier o n v = ⊎_elim (λ (h : next o ≤ g). under_less o g h n v)
            (λ (h : o ≡ at g). let t : There fm c (at g) = subst (There fm c) h v.there in absurd (k.apart (true_t (ltb 0 (owed p) && wide fm g) (and_both (ltb 0 (owed p)) (wide fm g) eo ew)) (true_t (bit (msg_start fm c) g) (starts_bit t.1))))
            (next_cases o g v.later)

    -- a message starts in a granule of 20 bytes
    begins : ltb 0 (owed p) ≡ false → bit (msg_start fm c) g ≡ true → wide fm g ≡ true → Follow (suc g) (pick (whole x) [] x)
    begins eo es ew =
        let l = twenty ew in
        let e : so_far fm m c (at g) (suc g) ≡ x = rw (full_none fm (g + 1) (suc g) (omega arith)) (append-nil x) in
        let known = k.known (true_t (bit (msg_start fm c) g) es) in
        follow_left (suc g) x b (rw l)
        (λ (z : length x < msg_size x). (at g, msg_size x, record { there = (b, eqb-true (start_bit fm c g) 1 es); bytes = size_bytes x known; later = omega arith; more = rw (full_none fm (g + 1) (suc g) (omega arith)) (omega arith) }))
        (λ o n v. ⊎_elim
        (λ (h : next o ≤ g). absurd (never_both eo (under_owed o n (under_less o g h n v))))
        (λ (h : o ≡ at g). rw h (sym e))
        (next_cases o g v.later))
        (λ o r n j v w. here o n v ∙ sym (here r j w))
      where
        here : (o : Origin) (n : ℕ) → Under fm m c o n (suc g) → o ≡ at g
        here o n v = ⊎_elim (λ (h : next o ≤ g). absurd (never_both eo (under_owed o n (under_less o g h n v)))) (λ (h : o ≡ at g). h) (next_cases o g v.later)

    -- neither
    stays : (ltb 0 (owed p) ≡ true → wide fm g ≡ false) → (bit (msg_start fm c) g ≡ true → wide fm g ≡ false) → Follow (suc g) p
    stays hn hs = record {
      idle = f.idle;
      granular = f.granular;
      under = λ z. let u = f.under z in let w = not_twenty (hn (lt-ltb 0 (owed p) z)) in (u.0, u.1, record { there = u.2.there; bytes = u.2.bytes; later = omega (arith, u.2.later); more = rw (before_narrow u.0 g u.2.later w) u.2.more });
      only = λ o n v. ⊎_elim
          (λ (h : next o ≤ g). let u = under_less o g h n v in f.only o n u ∙ sym (far_narrow o g h (not_twenty (hn (under_owed o n u)))))
          (λ (h : o ≡ at g). absurd (fits n (subst (λ (z : Origin). Under fm m c z n (suc g)) h v)))
          (next_cases o g v.later);
      same = λ o r n j v w. f.same o r n j (earlier o n v) (earlier r j w);
    }
      where
        fits : (n : ℕ) → Under fm m c (at g) n (suc g) → ⊥
        fits n v =
            let s = starts_bit v.there.1 in
            let q = leb-true (msg_size x) (fm.size g) (placed_fits fm g x (hs s) (T_true (placed fm g x) (k.place (true_t (bit (msg_start fm c) g) s)))) in
            let e = bytes_size x v.bytes in
            let l = granule_sized g b in
            let y : length x + 20 * length (full fm (g + 1) (suc g)) < n = v.more in
            let z : length (full fm (g + 1) (suc g)) ≡ 0 = rw (full_none fm (g + 1) (suc g) (omega arith)) in
            omega arith

        earlier : (o : Origin) (n : ℕ) → Under fm m c o n (suc g) → Under fm m c o n g
        earlier o n v =
            ⊎_elim (λ (h : next o ≤ g). under_less o g h n v) (λ (h : o ≡ at g). absurd (fits n (subst (λ (z : Origin). Under fm m c z n (suc g)) h v))) (next_cases o g v.later)

    pub follow_next : Then
    follow_next = by (ltb 0 (owed p)) (bit (msg_start fm c) g) (wide fm g) refl refl refl
      where
        by : (on st w : Bool) → ltb 0 (owed p) ≡ on → bit (msg_start fm c) g ≡ st → wide fm g ≡ w → Then
        by true st true eo es ew = rw (eo, ew) (goes eo ew)
        by true true false eo es ew = rw (eo, es, ew) (stays (λ _. ew) (λ _. ew))
        by true false false eo es ew = rw (eo, es, ew) (stays (λ _. ew) (λ _. ew))
        by false true true eo es ew = rw (eo, es, ew) (begins eo es ew)
        by false true false eo es ew = rw (eo, es, ew) (stays (λ _. ew) (λ _. ew))
        by false false w eo es ew = rw (eo, es) (stays (λ t. absurd (never_both eo t)) (λ t. absurd (never_both es t)))

  follow_first : Follow 0 m
  follow_first = record {
    idle = (carry_firm m valid).idle;
    granular = (carry_firm m valid).granular;
    under = λ z. (carry, msg_size m, record { there = tt; bytes = size_bytes m (omega arith); later = omega arith; more = rw (full_none fm 0 0 (omega arith)) (omega arith) });
    only = first;
    same = λ o r n k v w. none o n v ∙ sym (none r k w);
  }
    where
      none : (o : Origin) (n : ℕ) → Under fm m c o n 0 → o ≡ carry
      none carry n u = refl
      none (at s) n u = let h : s + 1 ≤ 0 = u.later in absurd (omega arith)

      first : (o : Origin) (n : ℕ) → Under fm m c o n 0 → m ≡ so_far fm m c o 0
      first carry n u = rw (full_none fm 0 0 (omega arith)) (sym (append-nil m))
      first (at s) n u = let h : s + 1 ≤ 0 = u.later in absurd (omega arith)

  -- from granule to granule, where each keeps the rules once what is in progress there is known
  pub follow : ((g : ℕ) → g < 12 → Follow g (progress fm c m g) → KeepsGranule fm g (cell_of fm c m g)) → (g : ℕ) → g ≤ 12 → Follow g (progress fm c m g)
  unfolding progress cell_of
  follow k zero b = follow_first
  follow k (suc g) b = let f = follow k g (omega arith) in follow_next g (progress fm c m g) b f (k g b f)

  -- the same up to a granule, where those below keep the rules
  pub follow_to : (g : ℕ) → g ≤ 12 → ((h : ℕ) → h < g → KeepsGranule fm h (cell_of fm c m h)) → Follow g (progress fm c m g)
  unfolding progress cell_of
  follow_to zero b k = follow_first
  follow_to (suc g) b k = follow_next g (progress fm c m g) b (follow_to g (omega arith) (λ h l. k h (omega arith))) (k g (omega arith))

  -- a cell goes on exactly where a message does
  module _ (g : ℕ) (p : List ℕ) (b : g < 12) (f : Follow g p) where
    pub on_goes : (ltb 0 (owed p) && wide fm g) ≡ true → (o : Origin) × (n : ℕ) × GoesOn fm m c o n g
    on_goes t =
        let u = f.under (ltb-true 0 (owed p) (and_left (ltb 0 (owed p)) (wide fm g) t)) in
        let v = u.2 in
        (u.0, u.1, record { there = v.there; bytes = v.bytes; later = v.later; wide = eqb-true (fm.size g) 20 (and_right (ltb 0 (owed p)) (wide fm g) t); more = v.more })

    goes_under : (o : Origin) (n : ℕ) → GoesOn fm m c o n g → Under fm m c o n g
    goes_under o n v = record { there = v.there; bytes = v.bytes; later = v.later; more = v.more }

    pub goes_on : (o : Origin) (n : ℕ) → GoesOn fm m c o n g → (ltb 0 (owed p) && wide fm g) ≡ true
    goes_on o n v =
        let u = goes_under o n v in
        and_both (ltb 0 (owed p)) (wide fm g) (lt-ltb 0 (owed p) (far_owed o n g (omega arith) u p (f.only o n u)).2) (eq-eqb (fm.size g) 20 v.wide)

    -- and at least a whole granule of it is still to come
    pub goes_twenty : (o : Origin) (n : ℕ) → GoesOn fm m c o n g → before fm m c o g + 20 ≤ n
    goes_twenty o n v =
        let u = goes_under o n v in
        let q = far_owed o n g (omega arith) u p (f.only o n u) in
        let s = q.0 in
        let l = q.1 in
        let r = f.granular in
        let y = v.more in
        let z = front_long o n v.there v.bytes in
        ⊎_elim (λ (j : msg_size p ≤ 20). absurd (omega arith)) (λ j. let i = j.0 in omega arith) (size_of (type_of p) (op_of p) (omega arith)).kind

  -- where the granules below g keep the rules, the cell of g goes on exactly where the carried message or one that starts below does
  pub goes_exactly : (g : ℕ) → g < 12 → ((h : ℕ) → h < g → KeepsGranule fm h (cell_of fm c m h)) → T (cell_of fm c m g).goes_on ↔ ((o : Origin) × (n : ℕ) × GoesOn fm m c o n g)
  unfolding cell_of
  goes_exactly g b k =
      let f = follow_to g (omega arith) k in
      let p = progress fm c m g in (
        λ t. on_goes g p b f (T_true (ltb 0 (owed p) && wide fm g) t),
        λ v. true_t (ltb 0 (owed p) && wide fm g) (goes_on g p b f v.0 v.1 v.2),
      )
