-- What a reading leaves: the room that its records take, and a carry that is valid again. Assumes nothing.
use Prim.Native.Nat.{ℕ, zero, suc, ◌+◌, ◌-◌, ◌*◌, ◌%◌, ◌≤◌, ◌<◌}
use mathlib.Core.Path.{◌≡◌, refl, ap, ◌∙◌}
use mathlib.Core.Bool.{Bool, true, false, ◌&&◌, ◌||◌}
use mathlib.Core.List.{List, [], ◌∷◌, ◌++◌}
use mathlib.Core.Logic.{◌⊎◌, inl, inr, ⊎_elim}
use native.Mathlib.Omega.{arith}
use lib.ListN.{length, take, drop, replicate, length-append, length-take}
use lib.Dec.{eqb, ltb, leb}
use lib.Seq.{take_at, drop_at}
use borrow.Author.Tests.{lt-ltb, le-leb, eq-eqb, ltb-true, leb-false, eqb-true, eqb-false}
use Rattle.lists.specs.Pick.{pick}
use Rattle.lists.specs.Parts.{zeros}
use Rattle.lists.proofs.Tests.{cases, T_true, true_t, and_left, and_right, or_true, never_both, not_true_false}
use Rattle.lists.proofs.PartLaws.{length_zero}
use Rattle.lists.proofs.ZeroLaws.{zeros_replicate}
use Rattle.cause.specs.Checks.{Pass, first_fault, Accepted}
use Rattle.cause.proofs.CheckLaws.{accepted_pass, pass_front, pass_back}
use Rattle.container.specs.Layout.{Format, format_of, wide, granule}
use Rattle.container.proofs.Formats.{lawful_of, granule_length}
use Rattle.message.specs.Heads.{msg_size, well_headed}
use Rattle.message.proofs.HeadLaws.{size_most, size_append, headed_append}
use Rattle.message.specs.Places.{placed}
use Rattle.message.proofs.PlaceLaws.{placed_fits}
use Rattle.record.proofs.NumberLaws.{number_small}
use Rattle.record.proofs.RecordLaws.{records_append}
use Rattle.record.specs.Records.{records_of}
use Rattle.placement.specs.Cells.{Cell, owed, cell_at, message, whole, after, ended, cells, carry_after, endings, carry_ok}
use Rattle.placement.specs.Checking.{cell_checks, granule_checks, group_checks, activation_checks, container_checks}
use Rattle.placement.proofs.Keeps.{progress, cell_of, ended_to, KeepsGranule}
use Rattle.reader.specs.Reading.{valid_carry, carried, reader_ok, reader_with, state_checks, judge_checks, next_reader}
use Rattle.reader.specs.declared.reader.Reader.{Reader}
use Rattle.placement.proofs.ProgressLaws.{endings_of}
use Rattle.placement.proofs.KeepsLaws.{granule_exactly}

-- the message that x is or begins with, and what is left where x is not whole
abbrev pub whole_of : List ℕ → List (List ℕ)
whole_of x = pick (whole x) (take (msg_size x) x ∷ []) []

abbrev pub left_of : List ℕ → List ℕ
left_of x = pick (whole x) [] x

record_room : (x : List ℕ) → length (records_of (take (msg_size x) x ∷ [])) ≤ 1 + length x
record_room x =
    let n : length (take (msg_size x) x) ≤ 120 = rw (length-take (msg_size x) x) (omega (arith, size_most x)) in
    let l : length (take (msg_size x) x) ≤ length x = rw (length-take (msg_size x) x) (omega arith) in
    simp (length-append, number_small (length (take (msg_size x) x)) (omega arith)) (omega arith)

whole_room : (x : List ℕ) → length (records_of (whole_of x)) + length (left_of x) ≤ 1 + length x
whole_room x =
    ⊎_elim (λ (t : whole x ≡ true). rw t (omega (arith, record_room x))) (λ (t : whole x ≡ false). rw t (omega arith)) (cases (whole x))

-- a message x that is read where m was: it goes on, or starts in a granule that is wide or not
room_by : (on st w : Bool) (x m : List ℕ) → length x ≤ length m + 20 → (on ≡ false → length x ≤ 20)
    → length (records_of (pick (on || st) (whole_of x) [])) + length (pick (on || (st && w)) (left_of x) m) ≤ length m + 21
room_by true st w x m h k = omega (arith, whole_room x)
room_by false true true x m h k = omega (arith, whole_room x, k refl)
room_by false true false x m h k = omega (arith, whole_room x, k refl)
room_by false false w x m h k = omega arith

module _ (f : ℕ) (c m : List ℕ) (n : length c ≡ 256) where
  cell_room : (g : ℕ) (r : List ℕ) → g < 12
      → length (records_of (ended (cell_at (format_of f) g c r) r)) + length (after (format_of f) g (cell_at (format_of f) g c r) r) ≤ length r + 21
  cell_room g r b = room_by e.goes_on e.starts (wide (format_of f) g) (message r e) r longer (λ t. rw t short)
    where
      e : Cell
      e = cell_at (format_of f) g c r

      short : length (granule (format_of f) g c) ≤ 20
      short = rw (granule_length f g c b n) ((lawful_of f).most g b)

      longer : length (message r e) ≤ length r + 20
      longer =
          ⊎_elim (λ (t : e.goes_on ≡ true). rw (t, length-append r (granule (format_of f) g c)) (omega (arith, short)))
          (λ (t : e.goes_on ≡ false). rw t (omega (arith, short))) (cases e.goes_on)

  -- what ended and what is in progress take at most 21 bytes a granule beyond what was carried
  pub ended_room : (k : ℕ) → k ≤ 12 → length (records_of (ended_to (format_of f) c m k)) + length (progress (format_of f) c m k) ≤ length m + 21 * k
  unfolding ended_to progress cell_of
  ended_room zero b = omega arith
  ended_room (suc k) b =
      let r = progress (format_of f) c m k in
      let e = cell_at (format_of f) k c r in
      rw (records_append (ended_to (format_of f) c m k) (ended e r), length-append (records_of (ended_to (format_of f) c m k)) (records_of (ended e r)))
      (omega (arith, ended_room k (omega arith), cell_room k r (omega arith)))

-- the records of a container fit in 352 bytes
pub records_fit : (f : ℕ) (c m : List ℕ) → length c ≡ 256 → length m ≤ 100
    → length (records_of (endings (format_of f) 0 (cells (format_of f) c 12 0 m) m)) ≤ 352
records_fit f c m n h = rw (endings_of (format_of f) c m) (omega (arith, ended_room f c m n 12 (omega arith)))

-- ---- a carry
-- whole granules of a message with a right head, at least one
pub record Granules (x : List ℕ) : Type 0 where
  pub granules : length x % 20 ≡ 0
  pub some : 20 ≤ length x
  pub known : 0 < msg_size x
  pub headed : well_headed x ≡ true

-- a message that is not yet whole
pub record Half (m : List ℕ) : Type 0 where
  pub begun : Granules m
  pub not_all_held : length m < msg_size m

abbrev pub Valid : List ℕ → Type 0
Valid m = (m ≡ []) ⊎ Half m

pub valid_ok : (m : List ℕ) → Valid m → (carry_ok m ≡ true) × (length m ≤ 100)
valid_ok m v = ⊎_elim none half v
  where
    none : m ≡ [] → (carry_ok m ≡ true) × (length m ≤ 100)
    none e = (rw e, rw e (omega arith))

    half : Half m → (carry_ok m ≡ true) × (length m ≤ 100)
    half h = (
      rw (eq-eqb (length m % 20) 0 h.begun.granules, lt-ltb (length m) (msg_size m) h.not_all_held, h.begun.headed) (or_true (eqb (length m) 0)),
      omega (arith, h.begun.granules, h.not_all_held, size_most m),
    )

pub ok_valid : (m : List ℕ) → carry_ok m ≡ true → Valid m
ok_valid m e = ⊎_elim (λ (z : eqb (length m) 0 ≡ true). inl (length_zero m (eqb-true (length m) 0 z))) some (cases (eqb (length m) 0))
  where
    some : eqb (length m) 0 ≡ false → Valid m
    some z =
        let d = eqb-false (length m) 0 z in
        let q : (eqb (length m % 20) 0 && (ltb (length m) (msg_size m) && well_headed m)) ≡ true = rw z at e in
        let r = and_right (eqb (length m % 20) 0) (ltb (length m) (msg_size m) && well_headed m) q in
        let a : length m % 20 ≡ 0 = eqb-true (length m % 20) 0 (and_left (eqb (length m % 20) 0) (ltb (length m) (msg_size m) && well_headed m) q) in
        let b : length m < msg_size m = ltb-true (length m) (msg_size m) (and_left (ltb (length m) (msg_size m)) (well_headed m) r) in
        inr (record {
          begun = record { granules = a; some = omega arith; known = omega arith; headed = and_right (ltb (length m) (msg_size m)) (well_headed m) r };
          not_all_held = b;
        })

-- one granule more
granules_more : (m b : List ℕ) → Granules m → length b ≡ 20 → Granules (m ++ b)
granules_more m b h n =
    let l : length (m ++ b) ≡ length m + 20 = length-append m b ∙ ap (λ (k : ℕ). length m + k) n in
    let q = h.granules in
    let r = h.some in
    let s = h.known in
    record {
      granules = rw l (omega arith);
      some = rw l (omega arith);
      known = rw (size_append m b (omega arith)) s;
      headed = headed_append m b (omega arith) (λ t. omega arith) ∙ h.headed;
    }

left_valid : (x : List ℕ) → Granules x → Valid (left_of x)
left_valid x h =
    ⊎_elim (λ (t : whole x ≡ true). rw t (inl refl))
    (λ (t : whole x ≡ false). rw t (inr (record { begun = h; not_all_held = leb-false (msg_size x) (length x) t }))) (cases (whole x))

-- a cell that keeps its rules, behind a valid carry m: a message goes on, starts in a wide granule, starts and ends in a narrow one,
-- or there is none
pub data Cased (fm : Format) (g : ℕ) (e : Cell) (m : List ℕ) : Type 0 where
  goes : e.goes_on ≡ true → e.starts ≡ false → Half m → Granules (m ++ e.bytes) → Cased fm g e m
  begins : e.goes_on ≡ false → e.starts ≡ true → wide fm g ≡ true → m ≡ [] → Granules e.bytes → Cased fm g e m
  fits : e.goes_on ≡ false → e.starts ≡ true → wide fm g ≡ false → whole e.bytes ≡ true → 0 < msg_size e.bytes
      → well_headed e.bytes ≡ true → Cased fm g e m
  rests : e.goes_on ≡ false → e.starts ≡ false → Cased fm g e m

-- what is in progress behind such a cell is a valid carry again
cell_valid : {fm : Format} {g : ℕ} {e : Cell} {m : List ℕ} → Cased fm g e m → Valid m → Valid (after fm g e m)
cell_valid {e = e} {m = m} (goes eo es h x) v = rw eo (left_valid (m ++ e.bytes) x)
cell_valid {e = e} (begins eo es ew z x) v = rw (eo, es, ew) (left_valid e.bytes x)
cell_valid (fits eo es ew t p h) v = rw (eo, es, ew) v
cell_valid (rests eo es) v = rw (eo, es) v

module _ (f g : ℕ) (c m : List ℕ) (b : g < 12) (n : length c ≡ 256) (v : Valid m) (k : KeepsGranule (format_of f) g (cell_at (format_of f) g c m)) where
  abbrev fm : Format
  fm = format_of f

  abbrev e : Cell
  e = cell_at fm g c m

  twenty : wide fm g ≡ true → length e.bytes ≡ 20
  twenty w = granule_length f g c b n ∙ eqb-true (fm.size g) 20 w

  -- something is owed of a message in progress, and nothing of none
  half_owed : Half m → ltb 0 (owed m) ≡ true
  half_owed h = let p = h.not_all_held in lt-ltb 0 (owed m) (omega arith)

  owed_half : ltb 0 (owed m) ≡ true → Half m
  owed_half t = ⊎_elim (λ (z : m ≡ []). absurd (never_both refl (rw z at t))) (λ (h : Half m). h) v

  cased : Cased fm g e m
  cased = by e.goes_on e.starts (wide fm g) refl refl refl
    where
      by : (on st w : Bool) → e.goes_on ≡ on → e.starts ≡ st → wide fm g ≡ w → Cased fm g e m
      by true st w eo es ew =
          let h = owed_half (and_left (ltb 0 (owed m)) (wide fm g) eo) in
          goes eo (not_true_false e.starts (λ t. k.apart (true_t e.goes_on eo) (true_t e.starts t))) h
          (granules_more m e.bytes h.begun (twenty (and_right (ltb 0 (owed m)) (wide fm g) eo)))
      by false true true eo es ew =
          let s = true_t e.starts es in
          begins eo es ew none (record { granules = rw (twenty ew); some = rw (twenty ew) (omega arith); known = k.known s; headed = T_true (well_headed e.bytes) (k.head s) })
        where
          none : m ≡ []
          none = ⊎_elim (λ (z : m ≡ []). z) (λ (h : Half m). absurd (never_both eo (rw (half_owed h, ew)))) v
      by false true false eo es ew =
          let s = true_t e.starts es in
          let l = granule_length f g c b n in
          fits eo es ew (rw l (placed_fits fm g e.bytes ew (T_true (placed fm g e.bytes) (k.place s)))) (k.known s) (T_true (well_headed e.bytes) (k.head s))
      by false false w eo es ew = rests eo es

-- the cells that pass, one after the other: the first is one of the four, and what is behind it passes behind a valid carry
module _ (f : ℕ) (c : List ℕ) (n : length c ≡ 256) where
  abbrev format : Format
  format = format_of f

  pub record Passing (k g : ℕ) (m : List ℕ) : Type 0 where
    pub within : g + k ≤ 12
    pub valid : Valid m
    pub pass : Pass (granule_checks format g (cells format c k g m))

  module _ (k g : ℕ) (m : List ℕ) (p : Passing (suc k) g m) where
    pub first_cased : Cased format g (cell_at format g c m) m
    unfolding granule_checks cells
    first_cased =
        cased f g c m (omega (arith, p.within)) n p.valid
        ((granule_exactly format g (cell_at format g c m)).0 (pass_front (cell_checks format g (cell_at format g c m)) (granule_checks format (g + 1) (cells format c k (g + 1) (after format g (cell_at format g c m) m))) p.pass))

    pub rest_passing : Passing k (g + 1) (after format g (cell_at format g c m) m)
    unfolding granule_checks cells
    rest_passing = record {
      within = omega (arith, p.within);
      valid = cell_valid first_cased p.valid;
      pass = pass_back (cell_checks format g (cell_at format g c m)) (granule_checks format (g + 1) (cells format c k (g + 1) (after format g (cell_at format g c m) m))) p.pass;
    }

  cells_valid : (k g : ℕ) (m : List ℕ) → Passing k g m → Valid (carry_after format g (cells format c k g m) m)
  unfolding cells carry_after
  cells_valid zero g m p = p.valid
  cells_valid (suc k) g m p = cells_valid k (g + 1) (after format g (cell_at format g c m) m) (rest_passing k g m p)

  -- granules that pass behind a valid carry
  pub all_passing : (m : List ℕ) → carry_ok m ≡ true → Pass (granule_checks format 0 (cells format c 12 0 m)) → Passing 12 0 m
  all_passing m h p = record { within = omega arith; valid = ok_valid m h; pass = p }

-- what is carried on is a valid carry again
pub carry_valid : (f : ℕ) (c m : List ℕ) → length c ≡ 256 → carry_ok m ≡ true → Pass (granule_checks (format_of f) 0 (cells (format_of f) c 12 0 m))
    → (carry_ok (carry_after (format_of f) 0 (cells (format_of f) c 12 0 m) m) ≡ true) × (length (carry_after (format_of f) 0 (cells (format_of f) c 12 0 m) m) ≤ 100)
carry_valid f c m n h p = valid_ok (carry_after (format_of f) 0 (cells (format_of f) c 12 0 m) m) (cells_valid f c n 12 0 m (all_passing f c n m h p))

-- ---- a reader
-- the granules of a container that passes
pub granules_pass : (fm : Format) (c : List ℕ) (es : List Cell) → Pass (container_checks fm c es) → Pass (granule_checks fm 0 es)
unfolding container_checks
granules_pass fm c es p = pass_front (granule_checks fm 0 es) (group_checks 4 0 es ++ activation_checks fm c es) p.1.1

-- a valid reader, test by test
pub record ValidReader (s : Reader) : Type 0 where
  pub format : ltb s.format 2 ≡ true
  pub short : leb s.carry.len 100 ≡ true
  pub carry : carry_ok (carried s) ≡ true
  pub rest : zeros (drop s.carry.len s.carry.bytes) ≡ true

pub reader_ok_valid : (s : Reader) → reader_ok s ≡ true → ValidReader s
reader_ok_valid s e =
    let some = carry_ok (carried s) in
    let rest = zeros (drop s.carry.len s.carry.bytes) in
    let p = and_right (ltb s.format 2) (valid_carry s.carry) e in
    let q = and_right (leb s.carry.len 100) (some && rest) p in
    record {
      format = and_left (ltb s.format 2) (valid_carry s.carry) e;
      short = and_left (leb s.carry.len 100) (some && rest) p;
      carry = and_left some rest q;
      rest = and_right some rest q;
    }

-- a reader of a format that carries a valid carry
pub with_valid : (f : ℕ) (m : List ℕ) → ltb f 2 ≡ true → carry_ok m ≡ true → length m ≤ 100 → reader_ok (reader_with f m) ≡ true
with_valid f m e h l =
    let behind : List ℕ = replicate (100 - length m) 0 in
    rw (e, le-leb (length m) 100 l, take_at m behind (length m) refl, h, drop_at m behind (length m) refl, zeros_replicate (100 - length m))

-- the reader after a container that is accepted is valid again
pub next_valid : (s : Reader) (c : List ℕ) → first_fault (judge_checks s c) ≡ Accepted → reader_ok (next_reader s c) ≡ true
unfolding next_reader judge_checks state_checks
next_valid s c e =
    let p = accepted_pass (judge_checks s c) e in
    let r = reader_ok_valid s p.0 in
    let es = cells (format_of s.format) c 12 0 (carried s) in
    let v = carry_valid s.format c (carried s) (eqb-true (length c) 256 p.1.0) r.carry (granules_pass (format_of s.format) c es p.1.1) in
    with_valid s.format (carry_after (format_of s.format) 0 es (carried s)) r.format v.0 v.1
