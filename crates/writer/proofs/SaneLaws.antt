-- The numbers that the code keeps of a writer stay within bounds from granule to granule. Assumes nothing.
use Prim.Native.Nat.{ℕ, zero, suc, ◌+◌, ◌-◌, ◌%◌, ◌^◌, ◌≤◌, ◌<◌}
use mathlib.Core.Path.{◌≡◌, refl}
use mathlib.Core.Bool.{Bool, true, false, ◌&&◌, ◌||◌, not}
use mathlib.Core.List.{List, [], ◌∷◌}
use mathlib.Core.Logic.{⊎_elim}
use native.Mathlib.Omega.{arith}
use native.Mathlib.Nat.{pow-suc}
use lib.ListN.{length, drop, length-drop}
use lib.Dec.{eqb, leb}
use borrow.Author.Tests.{leb-true, eqb-true, eqb-false}
use Rattle.lists.specs.Pick.{pick}
use Rattle.lists.specs.Parts.{part}
use Rattle.lists.proofs.Tests.{cases, and_left, and_right}
use Rattle.lists.proofs.PartLaws.{length_part}
use Rattle.lists.proofs.PickLaws.{pick_by}
use Rattle.container.specs.Layout.{Format, format_of, wide}
use Rattle.container.specs.Grants.{no_counts}
use Rattle.container.specs.declared.grant.Grant.{Grant}
use Rattle.container.proofs.Formats.{lawful_of}
use Rattle.message.specs.Heads.{type_of, op_of, msg_size, is_message, misc_by, activation}
use Rattle.message.specs.Places.{placed, placed_by, responses_by, miscs_by}
use Rattle.message.proofs.HeadLaws.{is_message_law, message_size}
use Rattle.message.proofs.PlaceLaws.{placed_fits}
use Rattle.record.specs.Number.{read_number}
use Rattle.record.specs.Records.{cut, first_of, message_of}
use Rattle.record.specs.declared.number.Number.{Number}
use Rattle.record.specs.declared.list.First.{First}
use Rattle.record.specs.declared.list.First.TheVariants.{Empty, Bad, Whole}
use Rattle.record.proofs.RecordLaws.{first_within}
use Rattle.writer.specs.HoldingMirror.{group_next, legal_by, may_by, Sane, cursor_empty, cursor_on, cursor_used, cursor_start, cursor_taken, cursor_first, cursor_next, cursor_starting, cursor_at}
use Rattle.writer.specs.declared.group.Group.{Group}
use Rattle.writer.specs.declared.cursor.Cursor.{Cursor}
use Rattle.std.specs.Prelude.{Option, Some, None}

-- ---- a first record is a whole message

cut_message : (l : List ℕ) (r : Option Number) (start end : ℕ) → cut l r ≡ Whole start end → is_message (message_of l start end) ≡ true
cut_message l None start end q = let z : ◌≡◌ {A = ℕ} 0 1 = cc in absurd (omega arith)
cut_message l (Some number) start end q = ⊎_elim yes no (cases (leb (number.used + number.value) (length l) && is_message (part number.used number.value l)))
  where
    no : (leb (number.used + number.value) (length l) && is_message (part number.used number.value l)) ≡ false → is_message (message_of l start end) ≡ true
    no t = let f : Bad ≡ Whole start end = rw t at q in let z : ◌≡◌ {A = ℕ} 0 1 = cc in absurd (omega arith)

    yes : (leb (number.used + number.value) (length l) && is_message (part number.used number.value l)) ≡ true → is_message (message_of l start end) ≡ true
    yes t =
        let f : Whole number.used (number.used + number.value) ≡ Whole start end = rw t at q in
        let es : number.used ≡ start = cc in
        let ee : number.used + number.value ≡ end = cc in
        let d : end - start ≡ number.value = omega arith in
        let m : message_of l start end ≡ part number.used number.value l = rw (d, ← es) in
        rw m (and_right (leb (number.used + number.value) (length l)) (is_message (part number.used number.value l)) t)

pub first_message : (l : List ℕ) (start end : ℕ) → first_of l ≡ Whole start end → is_message (message_of l start end) ≡ true
first_message [] start end q = let z : ◌≡◌ {A = ℕ} 0 1 = cc in absurd (omega arith)
first_message (b ∷ l) start end q = cut_message (b ∷ l) (read_number (b ∷ l)) start end q

-- where a first record behind an offset stands, and how long it is
pub record Record (l : List ℕ) (at start end : ℕ) : Type 0 where
  pub message : is_message (message_of (drop at l) start end) ≡ true
  pub long : length (message_of (drop at l) start end) ≡ end - start
  pub ten : start + 10 ≤ end
  pub inside : at + end ≤ length l

pub first_record : (l : List ℕ) (at start end : ℕ) → at ≤ length l → first_of (drop at l) ≡ Whole start end → Record l at start end
first_record l at start end h e =
    let w = first_within (drop at l) start end e in
    let n = length-drop at l in
    let m : is_message (message_of (drop at l) start end) ≡ true = first_message (drop at l) start end e in
    let k : length (message_of (drop at l) start end) ≡ end - start = length_part start (end - start) (drop at l) (omega arith) in
    let s = (message_size (message_of (drop at l) start end) (is_message_law (message_of (drop at l) start end) m)).least in
    record { message = m; long = k; ten = omega arith; inside = omega arith }

-- what a whole message leaves behind the granule that it starts in: whole granules, at most five
pub start_leaves : (f g : ℕ) (m : List ℕ) → g < 12 → is_message m ≡ true → placed (format_of f) g m ≡ true
    → ((length m - (format_of f).size g) % 20 ≡ 0) × (length m - (format_of f).size g ≤ 100)
start_leaves f g m b e p = ⊎_elim broad narrow (cases (wide (format_of f) g))
  where
    narrow : wide (format_of f) g ≡ false → ((length m - (format_of f).size g) % 20 ≡ 0) × (length m - (format_of f).size g ≤ 100)
    narrow w =
        let k : msg_size m ≤ (format_of f).size g = leb-true (msg_size m) ((format_of f).size g) (placed_fits (format_of f) g m w p) in
        let s = (is_message_law m e).sized in
        let z : length m - (format_of f).size g ≡ 0 = omega arith in
        rw z (refl, omega arith)

    broad : wide (format_of f) g ≡ true → ((length m - (format_of f).size g) % 20 ≡ 0) × (length m - (format_of f).size g ≤ 100)
    broad w =
        let k : (format_of f).size g ≡ 20 = eqb-true ((format_of f).size g) 20 w in
        rw k (⊎_elim (λ (s : length m ≤ 20). let z : length m - 20 ≡ 0 = omega arith in rw z (refl, omega arith)) (λ (s : (length m % 20 ≡ 0) × (length m ≤ 120)). (omega arith, omega arith)) (message_size m (is_message_law m e)).kind)

-- ---- bounds, granule by granule

-- a group behind a cell has few MiscU and responses
group_few : (g : ℕ) (e : Group) (b : Bool) (m r : ℕ) → e.miscs + m ≤ 2 → e.responses + r ≤ 4 → ((group_next g e b m r).miscs ≤ 2) × ((group_next g e b m r).responses ≤ 4)
group_few g e b m r p q =
    pick_by (λ (d : Group). (d.miscs ≤ 2) × (d.responses ≤ 4)) (eqb (g % 3) 2) (λ _. (omega arith, omega arith)) (λ _. (p, q))

-- a message may start at granule g: its place is allowed, and the counts of its group stay small
pub record Starts (fm : Format) (g : ℕ) (e : Group) (t o : ℕ) : Type 0 where
  pub placed : placed_by fm g t o ≡ true
  pub few : (e.miscs + miscs_by t ≤ 1) × (e.responses + responses_by t ≤ 4)

pub legal_starts : (fm : Format) (n : Grant) (g : ℕ) (e : Group) (t o : ℕ) → legal_by fm n g e t o ≡ true → Starts fm g e t o
legal_starts fm n g e t o h =
    let a = placed_by fm g t o && (not (misc_by t o activation) || no_counts n) in
    let b = leb (e.miscs + miscs_by t) 1 && leb (e.responses + responses_by t) 4 in
    let counts : b ≡ true = and_right e.full b (and_right a (e.full && b) h) in
    record {
      placed = and_left (placed_by fm g t o) (not (misc_by t o activation) || no_counts n) (and_left a (e.full && b) h);
      few = (
        leb-true (e.miscs + miscs_by t) 1 (and_left (leb (e.miscs + miscs_by t) 1) (leb (e.responses + responses_by t) 4) counts),
        leb-true (e.responses + responses_by t) 4 (and_right (leb (e.miscs + miscs_by t) 1) (leb (e.responses + responses_by t) 4) counts),
      );
    }

module _ (f : ℕ) (n : Grant) (t l : List ℕ) (short : length t ≤ 100) (fits : length l ≤ 4096) (g : ℕ) (b : g < 12) (p : Cursor) (h : Sane t l g p) where
  -- what is owed stays owed
  sane_kept : (at starts : ℕ) (e : Group) → at ≤ length l → starts < 2 ^ suc g → (e.miscs ≤ 2) × (e.responses ≤ 4)
      → Sane t l (suc g) (record { tail = p.tail; from = p.from; left = p.left; at = at; msgstart = starts; group = e })
  sane_kept at starts e used low few = record {
    within = h.within;
    granules = h.granules;
    most = h.most;
    start_low = h.start_low;
    used = used;
    starts_low = low;
    few = few;
  }

  sane_empty : Sane t l (suc g) (cursor_empty g p)
  sane_empty =
      let few = h.few in
      let low = h.starts_low in
      sane_kept p.at p.msgstart (group_next g p.group false 0 0) h.used (rw (pow-suc 2 g) (omega arith)) (group_few g p.group false 0 0 (omega arith) (omega arith))

  source_length : length (pick p.tail t l) ≤ 4096
  source_length = pick_by (λ (s : List ℕ). length s ≤ 4096) p.tail (λ _. omega arith) (λ _. fits)

  sane_on : (p.left ≡ 0 → ⊥) → Sane t l (suc g) (cursor_on g p)
  sane_on some =
      let few = h.few in
      let low = h.starts_low in
      let in-granules = h.granules in
      let most = h.most in
      let full : 20 ≤ p.left = omega arith in
      let inside : p.from + p.left ≤ length (pick p.tail t l) = h.within (omega arith) in
      let long = source_length in
      record {
        within = λ _. omega arith;
        granules = omega arith;
        most = omega arith;
        start_low = omega arith;
        used = h.used;
        starts_low = rw (pow-suc 2 g) (omega arith);
        few = group_few g p.group true 0 0 (omega arith) (omega arith);
      }

  module _ (s e : ℕ) (r : Record l p.at s e) where
    abbrev found : List ℕ
    found = message_of (drop p.at l) s e

    sane_start_message : legal_by (format_of f) n g p.group (type_of found) (op_of found) ≡ true
        → Sane t l (suc g) (cursor_start ((format_of f).size g) g p s e (type_of found))
    sane_start_message ok =
        let legal = legal_starts (format_of f) n g p.group (type_of found) (op_of found) ok in
        let few = legal.few in
        let low = h.starts_low in
        let leaves = start_leaves f g found b r.message legal.placed in
        let long = r.long in
        let ten = r.ten in
        let inside = r.inside in
        let size = (lawful_of f).most g b in
        let left : length found - (format_of f).size g ≡ (e - s) - (format_of f).size g = omega arith in
        record {
          within = λ (some : 0 < (e - s) - (format_of f).size g). omega arith;
          granules = rw left at leaves.0;
          most = rw left at leaves.1;
          start_low = omega arith;
          used = inside;
          starts_low = rw (pow-suc 2 g) (omega arith);
          few = group_few g p.group true (miscs_by (type_of found)) (responses_by (type_of found)) (omega arith) (omega arith);
        }

    sane_used : legal_by (format_of f) n g p.group (type_of found) (op_of found) ≡ true → Sane t l (suc g) (cursor_used g p e (type_of found))
    sane_used ok =
        let few = (legal_starts (format_of f) n g p.group (type_of found) (op_of found) ok).few in
        let low = h.starts_low in
        sane_kept (p.at + e) (p.msgstart + 2 ^ g) (group_next g p.group true (miscs_by (type_of found)) (responses_by (type_of found))) r.inside
        (rw (pow-suc 2 g) (omega arith)) (group_few g p.group true (miscs_by (type_of found)) (responses_by (type_of found)) (omega arith) (omega arith))

    sane_taken : may_by (format_of f) n g p (type_of found) (op_of found) ≡ true → Sane t l (suc g) (cursor_taken ((format_of f).size g) g p s e (type_of found))
    sane_taken ok =
        pick_by (Sane t l (suc g)) (eqb p.left 0)
        (λ none. sane_start_message (rw none at ok))
        (λ some. sane_used (and_right (not (misc_by (type_of found) (op_of found) activation)) (legal_by (format_of f) n g p.group (type_of found) (op_of found)) (rw some at ok)))

  sane_first : (r : First) → first_of (drop p.at l) ≡ r → Sane t l (suc g) (cursor_first (format_of f) n l g p r)
  sane_first Empty q = sane_empty
  sane_first Bad q = sane_empty
  sane_first (Whole s e) q =
      pick_by (Sane t l (suc g)) (may_by (format_of f) n g p (type_of (message_of (drop p.at l) s e)) (op_of (message_of (drop p.at l) s e)))
      (λ ok. sane_taken s e (first_record l p.at s e h.used q) ok)
      (λ _. sane_empty)

  -- the cursor behind granule g
  pub sane_next : Sane t l (suc g) (cursor_next (format_of f) n t l g p)
  unfolding cursor_next
  sane_next =
      pick_by (Sane t l (suc g)) (eqb p.left 0) (λ _. sane_first (first_of (drop p.at l)) refl)
      (λ some. pick_by (Sane t l (suc g)) (wide (format_of f) g) (λ _. sane_on (eqb-false p.left 0 some)) (λ _. sane_first (first_of (drop p.at l)) refl))

-- the cursor at the start of a container
pub sane_start : (t l : List ℕ) → length t ≤ 100 → length t % 20 ≡ 0 → Sane t l 0 (cursor_starting t)
sane_start t l short whole =
    record {
      within = λ _. omega arith;
      granules = whole;
      most = short;
      start_low = omega arith;
      used = omega arith;
      starts_low = omega arith;
      few = (omega arith, omega arith);
    }

-- the cursor when a granule is reached
pub sane_at : (f : ℕ) (n : Grant) (t l : List ℕ) → length t ≤ 100 → length t % 20 ≡ 0 → length l ≤ 4096 → (g : ℕ) → g ≤ 12 → Sane t l g (cursor_at (format_of f) n t l g)
unfolding cursor_at
sane_at f n t l short whole fits zero b = sane_start t l short whole
sane_at f n t l short whole fits (suc g) b =
    sane_next f n t l short fits g b (cursor_at (format_of f) n t l g) (sane_at f n t l short whole fits g (omega arith))
