-- A container that was filled is read back: its grant, and the messages that were owed or used of the list. Assumes nothing.
use Prim.Native.Nat.{ℕ, zero, suc, ◌+◌, ◌-◌, ◌%◌, ◌≤◌, ◌<◌}
use mathlib.Core.Path.{◌≡◌, refl, sym, ap, ◌∙◌, subst}
use mathlib.Core.Bool.{Bool, true, false, ◌&&◌, ◌||◌, not}
use mathlib.Core.List.{List, [], ◌∷◌, ◌++◌, append_cancel_right}
use mathlib.Core.Logic.{⊎_elim}
use native.Mathlib.Omega.{arith}
use lib.ListN.{length, take, drop, replicate, length-append, take-append-drop}
use lib.Seq.{take_at}
use lib.Dec.{eqb, ltb}
use borrow.Author.Tests.{lt-ltb, le-leb, eq-eqb, ltb-true}
use Rattle.lists.specs.Parts.{IsBytes}
use Rattle.lists.proofs.Tests.{cases, and_left, and_right, or_true}
use Rattle.cause.specs.Checks.{Pass, first_fault, Accepted}
use Rattle.cause.proofs.CheckLaws.{pass_accepted, accepted_pass, pass_append, both_accepted}
use Rattle.container.specs.Layout.{Format, format_of, wide}
use Rattle.container.specs.Grants.{header_grant, plane_allowed, no_counts}
use Rattle.container.specs.declared.grant.Grant.{Grant}
use Rattle.container.proofs.Formats.{lawful_of}
use Rattle.message.specs.Heads.{msg_size, well_headed, is_misc, activation}
use Rattle.message.specs.Places.{placed}
use Rattle.message.proofs.HeadLaws.{headed_append}
use Rattle.record.specs.Records.{records_of, list_fault}
use Rattle.record.proofs.RecordLaws.{records_append, list_exactly}
use Rattle.placement.specs.Cells.{Cell, after, cells, carry_after, endings, carry_ok}
use Rattle.placement.specs.Checking.{starting, activations, sum_of, cell_checks, granule_checks, group_checks, activation_checks, quiet, container_checks}
use Rattle.reader.specs.Reading.{carried, reader_with, read_checks, state_checks, next_reader, records, reading}
use Rattle.reader.specs.declared.reader.Reader.{Reader}
use Rattle.reader.specs.declared.reader.Step.{Step}
use Rattle.reader.specs.declared.reader.Answer.TheVariants as read
use Rattle.reader.proofs.CarryLaws.{with_valid}
use Rattle.reader.proofs.AnswerLaws.{read_done}
use Rattle.writer.specs.Plan.{start_cell, group_ok, legal, beneath, Cursor, Given, give, cursor_after, plan, cursor_last, cursor_of}
use Rattle.writer.specs.Laying.{filled, owes_after, used_of}
use Rattle.writer.specs.Filling.{tail_of, writer_with, call_checks, fill_fault, filling, fill_bytes}
use Rattle.round_trip.specs.Calls.{Fills, Reads, under_way}
use Rattle.writer.specs.declared.writer.Writer.{Writer}
use Rattle.writer.proofs.OtherOrder.{OtherOrder, unchanged, other_order_on}
use Rattle.writer.proofs.Simulation.{Link, idle, busy, begun, message_most, size_m, start_head, legal_placed, Left, is_next, beneath_legal, give_next, give_not, give_none, give_on, give_beneath, give_over, give_last, step_followed}
use Rattle.writer.proofs.Run.{Written, Ran, plan_followed, cells_shown}
use Rattle.writer.proofs.PlanLaws.{plan_length}
use Rattle.writer.proofs.Groups.{packed_none, groups_pass}
use Rattle.writer.proofs.Container as made
use Rattle.writer.proofs.AnswerLaws.{fill_answer_accepted}

-- ---- the rules of the plan

-- the cells keep their rules
written_passes : (fm : Format) (es : List Cell) (g : ℕ) (m : List ℕ) → Written fm g m es → Pass (granule_checks fm g es)
unfolding granule_checks
written_passes fm [] g m a = tt
written_passes fm (e ∷ es) g m a =
    pass_append (cell_checks fm g e) (granule_checks fm (g + 1) es) a.0.fine (written_passes fm es (g + 1) (after fm g e m) a.1)

not_or : (x b : Bool) → (not x || b) ≡ true → b ≡ false → x ≡ false
not_or true b t e = sym t ∙ e
not_or false b t e = refl

-- no Activation starts beside a grant of counts
module _ (fm : Format) (n : Grant) (l : List ℕ) (counts : no_counts n ≡ false) where
  legal_quiet : (g : ℕ) (es : List Cell) (m : List ℕ) → legal fm n g es m ≡ true → is_misc m activation ≡ false
  legal_quiet g es m t =
      not_or (is_misc m activation) (no_counts n)
      (and_right (placed fm g m) (not (is_misc m activation) || no_counts n)
      (and_left (placed fm g m && (not (is_misc m activation) || no_counts n)) (group_ok (es ++ (start_cell (fm.size g) m ∷ []))) t))
      counts

  abbrev Quiet : Given → Type 0
  Quiet v = starting activations v.cell ≡ 0

  give_quiet : (g at : ℕ) (es : List Cell) (m t : List ℕ) (ms : List (List ℕ)) → Link m t → Left l at ms → Quiet (give fm n l g (record { owes = t; at = at; group = es }))
  give_quiet g at es m t [] idle left = subst Quiet (sym (give_none fm n l g at es left)) refl
  give_quiet g at es m t (x ∷ ms) idle left =
      ⊎_elim (λ y. subst Quiet (sym (give_next fm n l g at es x ms left y))
      (rw (start_head fm g x (is_next l at x ms left) (legal_placed fm n g es x y) activation, legal_quiet g es x y)))
      (λ y. subst Quiet (sym (give_not fm n l g at es x ms left y)) refl) (cases (legal fm n g es x))
  give_quiet g at es m t [] (busy h a b pm pt) left =
      ⊎_elim (λ w. subst Quiet (sym (give_on fm n l g at es t pt w)) refl) (λ w. subst Quiet (sym (give_last fm n l g at es t pt w left)) refl) (cases (wide fm g))
  give_quiet g at es m t (x ∷ ms) (busy h a b pm pt) left =
      ⊎_elim (λ w. subst Quiet (sym (give_on fm n l g at es t pt w)) refl)
      (λ w. ⊎_elim (λ y. subst Quiet (sym (give_beneath fm n l g at es t x ms pt w left y))
      (rw (start_head fm g x (is_next l at x ms left) (legal_placed fm n g es x (beneath_legal fm n g es x y)) activation, legal_quiet g es x (beneath_legal fm n g es x y))))
      (λ y. subst Quiet (sym (give_over fm n l g at es t x ms pt w left y)) refl) (cases (beneath fm n g es x))) (cases (wide fm g))

  plan_quiet : (k g : ℕ) (m : List ℕ) (ms : List (List ℕ)) (w : Cursor) → Link m w.owes → Left l w.at ms → sum_of activations (plan fm n l k g w) ≡ 0
  unfolding plan
  plan_quiet zero g m ms w link left = refl
  plan_quiet (suc k) g m ms w link left =
      let s = step_followed fm n l g w.at w.group m w.owes ms link left in
      rw (
        give_quiet g w.at w.group m w.owes ms link left,
        plan_quiet k (g + 1) (after fm g (give fm n l g w).cell m) s.rest (cursor_after g w (give fm n l g w)) s.follows.link s.left,
      )

-- ---- what is carried and owed

-- at most 100 bytes are carried, and at most 100 owed
pub link_most : (m t : List ℕ) → Link m t → (length m ≤ 100) × (length t ≤ 100)
link_most m t idle = (omega arith, omega arith)
link_most m t (busy h a b pm pt) =
    let k : length m + length t ≤ 120 = rw (length-append m t) at (message_most (m ++ t) h) in (omega arith, omega arith)

link_carry : (m t : List ℕ) → Link m t → carry_ok m ≡ true
link_carry m t idle = refl
link_carry m t (busy h a b pm pt) =
    let size : msg_size m ≡ length m + length t = size_m m t h a b pm pt in
    let part : ltb (length m) (msg_size m) ≡ true = rw size (lt-ltb (length m) (length m + length t) (omega arith)) in
    let head : well_headed m ≡ true = sym (headed_append m t (omega arith) (λ _. omega arith)) ∙ h.headed in
    rw (eq-eqb (length m % 20) 0 a, part, head) (or_true (eqb (length m) 0))

pub carried_of : (f : ℕ) (m : List ℕ) → carried (reader_with f m) ≡ m
carried_of f m = take_at m (replicate (100 - length m) 0) (length m) refl

pub tail_of_law : (f : ℕ) (t : List ℕ) → tail_of (writer_with f t) ≡ t
tail_of_law f t = take_at t (replicate (100 - length t) 0) (length t) refl

-- ---- one container
module _ (f : ℕ) (n : Grant) (low : n.rp < 8) (allowed : plane_allowed n ≡ true) (m t l : List ℕ) (ms : List (List ℕ)) (link : Link m t) (left : Left l 0 ms) where
  abbrev fm : Format
  fm = format_of f

  abbrev laid : List Cell
  laid = plan fm n l 12 0 (cursor_of t)

  abbrev box : List ℕ
  box = filled fm n t l

  pub ran : Ran fm l 0 m t 0 ms laid (cursor_last fm n l 12 0 (cursor_of t))
  ran = plan_followed fm n l 12 0 m ms (cursor_of t) link left

  twelve : length laid ≡ 12
  twelve = plan_length fm n l 12 0 (cursor_of t)

  sized : made.Sized fm 0 laid
  sized = made.written_sized fm laid 0 m ran.written

  pub box_length : length box ≡ 256
  unfolding filled
  box_length = made.box_length fm (lawful_of f) n laid twelve sized

  box_cells : cells fm box 12 0 m ≡ laid
  unfolding filled
  box_cells = rw twelve at (cells_shown fm box laid 0 m ran.written (made.box_shows fm (lawful_of f) n laid twelve sized))

  box_grant : header_grant fm box ≡ n
  unfolding filled
  box_grant = made.box_grant fm (lawful_of f) n laid twelve sized low

  box_passes : Pass (container_checks fm box laid)
  unfolding container_checks filled
  box_passes =
      let groups = groups_pass fm n l (lawful_of f).narrow_last 4 0 0 (cursor_of t) (omega arith) refl refl (packed_none t) in
      let behind = pass_append (group_checks 4 0 laid) (activation_checks fm box laid) groups (is_quiet, tt) in
      let granules = written_passes fm laid 0 m ran.written in
      let allowed-there = subst (λ (k : Grant). plane_allowed k ≡ true) (sym box_grant) allowed in
      let body = pass_append (granule_checks fm 0 laid) (group_checks 4 0 laid ++ activation_checks fm box laid) granules behind in
      (made.box_reserved fm (lawful_of f) n laid twelve sized low, (allowed-there, body))
    where
      is_quiet : quiet fm box laid ≡ true
      is_quiet =
          subst (λ (k : Grant). (eqb (sum_of activations laid) 0 || no_counts k) ≡ true) (sym box_grant)
          (⊎_elim (λ (e : no_counts n ≡ true). rw e (or_true (eqb (sum_of activations laid) 0)))
          (λ (e : no_counts n ≡ false). rw (plan_quiet fm n l e 12 0 m ms (cursor_of t) link left)) (cases (no_counts n)))

  -- ---- its reading
  module _ (small : f < 2) where
    abbrev before : Reader
    before = reader_with f m

    box_accepted : (room : ℕ) → 352 ≤ room → first_fault (read_checks before box room) ≡ Accepted
    unfolding read_checks state_checks
    box_accepted room large =
        pass_accepted (read_checks before box room) (
          with_valid f m (lt-ltb f 2 small) (link_carry m t link) (link_most m t link).0,
          (eq-eqb (length box) 256 box_length, (le-leb 352 room large, rw (carried_of f m, box_cells) box_passes)),
        )

    box_records : records before box ≡ records_of (endings fm 0 laid m)
    unfolding records
    box_records = rw (carried_of f m, box_cells)

    box_next : next_reader before box ≡ reader_with f (carry_after fm 0 laid m)
    unfolding next_reader
    box_next = rw (carried_of f m, box_cells)

    box_step : (room : ℕ) → 352 ≤ room
        → ◌≡◌ {A = Step} (record { reader = reader_with f (carry_after fm 0 laid m); answer = read.Accepted (length (records_of (endings fm 0 laid m))) n }) (reading before box room)
    box_step room large =
        read_done before box room (box_accepted room large) (reader_with f (carry_after fm 0 laid m)) (sym box_next)
        (length (records_of (endings fm 0 laid m))) (sym (ap length box_records)) n (sym box_grant)

    pub box_reads : Reads before box n (records_of (endings fm 0 laid m)) (reader_with f (carry_after fm 0 laid m))
    box_reads = record {
      answer = λ room large. sym (ap (λ (x : Step). x.answer) (box_step room large));
      next = λ room large. sym (ap (λ (x : Step). x.reader) (box_step room large));
      handed = box_records;
    }

-- ---- the records that come out

under_way_law : (f : ℕ) (m t : List ℕ) → under_way (reader_with f m) (writer_with f t) ≡ begun m t
under_way_law f m t = rw (tail_of_law f t, carried_of f m)

-- the records used are those of the messages taken
records_taken : (taken rest ms : List (List ℕ)) (l : List ℕ) (u : ℕ) → ms ≡ taken ++ rest → drop u l ≡ records_of rest → l ≡ records_of ms → take u l ≡ records_of taken
records_taken taken rest ms l u e er em =
    append_cancel_right (take u l) (records_of taken) (drop u l)
    (take-append-drop u l ∙ em ∙ ap records_of e ∙ records_append taken rest ∙ ap (λ (x : List ℕ). records_of taken ++ x) (sym er))

-- ---- a fill that is accepted

-- what an accepted fill says of a writer that owes t
pub record Filled (f : ℕ) (t l : List ℕ) (n : Grant) (c : List ℕ) (u : ℕ) (w' : Writer) : Type 0 where
  pub container : filled (format_of f) n t l ≡ c
  pub used : used_of (format_of f) n t l ≡ u
  pub next : writer_with f (owes_after (format_of f) n t l) ≡ w'
  pub low : n.rp < 8
  pub allowed : plane_allowed n ≡ true
  pub sound : list_fault l ≡ Accepted

-- what a fault that is none says of the grant and of the list
record Checked (l : List ℕ) (n : Grant) : Type 0 where
  low : n.rp < 8
  allowed : plane_allowed n ≡ true
  sound : list_fault l ≡ Accepted

checked : (w : Writer) (l : List ℕ) (n : Grant) → fill_fault w l n 256 ≡ Accepted → Checked l n
unfolding fill_fault call_checks
checked w l n e =
    let b = both_accepted (first_fault (call_checks w (length l) n 256)) (list_fault l) e in
    let g : (ltb n.rp 8 && plane_allowed n) ≡ true = (accepted_pass (call_checks w (length l) n 256) b.0).1.1.1.0 in
    record {
      low = ltb-true n.rp 8 (and_left (ltb n.rp 8) (plane_allowed n) g);
      allowed = and_right (ltb n.rp 8) (plane_allowed n) g;
      sound = b.1;
    }

pub is_filled : (f : ℕ) (t l : List ℕ) (n : Grant) (c : List ℕ) (u : ℕ) (w' : Writer) → Fills (writer_with f t) l n c u w' → Filled f t l n c u w'
unfolding filling fill_bytes
is_filled f t l n c u w' h =
    let w = writer_with f t in
    let a = fill_answer_accepted (fill_fault w l n 256) (used_of (format_of f) n (tail_of w) l) u h.answer in
    let k = checked w l n a.0 in
    record {
      container = rw (a.0, tail_of_law f t) at (h.bytes (replicate 256 0) refl);
      used = rw (tail_of_law f t) at a.1;
      next = rw (a.0, tail_of_law f t) at h.next;
      low = k.low;
      allowed = k.allowed;
      sound = k.sound;
    }

-- ---- a fill read back

-- a reader and a writer of one format: what the one carries and what the other owes are of one message
pub record Linked (f : ℕ) (s : Reader) (w : Writer) : Type 0 where
  pub format : f < 2
  pub carry : List ℕ
  pub tail : List ℕ
  pub reader : s ≡ reader_with f carry
  pub writer : w ≡ writer_with f tail
  pub link : Link carry tail

-- the reading of a container that a writer w filled, by a reader s: what comes out and what is under way then is what was under way
-- and what was taken of the list, in another order
pub record Read (f : ℕ) (s : Reader) (w : Writer) (l c : List ℕ) (n : Grant) (u : ℕ) (w' : Writer) : Type 0 where
  pub next : Reader
  pub out : List (List ℕ)
  pub taken : List (List ℕ)
  pub reads : Reads s c n (records_of out) next
  pub linked : Linked f next w'
  pub used : take u l ≡ records_of taken
  pub same : OtherOrder (format_of f) (out ++ under_way next w') (under_way s w ++ taken)

-- a list that is accepted is one of records
pub list_left : (l : List ℕ) → IsBytes l → list_fault l ≡ Accepted → (ms : List (List ℕ)) × Left l 0 ms
list_left l h e = let k = (list_exactly l h).0 e in (k.messages, record { within = omega arith; records = k.joined; all = k.all })

module _ (f : ℕ) (small : f < 2) (m t l c : List ℕ) (n : Grant) (u : ℕ) (w' : Writer) (link : Link m t) (h : Filled f t l n c u w')
    (ms : List (List ℕ)) (left : Left l 0 ms) where
  read_with : Read f (reader_with f m) (writer_with f t) l c n u w'
  unfolding owes_after used_of
  read_with =
      let r = ran f n h.low h.allowed m t l ms link left in
      let m' = carry_after (format_of f) 0 (plan (format_of f) n l 12 0 (cursor_of t)) m in
      let t' = (cursor_last (format_of f) n l 12 0 (cursor_of t)).owes in
      let es = endings (format_of f) 0 (plan (format_of f) n l 12 0 (cursor_of t)) m in
      record {
        next = reader_with f m';
        out = es;
        taken = r.taken;
        reads = subst (λ (x : List ℕ). Reads (reader_with f m) x n (records_of es) (reader_with f m')) h.container (box_reads f n h.low h.allowed m t l ms link left small);
        linked = record { format = small; carry = m'; tail = t'; reader = refl; writer = sym h.next; link = r.link };
        used = records_taken r.taken r.rest ms l u r.split (subst (λ (k : ℕ). drop k l ≡ records_of r.rest) h.used r.left.records) left.records;
        same =
            other_order_on (unchanged (ap (λ (x : Writer). es ++ under_way (reader_with f m') x) (sym h.next) ∙ ap (λ (x : List (List ℕ)). es ++ x) (under_way_law f m' t')))
            (other_order_on r.out (unchanged (ap (λ (x : List (List ℕ)). x ++ r.taken) (sym (under_way_law f m t)))));
      }

pub fill_read : (f : ℕ) (s : Reader) (w : Writer) (l c : List ℕ) (n : Grant) (u : ℕ) (w' : Writer)
    → IsBytes l → Linked f s w → Fills w l n c u w' → Read f s w l c n u w'
fill_read f s w l c n u w' hb k h =
    let a = is_filled f k.tail l n c u w' (rw k.writer at h) in
    let ms = list_left l hb a.sound in
    rw (k.reader, k.writer) (read_with f k.format k.carry k.tail l c n u w' k.link a ms.0 ms.1)
