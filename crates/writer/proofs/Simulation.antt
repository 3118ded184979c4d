-- One granule: the reader follows the writer. Assumes nothing.
use Prim.Native.Nat.{ℕ, ◌+◌, ◌-◌, ◌%◌, ◌≤◌, ◌<◌}
use mathlib.Core.Path.{◌≡◌, refl, sym, ap, ◌∙◌, subst}
use mathlib.Core.Bool.{true, false, ◌&&◌, ◌||◌, not}
use mathlib.Core.List.{List, [], ◌∷◌, ◌++◌, append_assoc, append-nil}
use mathlib.Core.Logic.{◌⊎◌, inl, inr, ⊎_elim}
use native.Mathlib.Omega.{arith}
use lib.ListN.{length, take, drop, replicate, length-append, length-drop, length-replicate, take-append-drop, drop_of_length-le}
use lib.Seq.{take_all, length-take-le, take_at, drop_at, drop-drop}
use lib.Dec.{eqb, leb, ltb}
use borrow.Author.Tests.{lt-ltb, le-leb, lt-leb, ne_eqb, leb-true, leb-false, eqb-true}
use Rattle.lists.specs.Pick.{pick}
use Rattle.lists.proofs.Tests.{cases, never_both, and_left, and_right}
use Rattle.lists.proofs.PartLaws.{length_pad}
use Rattle.lists.proofs.ZeroLaws.{zeros_replicate}
use Rattle.lists.proofs.ReorderLaws.{swapped}
use Rattle.cause.specs.Checks.{Pass}
use Rattle.container.specs.Layout.{Format, wide}
use Rattle.container.specs.Grants.{no_counts}
use Rattle.container.specs.declared.grant.Grant.{Grant}
use Rattle.message.specs.Heads.{msg_size, well_headed, is_misc, activation, crdt_grant}
use Rattle.message.specs.Places.{placed}
use Rattle.message.proofs.HeadLaws.{Message, is_message_law, message_size, size_append, misc_append, headed_append, grant_size}
use Rattle.message.proofs.PlaceLaws.{placed_append, placed_fits}
use Rattle.record.specs.Number.{number}
use Rattle.record.specs.Records.{record_of, records_of, AllMessages, first_of, message_of}
use Rattle.record.specs.declared.list.First.TheVariants.{Empty, Whole}
use Rattle.record.proofs.RecordLaws.{first_written, message_some}
use Rattle.placement.specs.Cells.{Cell, owed, whole, after, ended}
use Rattle.placement.specs.Checking.{starts_alone, start_known, start_placed, start_headed, rest_zero, cell_checks}
use Rattle.writer.specs.Plan.{empty_cell, start_cell, on_cell, group_ok, legal, never_early, beneath, Cursor, Given, nothing, give}
use Rattle.writer.proofs.OtherOrder.{OtherOrder, unchanged}

-- what the reader has of a message and what the writer owes of it: neither, or whole granules of one message, some of each
pub data Link : List ℕ → List ℕ → Type 0 where
  idle : Link [] []
  busy : {m t : List ℕ} → Message (m ++ t) → length m % 20 ≡ 0 → length t % 20 ≡ 0 → 0 < length m → 0 < length t → Link m t

-- the message that is begun and not yet finished: none or one
abbrev pub begun : List ℕ → List ℕ → List (List ℕ)
begun m t = pick (eqb (length t) 0) [] ((m ++ t) ∷ [])

-- the reader at a cell e, with m read and t owed before it, o owed behind it, and the messages us taken there: it goes on exactly
-- where the cell says so, the cell keeps its rules, and what ends and is begun then was begun or taken
pub record Follows (fm : Format) (g : ℕ) (m t : List ℕ) (us : List (List ℕ)) (e : Cell) (o : List ℕ) : Type 0 where
  pub on : (ltb 0 (owed m) && wide fm g) ≡ e.goes_on
  pub long : length e.bytes ≡ fm.size g
  pub fine : Pass (cell_checks fm g e)
  pub link : Link (after fm g e m) o
  pub out : OtherOrder fm (ended e m ++ begun (after fm g e m) o) (begun m t ++ us)

-- a cell that keeps its five rules
cell_passes : (fm : Format) (g : ℕ) (e : Cell) → starts_alone e ≡ true → start_known e ≡ true → start_placed fm g e ≡ true → start_headed e ≡ true
    → rest_zero e ≡ true → Pass (cell_checks fm g e)
cell_passes fm g e alone known placed headed zero = (alone, (known, (placed, (headed, (zero, tt)))))

idle_nothing : (fm : Format) (g : ℕ) → Follows fm g [] [] [] (empty_cell (fm.size g)) []
idle_nothing fm g = record {
  on = refl;
  long = length-replicate (fm.size g) 0;
  fine = cell_passes fm g (empty_cell (fm.size g)) refl refl refl refl (zeros_replicate (fm.size g));
  link = idle;
  out = unchanged refl;
}

-- no message is longer than 120 bytes
pub message_most : (m : List ℕ) → Message m → length m ≤ 120
message_most m h = ⊎_elim (λ (s : length m ≤ 20). omega arith) (λ s. s.1) (message_size m h).kind

grant_long : (m : List ℕ) → Message m → is_misc m crdt_grant ≡ true → 16 ≤ length m
grant_long m h e = let k : msg_size m ≡ 16 = grant_size m e in let j = h.sized in omega arith

-- a message that ends in the granule that it starts in
module _ (fm : Format) (g : ℕ) (m : List ℕ) (h : Message m) (fits : length m ≤ fm.size g) (p : placed fm g m ≡ true) where
  abbrev behind : List ℕ
  behind = replicate (fm.size g - length m) 0

  abbrev short_cell : Cell
  short_cell = record { goes_on = false; starts = true; bytes = m ++ behind }

  two : 2 < length m
  two = let k = (message_size m h).least in omega arith

  one : 1 < length m
  one = let k = two in omega arith

  short_size : msg_size (m ++ behind) ≡ length m
  short_size = size_append m behind one ∙ h.sized

  short_whole : whole (m ++ behind) ≡ true
  short_whole = rw short_size (le-leb (length m) (length (m ++ behind)) (rw (length-append m behind) (omega arith)))

  short_after : after fm g short_cell [] ≡ []
  short_after = ⊎_elim (λ (e : wide fm g ≡ true). rw (e, short_whole)) (λ (e : wide fm g ≡ false). rw e) (cases (wide fm g))

  pub short_ended : ended short_cell [] ≡ m ∷ []
  short_ended = rw (short_whole, short_size, take_at m behind (length m) refl)

  starts_short : Follows fm g [] [] (m ∷ []) short_cell []
  starts_short = record {
    on = refl;
    long = length_pad (fm.size g) m fits;
    fine =
        cell_passes fm g short_cell refl (ap (ltb 0) (size_append m behind one) ∙ h.is_known) (placed_append m behind fm g one ∙ p)
        (headed_append m behind two (grant_long m h) ∙ h.headed)
        (rw (short_size, drop_at m behind (length m) refl) (zeros_replicate (fm.size g - length m)));
    link = rw short_after idle;
    out = unchanged (rw short_ended);
  }

-- a message that goes on beyond the granule that it starts in
module _ (fm : Format) (g : ℕ) (m : List ℕ) (h : Message m) (w : wide fm g ≡ true) (more : 20 < length m) (p : placed fm g m ≡ true) where
  abbrev front : List ℕ
  front = take 20 m

  abbrev long_cell : Cell
  long_cell = record { goes_on = false; starts = true; bytes = front }

  length_front : length front ≡ 20
  length_front = length-take-le 20 m (omega arith)

  front_two : 2 < length front
  front_two = rw length_front (omega arith)

  front_one : 1 < length front
  front_one = rw length_front (omega arith)

  both : front ++ drop 20 m ≡ m
  both = take-append-drop 20 m

  -- the head of the front is the head of the message
  front_size : msg_size front ≡ length m
  front_size = sym (size_append front (drop 20 m) front_one) ∙ ap msg_size both ∙ h.sized

  front_part : whole front ≡ false
  front_part = rw (front_size, length_front) (lt-leb (length m) 20 more)

  long_after : after fm g long_cell [] ≡ front
  long_after = rw (w, front_part)

  whole_granules : length m % 20 ≡ 0
  whole_granules = ⊎_elim (λ (s : length m ≤ 20). absurd (omega arith)) (λ s. s.0) (message_size m h).kind

  length_back : length (drop 20 m) ≡ length m - 20
  length_back = length-drop 20 m

  starts_long : Follows fm g [] [] (m ∷ []) long_cell (drop 20 m)
  starts_long = record {
    on = refl;
    long = length_front ∙ sym (eqb-true (fm.size g) 20 w);
    fine =
        cell_passes fm g long_cell refl (ap (ltb 0) (front_size ∙ sym h.sized) ∙ h.is_known)
        (sym (placed_append front (drop 20 m) fm g front_one) ∙ ap (placed fm g) both ∙ p)
        (sym (headed_append front (drop 20 m) front_two (λ _. rw length_front (omega arith))) ∙ ap well_headed both ∙ h.headed)
        (rw (front_size, drop_of_length-le front {i = length m} (rw length_front (omega arith))));
    link =
        rw long_after
        (busy {m = front} {t = drop 20 m} (rw both h) (rw length_front) (rw length_back (omega (arith, whole_granules))) (rw length_front (omega arith)) (rw length_back (omega arith)));
    out = unchanged (rw (long_after, front_part, ne_eqb (length (drop 20 m)) 0 (λ (e : length (drop 20 m) ≡ 0). omega (arith, length_back)), both));
  }

-- the writer owes bytes
module _ (m t : List ℕ) (h : Message (m ++ t)) (a : length m % 20 ≡ 0) (b : length t % 20 ≡ 0) (pm : 0 < length m) (pt : 0 < length t) where
  pub size_m : msg_size m ≡ length m + length t
  size_m = sym (size_append m t (omega arith)) ∙ h.sized ∙ length-append m t

  owed_m : owed m ≡ length t
  owed_m = rw size_m (omega arith)

  is_owed : ltb 0 (owed m) ≡ true
  is_owed = rw owed_m (lt-ltb 0 (length t) pt)

  some : eqb (length t) 0 ≡ false
  some = ne_eqb (length t) 0 (λ e. omega arith)

  module _ (fm : Format) (g : ℕ) where
    passes_over : wide fm g ≡ false → Follows fm g m t [] (empty_cell (fm.size g)) t
    passes_over w = record {
      on = rw (is_owed, w);
      long = length-replicate (fm.size g) 0;
      fine = cell_passes fm g (empty_cell (fm.size g)) refl refl refl refl (zeros_replicate (fm.size g));
      link = busy h a b pm pt;
      out = unchanged (sym (append-nil (begun m t)));
    }

    -- a message that starts beneath ends there, before the one that is owed
    module _ (w : wide fm g ≡ false) (x : List ℕ) (hx : Message x) (p : placed fm g x ≡ true) where
      fits_there : length x ≤ fm.size g
      fits_there = leb-true (length x) (fm.size g) (rw hx.sized at (placed_fits fm g x w p))

      pub beneath_ended : ended (start_cell (fm.size g) x) m ≡ x ∷ []
      beneath_ended = rw (take_all (fm.size g) x fits_there) (short_ended fm g x hx fits_there p)

      starts_beneath : Follows fm g m t (x ∷ []) (start_cell (fm.size g) x) t
      starts_beneath =
          let s = starts_short fm g x hx fits_there p in
          rw (take_all (fm.size g) x fits_there)
          (record {
            on = rw (is_owed, w);
            long = s.long;
            fine = s.fine;
            link = rw w (busy h a b pm pt);
            out = rw (short_ended fm g x hx fits_there p, w, some) (record { over = λ classes apart. swapped classes x (m ++ t) (apart g x (m ++ t) w p h (rw (length-append m t) (omega arith))) });
          })

    module _ (w : wide fm g ≡ true) where
      abbrev piece : Cell
      piece = record { goes_on = true; starts = false; bytes = take 20 t }

      piece_length : length (take 20 t) ≡ 20
      piece_length = length-take-le 20 t (omega arith)

      piece_fine : Pass (cell_checks fm g piece)
      piece_fine = cell_passes fm g piece refl refl refl refl (rw (drop_of_length-le (take 20 t) {i = 20} (rw piece_length (omega arith))))

      size_piece : msg_size (m ++ take 20 t) ≡ length m + length t
      size_piece = size_append m (take 20 t) (omega arith) ∙ size_m

      length_piece : length (m ++ take 20 t) ≡ length m + 20
      length_piece = length-append m (take 20 t) ∙ ap (λ (n : ℕ). length m + n) piece_length

      piece_whole : length t ≡ 20 → whole (m ++ take 20 t) ≡ true
      piece_whole e = rw (size_piece, length_piece, e) (le-leb (length m + 20) (length m + 20) (omega arith))

      pub piece_ended : length t ≡ 20 → ended piece m ≡ (m ++ t) ∷ []
      piece_ended e = rw (piece_whole e, size_piece, take_all 20 t (omega arith), take_all (length m + length t) (m ++ t) (rw (length-append m t) (omega arith)))

      ends : length t ≡ 20 → Follows fm g m t [] piece []
      ends e = record {
        on = rw (is_owed, w);
        long = piece_length ∙ sym (eqb-true (fm.size g) 20 w);
        fine = piece_fine;
        link = rw (piece_whole e) idle;
        out = unchanged (rw (piece_ended e, some));
      }

      goes_on : 20 < length t → Follows fm g m t [] piece (drop 20 t)
      goes_on more =
          let nw : whole (m ++ take 20 t) ≡ false = rw (size_piece, length_piece) (lt-leb (length m + length t) (length m + 20) (omega arith)) in
          let af : after fm g piece m ≡ m ++ take 20 t = rw nw in
          let d : length (drop 20 t) ≡ length t - 20 = length-drop 20 t in
          let joined : (m ++ take 20 t) ++ drop 20 t ≡ m ++ t = append_assoc m (take 20 t) (drop 20 t) ∙ ap (λ (x : List ℕ). m ++ x) (take-append-drop 20 t) in
          record {
            on = rw (is_owed, w);
            long = piece_length ∙ sym (eqb-true (fm.size g) 20 w);
            fine = piece_fine;
            link = rw af (busy {m = m ++ take 20 t} {t = drop 20 t} (rw joined h) (rw length_piece (omega arith)) (rw d (omega arith)) (rw length_piece (omega arith)) (rw d (omega arith)));
            out = unchanged (rw (nw, some, ne_eqb (length (drop 20 t)) 0 (λ (z : length (drop 20 t) ≡ 0). omega arith), joined));
          }

-- ---- a message that starts

-- the bytes of a cell in which a message starts, where the message fits in it and where not
module _ (fm : Format) (g : ℕ) (m : List ℕ) (h : Message m) (p : placed fm g m ≡ true) (P : List ℕ → List ℕ → Type 0) where
  start_by : (length m ≤ fm.size g → P (m ++ replicate (fm.size g - length m) 0) []) → (wide fm g ≡ true → 20 < length m → P (take 20 m) (drop 20 m))
      → P (start_cell (fm.size g) m).bytes (drop (fm.size g) m)
  start_by short long = ⊎_elim fitting longer (cases (leb (length m) (fm.size g)))
    where
      Goal : Type 0
      Goal = P (start_cell (fm.size g) m).bytes (drop (fm.size g) m)

      fitting : leb (length m) (fm.size g) ≡ true → Goal
      fitting e = let f : length m ≤ fm.size g = leb-true (length m) (fm.size g) e in rw (take_all (fm.size g) m f, drop_of_length-le m f) (short f)

      longer : leb (length m) (fm.size g) ≡ false → Goal
      longer e = ⊎_elim in_wide in_narrow (cases (wide fm g))
        where
          in_wide : wide fm g ≡ true → Goal
          in_wide w =
              let s20 : fm.size g ≡ 20 = eqb-true (fm.size g) 20 w in
              let more : 20 < length m = rw s20 at (leb-false (length m) (fm.size g) e) in
              rw (s20, length-take-le 20 m (omega arith), append-nil (take 20 m)) (long w more)

          in_narrow : wide fm g ≡ false → Goal
          in_narrow w = absurd (never_both e (rw h.sized at (placed_fits fm g m w p)))

-- the head of a cell in which a message starts is the message's
pub start_head : (fm : Format) (g : ℕ) (m : List ℕ) → Message m → placed fm g m ≡ true → (o : ℕ) → is_misc (start_cell (fm.size g) m).bytes o ≡ is_misc m o
start_head fm g m h p o =
    start_by fm g m h p (λ b r. is_misc b o ≡ is_misc m o)
    (λ f. let k = (message_size m h).least in misc_append m (replicate (fm.size g - length m) 0) o (omega arith))
    (λ w more. let n20 : length (take 20 m) ≡ 20 = length-take-le 20 m (omega arith) in
    sym (misc_append (take 20 m) (drop 20 m) o (rw n20 (omega arith))) ∙ ap (λ (x : List ℕ). is_misc x o) (take-append-drop 20 m))

-- a message that comes next starts where it is placed
starts_at : (fm : Format) (g : ℕ) (m : List ℕ) → Message m → placed fm g m ≡ true
    → Follows fm g [] [] (m ∷ []) (start_cell (fm.size g) m) (drop (fm.size g) m)
starts_at fm g m h p =
    start_by fm g m h p (λ b r. Follows fm g [] [] (m ∷ []) (record { goes_on = false; starts = true; bytes = b }) r)
    (λ f. starts_short fm g m h f p) (λ w more. starts_long fm g m h w more p)

-- ---- the list

-- behind at bytes of l come the records of ms
pub record Left (l : List ℕ) (at : ℕ) (ms : List (List ℕ)) : Type 0 where
  pub within : at ≤ length l
  pub records : drop at l ≡ records_of ms
  pub all : AllMessages ms

abbrev pub size_length : List ℕ → ℕ
size_length m = length (number (length m))

-- where nothing is left, and the next of the messages that are left
pub first_none : (l : List ℕ) (at : ℕ) → Left l at [] → first_of (drop at l) ≡ Empty
first_none l at h = rw h.records

module _ (l : List ℕ) (at : ℕ) (m : List ℕ) (ms : List (List ℕ)) (h : Left l at (m ∷ ms)) where
  pub first_next : first_of (drop at l) ≡ Whole (size_length m) (size_length m + length m)
  first_next = ap first_of h.records ∙ first_written m (records_of ms) h.all.0

  pub message_next : message_of (drop at l) (size_length m) (size_length m + length m) ≡ m
  message_next =
      let d : (size_length m + length m) - size_length m ≡ length m = omega arith in
      let e : drop at l ≡ number (length m) ++ (m ++ records_of ms) = h.records ∙ append_assoc (number (length m)) m (records_of ms) in
      rw (d, e, drop_at (number (length m)) (m ++ records_of ms) (size_length m) refl) (take_at m (records_of ms) (length m) refl)

  pub left_next : Left l (at + (size_length m + length m)) ms
  left_next = record {
    within =
        let b = h.within in
        let k : length (record_of m ++ records_of ms) ≡ (size_length m + length m) + length (records_of ms) =
        length-append (record_of m) (records_of ms) ∙ ap (λ (i : ℕ). i + length (records_of ms)) (length-append (number (length m)) m) in
        let j : length l - at ≡ length (record_of m ++ records_of ms) = sym (length-drop at l) ∙ ap length h.records in
        omega arith;
    records =
        sym (drop-drop (size_length m + length m) at l) ∙ ap (drop (size_length m + length m)) h.records
        ∙ drop_at (record_of m) (records_of ms) (size_length m + length m) (length-append (number (length m)) m);
    all = h.all.1;
  }

  pub is_next : Message m
  is_next = is_message_law m h.all.0

  pub next_some : 0 < length m
  next_some = message_some m h.all.0

-- ---- the writer's step

-- the step of the writer is followed: what is left of the list then, and whether some of it was used
pub record Steps (fm : Format) (l : List ℕ) (g : ℕ) (m t : List ℕ) (at : ℕ) (ms : List (List ℕ)) (v : Given) : Type 0 where
  pub taken : List (List ℕ)
  pub rest : List (List ℕ)
  pub split : ms ≡ taken ++ rest
  pub left : Left l v.at rest
  pub follows : Follows fm g m t taken v.cell v.owes
  pub moved : ((rest ≡ ms) × (v.at ≡ at)) ⊎ (at < v.at)

-- a place where a message may start is one where it is placed
pub legal_placed : (fm : Format) (n : Grant) (g : ℕ) (es : List Cell) (m : List ℕ) → legal fm n g es m ≡ true → placed fm g m ≡ true
legal_placed fm n g es m e =
    and_left (placed fm g m) (not (is_misc m activation) || no_counts n)
    (and_left (placed fm g m && (not (is_misc m activation) || no_counts n)) (group_ok (es ++ (start_cell (fm.size g) m ∷ []))) e)

-- and so is one beneath what is owed
pub beneath_legal : (fm : Format) (n : Grant) (g : ℕ) (es : List Cell) (m : List ℕ) → beneath fm n g es m ≡ true → legal fm n g es m ≡ true
beneath_legal fm n g es m e = and_right (not (never_early m)) (legal fm n g es m) e

module _ (fm : Format) (n : Grant) (l : List ℕ) (g at : ℕ) (es : List Cell) where
  abbrev cursor : List ℕ → Cursor
  cursor t = record { owes = t; at = at; group = es }

  -- what is given where nothing is owed: the next message where it may start
  pub give_next : (m : List ℕ) (ms : List (List ℕ)) → Left l at (m ∷ ms) → legal fm n g es m ≡ true
      → give fm n l g (cursor []) ≡ record { cell = start_cell (fm.size g) m; owes = drop (fm.size g) m; at = at + (size_length m + length m) }
  give_next m ms h t = rw (first_next l at m ms h, message_next l at m ms h, t)

  pub give_not : (m : List ℕ) (ms : List (List ℕ)) → Left l at (m ∷ ms) → legal fm n g es m ≡ false → give fm n l g (cursor []) ≡ nothing fm g (cursor [])
  give_not m ms h t = rw (first_next l at m ms h, message_next l at m ms h, t)

  pub give_none : Left l at [] → give fm n l g (cursor []) ≡ nothing fm g (cursor [])
  give_none h = rw (first_none l at h)

  -- what is given where bytes are owed: the next of them, but in a narrow granule none
  pub give_on : (t : List ℕ) → 0 < length t → wide fm g ≡ true → give fm n l g (cursor t) ≡ record { cell = on_cell 20 t; owes = drop 20 t; at = at }
  give_on t p w = rw (ne_eqb (length t) 0 (λ z. omega arith), w, eqb-true (fm.size g) 20 w)

  -- in a narrow one the next message where it may lie beneath, else nothing
  pub give_beneath : (t m : List ℕ) (ms : List (List ℕ)) → 0 < length t → wide fm g ≡ false → Left l at (m ∷ ms) → beneath fm n g es m ≡ true
      → give fm n l g (cursor t) ≡ record { cell = start_cell (fm.size g) m; owes = t; at = at + (size_length m + length m) }
  give_beneath t m ms p w h y = rw (ne_eqb (length t) 0 (λ z. omega arith), w, first_next l at m ms h, message_next l at m ms h, y)

  pub give_over : (t m : List ℕ) (ms : List (List ℕ)) → 0 < length t → wide fm g ≡ false → Left l at (m ∷ ms) → beneath fm n g es m ≡ false
      → give fm n l g (cursor t) ≡ nothing fm g (cursor t)
  give_over t m ms p w h y = rw (ne_eqb (length t) 0 (λ z. omega arith), w, first_next l at m ms h, message_next l at m ms h, y)

  pub give_last : (t : List ℕ) → 0 < length t → wide fm g ≡ false → Left l at [] → give fm n l g (cursor t) ≡ nothing fm g (cursor t)
  give_last t p w h = rw (ne_eqb (length t) 0 (λ z. omega arith), w, first_none l at h)

  idle_step : (ms : List (List ℕ)) → Left l at ms → Steps fm l g [] [] at ms (give fm n l g (cursor []))
  idle_step [] h = subst (Steps fm l g [] [] at []) (sym (give_none h)) (record { taken = []; rest = []; split = refl; left = h; follows = idle_nothing fm g; moved = inl (refl, refl) })
  idle_step (m ∷ ms) h = ⊎_elim may may_not (cases (legal fm n g es m))
    where
      may : legal fm n g es m ≡ true → Steps fm l g [] [] at (m ∷ ms) (give fm n l g (cursor []))
      may t =
          subst (Steps fm l g [] [] at (m ∷ ms)) (sym (give_next m ms h t))
          (record {
            taken = m ∷ [];
            rest = ms;
            split = refl;
            left = left_next l at m ms h;
            follows = starts_at fm g m (is_next l at m ms h) (legal_placed fm n g es m t);
            moved = inr (let k = next_some l at m ms h in omega arith);
          })

      may_not : legal fm n g es m ≡ false → Steps fm l g [] [] at (m ∷ ms) (give fm n l g (cursor []))
      may_not t =
          subst (Steps fm l g [] [] at (m ∷ ms)) (sym (give_not m ms h t))
          (record { taken = []; rest = m ∷ ms; split = refl; left = h; follows = idle_nothing fm g; moved = inl (refl, refl) })

  pub step_followed : (m t : List ℕ) (ms : List (List ℕ)) → Link m t → Left l at ms → Steps fm l g m t at ms (give fm n l g (cursor t))
  step_followed m t ms idle left = idle_step ms left
  step_followed m t ms (busy h a b pm pt) left = ⊎_elim in_wide in_narrow (cases (wide fm g))
    where
      made : {v : Given} → v.at ≡ at → Follows fm g m t [] v.cell v.owes → Steps fm l g m t at ms v
      made e f = record { taken = []; rest = ms; split = refl; left = rw e left; follows = f; moved = inl (refl, e) }

      in_wide : wide fm g ≡ true → Steps fm l g m t at ms (give fm n l g (cursor t))
      in_wide w = subst (Steps fm l g m t at ms) (sym (give_on t pt w)) (⊎_elim last further (cases (leb (length t) 20)))
        where
          last : leb (length t) 20 ≡ true → Steps fm l g m t at ms (record { cell = on_cell 20 t; owes = drop 20 t; at = at })
          last e =
              let le : length t ≤ 20 = leb-true (length t) 20 e in
              rw (drop_of_length-le t le) (made refl (ends m t h a b pm pt fm g w (omega arith)))

          further : leb (length t) 20 ≡ false → Steps fm l g m t at ms (record { cell = on_cell 20 t; owes = drop 20 t; at = at })
          further e = made refl (goes_on m t h a b pm pt fm g w (leb-false (length t) 20 e))

      in_narrow : wide fm g ≡ false → Steps fm l g m t at ms (give fm n l g (cursor t))
      in_narrow w = by ms left
        where
          over : (xs : List (List ℕ)) → Left l at xs → Steps fm l g m t at xs (nothing fm g (cursor t))
          over xs k = record { taken = []; rest = xs; split = refl; left = k; follows = passes_over m t h a b pm pt fm g w; moved = inl (refl, refl) }

          by : (xs : List (List ℕ)) → Left l at xs → Steps fm l g m t at xs (give fm n l g (cursor t))
          by [] k = subst (Steps fm l g m t at []) (sym (give_last t pt w k)) (over [] k)
          by (x ∷ xs) k = ⊎_elim may may_not (cases (beneath fm n g es x))
            where
              may : beneath fm n g es x ≡ true → Steps fm l g m t at (x ∷ xs) (give fm n l g (cursor t))
              may y =
                  subst (Steps fm l g m t at (x ∷ xs)) (sym (give_beneath t x xs pt w k y))
                  (record {
                    taken = x ∷ [];
                    rest = xs;
                    split = refl;
                    left = left_next l at x xs k;
                    follows = starts_beneath m t h a b pm pt fm g w x (is_next l at x xs k) (legal_placed fm n g es x (beneath_legal fm n g es x y));
                    moved = inr (let i = next_some l at x xs k in omega arith);
                  })

              may_not : beneath fm n g es x ≡ false → Steps fm l g m t at (x ∷ xs) (give fm n l g (cursor t))
              may_not y = subst (Steps fm l g m t at (x ∷ xs)) (sym (give_over t x xs pt w k y)) (over (x ∷ xs) k)
