-- With grants of nothing, of any form that is allowed, each container finishes a message: n messages take at most n containers, so at
-- most 2n. Assumes nothing.
use Prim.Native.Nat.{ℕ, zero, suc, ◌+◌, ◌-◌, ◌*◌, ◌%◌, ◌≤◌, ◌<◌}
use mathlib.Core.Path.{◌≡◌, refl, sym, ap, ◌∙◌, subst}
use mathlib.Core.Bool.{true, false, not}
use mathlib.Core.List.{List, [], ◌∷◌, ◌++◌}
use mathlib.Core.Logic.{◌⊎◌, inl, inr, ⊎_elim}
use native.Mathlib.Omega.{arith}
use lib.ListN.{length, drop, replicate, length-append, length-drop}
use lib.Seq.{take_all, drop_at, drop-drop}
use lib.Dec.{eqb, ltb}
use borrow.Author.Tests.{lt-ltb, le-leb, eq-eqb, eqb-true, eqb-false}
use Rattle.lists.specs.Pick.{pick}
use Rattle.lists.specs.Parts.{IsBytes, pad}
use Rattle.lists.proofs.Tests.{cases, and_both, or_true}
use Rattle.lists.proofs.Order.{lt_or_le}
use Rattle.lists.proofs.PartLaws.{bytes_drop}
use Rattle.lists.proofs.ZeroLaws.{zeros_replicate}
use Rattle.cause.proofs.CheckLaws.{pass_accepted}
use Rattle.container.specs.Layout.{Format, format_of, wide}
use Rattle.container.specs.Grants.{plane_allowed, no_counts}
use Rattle.container.specs.declared.grant.Grant.{Grant}
use Rattle.container.proofs.Formats.{lawful_of}
use Rattle.message.specs.Heads.{type_of, is_misc, activation, link_status}
use Rattle.message.specs.Places.{placed, miscs_by, responses_by}
use Rattle.message.proofs.PlaceLaws.{miscs_most, responses_most}
use Rattle.record.specs.Records.{records_of, AllMessages}
use Rattle.record.proofs.RecordLaws.{list_exactly}
use Rattle.placement.specs.Cells.{Cell, after, ended, carry_after, endings}
use Rattle.placement.specs.Checking.{one_misc, four_responses}
use Rattle.reader.specs.declared.reader.Reader.{Reader}
use Rattle.writer.specs.Plan.{start_cell, on_cell, legal, beneath, Cursor, Given, nothing, give, cursor_after, plan, cursor_last, cursor_of}
use Rattle.writer.specs.Laying.{filled, owes_after, used_of}
use Rattle.writer.specs.Filling.{tail_of, writer_ok, writer_with, call_checks, fill_fault, filling, fill_bytes}
use Rattle.round_trip.specs.Calls.{AllOut, Fills, FillingLeft, none, then, GrantsNothing, AllNoCounts, first_grants, UsedUp}
use Rattle.writer.specs.declared.writer.Writer.{Writer}
use Rattle.writer.proofs.Simulation.{Link, idle, busy, begun, message_most, short_ended, piece_ended, Left, size_length, is_next, legal_placed, beneath_legal, beneath_ended, Steps, give_next, give_on, give_beneath, give_over, give_last, step_followed}
use Rattle.writer.proofs.Run.{Ran}
use Rattle.writer.proofs.OtherOrder.{other_order_length}
use Rattle.round_trip.proofs.Return.{list_returned}
use Rattle.round_trip.proofs.RoundTrip.{link_most, tail_of_law, ran, is_filled, Linked, list_left}
use Rattle.cause.specs.Checks.{Accepted}

-- the wide granules among g, g + 1, .., k of them
abbrev wides : Format → ℕ → ℕ → ℕ
wides fm zero g = 0
wides fm (suc k) g = pick (wide fm g) 1 0 + wides fm k (g + 1)

module _ (fm : Format) (n : Grant) (l : List ℕ) where
  -- a message ends in the first of the cells or in a later one
  ends_by : (k g : ℕ) (m : List ℕ) (w : Cursor) (v : Given) → give fm n l g w ≡ v
      → (0 < length (ended v.cell m)) ⊎ (0 < length (endings fm (g + 1) (plan fm n l k (g + 1) (cursor_after g w v)) (after fm g v.cell m)))
      → 0 < length (endings fm g (plan fm n l (suc k) g w) m)
  unfolding plan endings
  ends_by k g m w v e p =
      subst (λ (x : Given). 0 < length (ended x.cell m ++ endings fm (g + 1) (plan fm n l k (g + 1) (cursor_after g w x)) (after fm g x.cell m))) (sym e)
      (rw (length-append (ended v.cell m) (endings fm (g + 1) (plan fm n l k (g + 1) (cursor_after g w v)) (after fm g v.cell m)))
      (⊎_elim (λ a. omega arith) (λ a. omega arith) p))

  -- a message that is owed ends where enough wide granules follow
  owed_ends : (k g : ℕ) (m t : List ℕ) (ms : List (List ℕ)) (at : ℕ) (es : List Cell) → Link m t → Left l at ms → 0 < length t → length t ≤ 20 * wides fm k g
      → 0 < length (endings fm g (plan fm n l k g (record { owes = t; at = at; group = es })) m)
  owed_ends zero g m t ms at es link left p b = absurd (omega arith)
  owed_ends (suc k) g m t ms at es idle left p b = absurd (omega arith)
  owed_ends (suc k) g m t ms at es (busy h a c pm pt) left p b =
      let later : Later = λ m' t' ms' at' es'. owed_ends k (g + 1) m' t' ms' at' es' in
      ⊎_elim (in_wide later) (in_narrow later) (cases (wide fm g))
    where
      w : Cursor
      w = record { owes = t; at = at; group = es }

      Later : Type 0
      Later = (m' t' : List ℕ) (ms' : List (List ℕ)) (at' : ℕ) (es' : List Cell) → Link m' t' → Left l at' ms' → 0 < length t'
          → length t' ≤ 20 * wides fm k (g + 1) → 0 < length (endings fm (g + 1) (plan fm n l k (g + 1) (record { owes = t'; at = at'; group = es' })) m')

      next : (v : Given) → give fm n l g w ≡ v → Steps fm l g m t at ms v
      next v e = subst (Steps fm l g m t at ms) e (step_followed fm n l g at es m t ms (busy h a c pm pt) left)

      in_wide : Later → wide fm g ≡ true → 0 < length (endings fm g (plan fm n l (suc k) g w) m)
      in_wide later e =
          let v : Given = record { cell = on_cell 20 t; owes = drop 20 t; at = at } in
          let q : give fm n l g w ≡ v = give_on fm n l g at es t pt e in
          let b' : length t ≤ 20 * (1 + wides fm k (g + 1)) = rw e at b in
          let d : length (drop 20 t) ≡ length t - 20 = length-drop 20 t in
          let s = next v q in
          ends_by k g m w v q
          (⊎_elim (λ (x : 20 < length t). inr (later (after fm g (on_cell 20 t) m) (drop 20 t) s.rest at _ s.follows.link s.left (rw d (omega arith)) (rw d (omega arith))))
          (λ (x : length t ≤ 20). inl (rw (piece_ended m t h a c pm pt fm g e (omega arith)) (omega arith))) (lt_or_le 20 (length t)))

      in_narrow : Later → wide fm g ≡ false → 0 < length (endings fm g (plan fm n l (suc k) g w) m)
      in_narrow later e = by ms left next
        where
          b' : length t ≤ 20 * (0 + wides fm k (g + 1))
          b' = rw e at b

          over : (xs : List (List ℕ)) → Left l at xs → ((v : Given) → give fm n l g w ≡ v → Steps fm l g m t at xs v) → give fm n l g w ≡ nothing fm g w
              → 0 < length (endings fm g (plan fm n l (suc k) g w) m)
          over xs i step q = let s = step _ q in ends_by k g m w _ q (inr (later m t s.rest at _ s.follows.link s.left pt (omega (arith, b'))))

          by : (xs : List (List ℕ)) → Left l at xs → ((v : Given) → give fm n l g w ≡ v → Steps fm l g m t at xs v)
              → 0 < length (endings fm g (plan fm n l (suc k) g w) m)
          by [] i step = over [] i step (give_last fm n l g at es t pt e i)
          by (x ∷ xs) i step =
              ⊎_elim (λ (y : beneath fm n g es x ≡ true).
              ends_by k g m w _ (give_beneath fm n l g at es t x xs pt e i y)
              (inl (rw (beneath_ended m t h a c pm pt fm g e x (is_next l at x xs i) (legal_placed fm n g es x (beneath_legal fm n g es x y))) (omega arith))))
              (λ (y : beneath fm n g es x ≡ false). over (x ∷ xs) i step (give_over fm n l g at es t x xs pt e i y)) (cases (beneath fm n g es x))

-- a message that comes first in a container may start in G0
pub legal_first : (fm : Format) (n : Grant) (m : List ℕ) → no_counts n ≡ true → wide fm 0 ≡ true → legal fm n 0 [] m ≡ true
legal_first fm n m q w =
    let p : placed fm 0 m ≡ true = rw w (or_true (not (is_misc m link_status))) in
    let t = type_of (start_cell (fm.size 0) m).bytes in
    let a : one_misc (start_cell (fm.size 0) m ∷ []) ≡ true = le-leb (miscs_by t + 0) 1 (omega (arith, miscs_most t)) in
    let r : four_responses (start_cell (fm.size 0) m ∷ []) ≡ true = le-leb (responses_by t + 0) 4 (omega (arith, responses_most t)) in
    rw (p, q, or_true (not (is_misc m activation)), a, r)

-- G0 is wide, and so are five of the other granules
wide_first : (f : ℕ) → wide (format_of f) 0 ≡ true
wide_first f = (lawful_of f).first_wide 0 (omega arith)

wide_others : (f : ℕ) → 5 ≤ wides (format_of f) 11 1
wide_others f = ⊎_elim (λ (e : eqb f 0 ≡ true). rw e (omega arith)) (λ (e : eqb f 0 ≡ false). rw e (omega arith)) (cases (eqb f 0))

-- the messages that are not finished: the one begun and those to come
abbrev pub unfinished : List ℕ → List ℕ → List (List ℕ) → ℕ
unfinished m t ms = length (begun m t) + length ms

-- a container whose first message starts in G0 finishes it
module _ (f : ℕ) (n : Grant) (quiet : no_counts n ≡ true) (l x : List ℕ) (ms : List (List ℕ)) (left : Left l 0 (x ∷ ms)) where
  abbrev fm : Format
  fm = format_of f

  abbrev v : Given
  v = record { cell = start_cell (fm.size 0) x; owes = drop (fm.size 0) x; at = 0 + (size_length x + length x) }

  twenty : fm.size 0 ≡ 20
  twenty = eqb-true (fm.size 0) 20 (wide_first f)

  first_given : give fm n l 0 (cursor_of []) ≡ v
  first_given = give_next fm n l 0 0 [] x ms left (legal_first fm n x quiet (wide_first f))

  first_steps : Steps fm l 0 [] [] 0 (x ∷ ms) v
  first_steps = subst (Steps fm l 0 [] [] 0 (x ∷ ms)) first_given (step_followed fm n l 0 0 [] [] [] (x ∷ ms) idle left)

  short_ends : length x ≤ 20 → 0 < length (ended v.cell [])
  short_ends a =
      let fits : length x ≤ fm.size 0 = rw twenty a in
      let p = legal_placed fm n 0 [] x (legal_first fm n x quiet (wide_first f)) in
      rw (take_all (fm.size 0) x fits, short_ended fm 0 x (is_next l 0 x ms left) fits p) (omega arith)

  long_ends : 20 < length x → 0 < length (endings fm 1 (plan fm n l 11 1 (cursor_after 0 (cursor_of []) v)) (after fm 0 v.cell []))
  long_ends a =
      let d : length (drop (fm.size 0) x) ≡ length x - 20 = length-drop (fm.size 0) x ∙ ap (λ (k : ℕ). length x - k) twenty in
      let most = message_most x (is_next l 0 x ms left) in
      let k = wide_others f in
      let s = first_steps in
      owed_ends fm n l 11 1 (after fm 0 v.cell []) (drop (fm.size 0) x) s.rest v.at _ s.follows.link s.left (rw d (omega arith)) (rw d (omega arith))

  starts_ends : 0 < length (endings fm 0 (plan fm n l 12 0 (cursor_of [])) [])
  starts_ends =
      ends_by fm n l 11 0 [] (cursor_of []) v first_given
      (⊎_elim (λ (a : 20 < length x). inr (long_ends a)) (λ (a : length x ≤ 20). inl (short_ends a)) (lt_or_le 20 (length x)))

-- a container finishes a message where there is one
finishes_one : (f : ℕ) (n : Grant) → no_counts n ≡ true → (m t l : List ℕ) (ms : List (List ℕ)) → Link m t → Left l 0 ms → 0 < unfinished m t ms
    → 0 < length (endings (format_of f) 0 (plan (format_of f) n l 12 0 (cursor_of t)) m)
finishes_one f n quiet m t l [] idle left p = absurd (omega arith)
finishes_one f n quiet m t l (x ∷ ms) idle left p = starts_ends f n quiet l x ms left
finishes_one f n quiet m t l ms (busy h a b pm pt) left p =
    let k = wide_others f in
    let s = (link_most m t (busy h a b pm pt)).1 in
    owed_ends (format_of f) n l 12 0 m t ms 0 [] (busy h a b pm pt) left pt (rw (wide_first f) (omega arith))

-- ---- one fill

link_granules : (m t : List ℕ) → Link m t → length t % 20 ≡ 0
link_granules m t idle = refl
link_granules m t (busy h a b pm pt) = b

-- a valid call is accepted
module _ (f : ℕ) (n : Grant) (m t l : List ℕ) (ms : List (List ℕ)) (small : f < 2) (low : n.rp < 8) (allowed : plane_allowed n ≡ true)
    (link : Link m t) (left : Left l 0 ms) (hb : IsBytes l) (few : length l ≤ 4096) where
  writer_ok_valid : writer_ok (writer_with f t) ≡ true
  writer_ok_valid =
      let d : drop (length t) (pad 100 t) ≡ replicate (100 - length t) 0 = drop_at t (replicate (100 - length t) 0) (length t) refl in
      rw (lt-ltb f 2 small, le-leb (length t) 100 (link_most m t link).1, eq-eqb (length t % 20) 0 (link_granules m t link), d)
      (zeros_replicate (100 - length t))

  pub call_accepted : (k : ℕ) → k ≡ 256 → fill_fault (writer_with f t) l n k ≡ Accepted
  unfolding fill_fault call_checks
  call_accepted k e =
      rw (pass_accepted (call_checks (writer_with f t) (length l) n k)
      (writer_ok_valid, (eq-eqb k 256 e, (le-leb (length l) 4096 few, (and_both (ltb n.rp 8) (plane_allowed n) (lt-ltb n.rp 8 low) allowed, tt)))))
      ((list_exactly l hb).1 (record { messages = ms; joined = left.records; all = left.all }))

  pub call_fills : Fills (writer_with f t) l n (filled (format_of f) n t l) (used_of (format_of f) n t l) (writer_with f (owes_after (format_of f) n t l))
  unfolding filling fill_bytes
  call_fills = record {
    answer = rw (call_accepted 256 refl, tail_of_law f t);
    next = rw (call_accepted 256 refl, tail_of_law f t);
    bytes = λ old e. rw (call_accepted (length old) e, tail_of_law f t);
    of_bytes = hb;
  }

-- behind a container fewer messages are not finished
fewer : (f : ℕ) (n : Grant) → no_counts n ≡ true → (m t l : List ℕ) (ms : List (List ℕ)) (link : Link m t) (left : Left l 0 ms) → 0 < unfinished m t ms
    → (w : Cursor) → (r : Ran (format_of f) l 0 m t 0 ms (plan (format_of f) n l 12 0 (cursor_of t)) w)
    → unfinished (carry_after (format_of f) 0 (plan (format_of f) n l 12 0 (cursor_of t)) m) w.owes r.rest < unfinished m t ms
fewer f n quiet m t l ms link left p w r =
    let e = simp length-append at (other_order_length r.out) in let d = simp length-append at (ap length r.split) in omega (arith, finishes_one f n quiet m t l ms link left p)

-- ---- progress

-- one message is begun where bytes are owed
begun_count : (m t : List ℕ) → ((length t ≡ 0) × (length (begun m t) ≡ 0)) ⊎ ((0 < length t) × (length (begun m t) ≡ 1))
begun_count m t =
    ⊎_elim (λ (e : eqb (length t) 0 ≡ true). inl (eqb-true (length t) 0 e, rw e))
    (λ (e : eqb (length t) 0 ≡ false). inr (let d = eqb-false (length t) 0 e in omega arith, rw e)) (cases (eqb (length t) 0))

some_unfinished : (m t l : List ℕ) (ms : List (List ℕ)) → l ≡ records_of ms → (0 < length l) ⊎ (0 < length t) → 0 < unfinished m t ms
some_unfinished m t l [] e p =
    ⊎_elim (λ (q : 0 < length l). let z : length l ≡ 0 = ap length e in absurd (omega arith))
    (λ (q : 0 < length t). ⊎_elim (λ x. let z = x.0 in absurd (omega arith)) (λ x. let z = x.1 in omega arith) (begun_count m t)) p
some_unfinished m t l (x ∷ ms) e p = omega arith

progress_with : (f : ℕ) (n : Grant) → no_counts n ≡ true → (m t l : List ℕ) (ms : List (List ℕ)) → Link m t → Left l 0 ms → (w : Cursor)
    → Ran (format_of f) l 0 m t 0 ms (plan (format_of f) n l 12 0 (cursor_of t)) w
    → (0 < length l) ⊎ (0 < length t) → (0 < w.at) ⊎ ((0 < length t) × (length w.owes ≡ 0))
progress_with f n quiet m t l ms link left w r some =
    ⊎_elim (λ x. inr (paid (ap length x.0))) (λ x. inl x) r.moved
  where
    m' : List ℕ
    m' = carry_after (format_of f) 0 (plan (format_of f) n l 12 0 (cursor_of t)) m

    paid : length r.rest ≡ length ms → (0 < length t) × (length w.owes ≡ 0)
    paid e =
        let k = fewer f n quiet m t l ms link left (some_unfinished m t l ms left.records some) w r in
        ⊎_elim (λ x. let z = x.1 in absurd (omega arith))
        (λ x. let z = x.1 in (x.0, ⊎_elim (λ y. y.0) (λ y. let v = y.1 in absurd (omega arith)) (begun_count m' w.owes))) (begun_count m t)

-- a grant of nothing, records left or a tail owed: a fill uses a record, or it pays off the tail
pub progress : (f : ℕ) (n : Grant) → no_counts n ≡ true → (s : Reader) (w : Writer) (l c : List ℕ) (u : ℕ) (w' : Writer) → Linked f s w → Fills w l n c u w'
    → (0 < length l) ⊎ (0 < length (tail_of w)) → (0 < u) ⊎ ((0 < length (tail_of w)) × (length (tail_of w') ≡ 0))
unfolding owes_after used_of
progress f n quiet s w l c u w' k h some =
    let a = is_filled f k.tail l n c u w' (rw k.writer at h) in
    let ms = list_left l h.of_bytes a.sound in
    let r = ran f n a.low a.allowed k.carry k.tail l ms.0 k.link ms.1 in
    let t : tail_of w ≡ k.tail = ap tail_of k.writer ∙ tail_of_law f k.tail in
    let t' : tail_of w' ≡ (cursor_last (format_of f) n l 12 0 (cursor_of k.tail)).owes = ap tail_of (sym a.next) ∙ tail_of_law f _ in
    rw (t, t', ← a.used) (progress_with f n quiet k.carry k.tail l ms.0 k.link ms.1 _ r (rw t at some))

-- ---- a writer along a list

-- what is left of a list, seen from what was left before
pub left_here : (l : List ℕ) (at : ℕ) (ms : List (List ℕ)) → Left l at ms → Left (drop at l) 0 ms
left_here l at ms h = record { within = omega arith; records = h.records; all = h.all }

left_there : (l : List ℕ) (at u : ℕ) (ms : List (List ℕ)) → at ≤ length l → Left (drop at l) u ms → Left l (at + u) ms
left_there l at u ms b h =
    let k = h.within in
    let d = length-drop at l in
    record { within = omega arith; records = sym (drop-drop u at l) ∙ h.records; all = h.all }

-- a writer behind the first bytes of a list of records, with at most k messages not finished
pub record Going (f : ℕ) (l : List ℕ) (k at : ℕ) (w : Writer) : Type 0 where
  pub carry : List ℕ
  pub tail : List ℕ
  pub rest : List (List ℕ)
  pub is_writer : w ≡ writer_with f tail
  pub link : Link carry tail
  pub left : Left l at rest
  pub few : unfinished carry tail rest ≤ k

-- a new writer
pub going_first : (f : ℕ) (l : List ℕ) (ms : List (List ℕ)) → Left l 0 ms → Going f l (length ms) 0 (writer_with f [])
going_first f l ms left = record { carry = []; tail = []; rest = ms; is_writer = refl; link = idle; left = left; few = omega arith }

-- a container leaves one less, or none
one_less : (f : ℕ) (n : Grant) → no_counts n ≡ true → (m t l : List ℕ) (ms : List (List ℕ)) (link : Link m t) (left : Left l 0 ms) (w : Cursor)
    → (r : Ran (format_of f) l 0 m t 0 ms (plan (format_of f) n l 12 0 (cursor_of t)) w)
    → unfinished (carry_after (format_of f) 0 (plan (format_of f) n l 12 0 (cursor_of t)) m) w.owes r.rest ≤ unfinished m t ms - 1
one_less f n quiet m t l ms link left w r =
    ⊎_elim (λ (p : 0 < unfinished m t ms). omega (arith, fewer f n quiet m t l ms link left p w r))
    (λ (p : unfinished m t ms ≤ 0). let e = simp length-append at (other_order_length r.out) in let d = simp length-append at (ap length r.split) in omega arith) (lt_or_le 0 (unfinished m t ms))

module _ (f : ℕ) (l : List ℕ) (k at : ℕ) (w : Writer) (g : Going f l k at w) where
  -- one fill more
  pub going_more : (n : Grant) → no_counts n ≡ true → (c : List ℕ) (u : ℕ) (w' : Writer) → Fills w (drop at l) n c u w' → Going f l (k - 1) (at + u) w'
  unfolding owes_after used_of
  going_more n quiet c u w' h =
      let here = left_here l at g.rest g.left in
      let a = is_filled f g.tail (drop at l) n c u w' (rw g.is_writer at h) in
      let r = ran f n a.low a.allowed g.carry g.tail (drop at l) g.rest g.link here in
      record {
        carry = carry_after (format_of f) 0 (plan (format_of f) n (drop at l) 12 0 (cursor_of g.tail)) g.carry;
        tail = owes_after (format_of f) n g.tail (drop at l);
        rest = r.rest;
        is_writer = sym a.next;
        link = r.link;
        left = left_there l at u r.rest g.left.within (subst (λ (i : ℕ). Left (drop at l) i r.rest) a.used r.left);
        few = omega (arith, g.few, one_less f n quiet g.carry g.tail (drop at l) g.rest g.link here _ r);
      }

  -- a fill of what is left is accepted
  pub going_fills : (n : Grant) → n.rp < 8 → plane_allowed n ≡ true → f < 2 → IsBytes l → length l ≤ 4096
      → Fills w (drop at l) n (filled (format_of f) n g.tail (drop at l)) (used_of (format_of f) n g.tail (drop at l)) (writer_with f (owes_after (format_of f) n g.tail (drop at l)))
  going_fills n low allowed small hb short =
      rw g.is_writer
      (call_fills f n g.carry g.tail (drop at l) g.rest small low allowed g.link (left_here l at g.rest g.left)
      (bytes_drop l at hb) (rw (length-drop at l) (omega arith)))

-- where no message is unfinished, all of the list is used and nothing is owed
all_used : (m t l : List ℕ) (ms : List (List ℕ)) (at : ℕ) → Left l at ms → unfinished m t ms ≡ 0 → (at ≡ length l) × (length t ≡ 0)
all_used m t l [] at left e =
    let d : length l - at ≡ 0 = sym (length-drop at l) ∙ ap length left.records in
    let k = left.within in
    (omega arith, ⊎_elim (λ x. x.0) (λ x. let z = x.1 in absurd (omega arith)) (begun_count m t))
all_used m t l (x ∷ ms) at left e = absurd (omega arith)

pub going_none : (f : ℕ) (l : List ℕ) (at : ℕ) (w : Writer) → Going f l 0 at w → (at ≡ length l) × (length (tail_of w) ≡ 0)
going_none f l at w g =
    let a = all_used g.carry g.tail l g.rest at g.left (omega (arith, g.few)) in
    (a.0, rw (g.is_writer, tail_of_law f g.tail) a.1)

-- ---- all fills of a list

-- a grant of nothing to any plane
pub plane_grants_nothing : (p : ℕ) → p < 8 → GrantsNothing (record { shc = false; rp = p; req = 0; rsp = 0; snp = 0; dat = 0 })
plane_grants_nothing p b = record { no_counts_held = refl; low = b; allowed = refl }

module _ (f : ℕ) (small : f < 2) (l : List ℕ) (hb : IsBytes l) (short : length l ≤ 4096) (n : ℕ → Grant) (nothing-granted : (i : ℕ) → GrantsNothing (n i)) where
  abbrev Fillings : List (List ℕ) → ℕ → Writer → Type 0
  Fillings cs at w = FillingLeft (writer_with f []) l cs (first_grants n (length cs)) at w

  -- one more fill
  pub one_more : (cs : List (List ℕ)) (at : ℕ) (w : Writer) (c : List ℕ) (u : ℕ) (w' : Writer) → Fillings cs at w → Fills w (drop at l) (n (length cs)) c u w'
      → Fillings (cs ++ (c ∷ [])) (at + u) w'
  one_more cs at w c u w' done h =
      let e : suc (length cs) ≡ length (cs ++ (c ∷ [])) = omega (arith, length-append cs (c ∷ [])) in
      subst (λ (k : ℕ). FillingLeft (writer_with f []) l (cs ++ (c ∷ [])) (first_grants n k) (at + u) w') e (then (n (length cs)) u done h)

  -- k fills finish k messages
  finishes : (k at p : ℕ) (w : Writer) (cs : List (List ℕ)) → Going f l k at w → Fillings cs at w → length cs + k ≤ p → UsedUp f l n p
  finishes zero at p w cs g done b =
      let a = going_none f l at w g in
      record {
        containers = cs;
        writer = w;
        fills = subst (λ (i : ℕ). Fillings cs i w) a.0 done;
        owes_none = a.1;
        few = omega arith;
      }
  finishes (suc k) at p w cs g done b =
      let m = n (length cs) in
      let q = nothing-granted (length cs) in
      let h = going_fills f l (suc k) at w g m q.low q.allowed small hb short in
      let c = filled (format_of f) m g.tail (drop at l) in
      let u = used_of (format_of f) m g.tail (drop at l) in
      let w' = writer_with f (owes_after (format_of f) m g.tail (drop at l)) in
      let e : suc k - 1 ≡ k = omega arith in
      finishes k (at + u) p w' (cs ++ (c ∷ [])) (subst (λ (j : ℕ). Going f l j (at + u) w') e (going_more f l (suc k) at w g m q.no_counts_held c u w' h))
      (one_more cs at w c u w' done h) (rw (length-append cs (c ∷ [])) (omega arith))

-- n messages from a new writer on, with grants of nothing: at most n containers
pub within_n : (f : ℕ) (l : List ℕ) (ms : List (List ℕ)) (n : ℕ → Grant) → f < 2 → IsBytes l → length l ≤ 4096 → l ≡ records_of ms → AllMessages ms
    → ((i : ℕ) → GrantsNothing (n i)) → UsedUp f l n (length ms)
within_n f l ms n small hb short e a q =
    finishes f small l hb short n q (length ms) 0 (length ms) (writer_with f []) [] (going_first f l ms (record { within = omega arith; records = e; all = a })) none (omega arith)

pub within_2n : (f : ℕ) (l : List ℕ) (ms : List (List ℕ)) (n : ℕ → Grant) → f < 2 → IsBytes l → length l ≤ 4096 → l ≡ records_of ms → AllMessages ms
    → ((i : ℕ) → GrantsNothing (n i)) → UsedUp f l n (2 * length ms)
within_2n f l ms n small hb short e a q =
    let r = within_n f l ms n small hb short e a q in
    let b = r.few in
    record { containers = r.containers; writer = r.writer; fills = r.fills; owes_none = r.owes_none; few = omega arith }

-- and a new reader hands out all n messages of these containers
pub returned_within_n : (f : ℕ) (l : List ℕ) (ms : List (List ℕ)) (n : ℕ → Grant) → f < 2 → IsBytes l → length l ≤ 4096 → l ≡ records_of ms → AllMessages ms
    → ((i : ℕ) → GrantsNothing (n i)) → (r : UsedUp f l n (length ms)) × AllOut f r.containers (first_grants n (length r.containers)) (records_of ms)
returned_within_n f l ms n small hb short e a q =
    let r = within_n f l ms n small hb short e a q in
    (r, subst (AllOut f r.containers (first_grants n (length r.containers))) e (list_returned f l r.containers (first_grants n (length r.containers)) r.writer small r.fills r.owes_none))

-- ---- whatever the calls, n of them finish n messages

-- grants without counts, and one behind them
no_counts_split : (ns : List Grant) (n : Grant) → AllNoCounts (ns ++ (n ∷ [])) → AllNoCounts ns × (no_counts n ≡ true)
no_counts_split [] n q = (tt, q.0)
no_counts_split (m ∷ ns) n q = let i = no_counts_split ns n q.1 in ((q.0, i.0), i.1)

going : (f : ℕ) (l : List ℕ) (ms : List (List ℕ)) → Left l 0 ms → {cs : List (List ℕ)} {ns : List Grant} {at : ℕ} {w : Writer}
    → FillingLeft (writer_with f []) l cs ns at w → AllNoCounts ns → Going f l (length ms - length cs) at w
going f l ms left none q = let e : length ms ≡ length ms - 0 = omega arith in subst (λ (k : ℕ). Going f l k 0 (writer_with f [])) e (going_first f l ms left)
going f l ms left (then {cs = cs} {ns = ns} {at = at} {w₁ = w₁} {w₂ = w₂} {c = c} n u before h) q =
    let e : (length ms - length cs) - 1 ≡ length ms - length (cs ++ (c ∷ [])) = omega (arith, length-append cs (c ∷ [])) in
    let s = no_counts_split ns n q in
    subst (λ (k : ℕ). Going f l k (at + u) w₂) e (going_more f l (length ms - length cs) at w₁ (going f l ms left before s.0) n s.1 c u w₂ h)

-- after n fills with grants of nothing, n messages from a new writer on are used up and nothing is owed
pub finished_by_n : (f : ℕ) (l : List ℕ) (ms : List (List ℕ)) → l ≡ records_of ms → AllMessages ms → {cs : List (List ℕ)} {ns : List Grant} {at : ℕ} {w : Writer}
    → FillingLeft (writer_with f []) l cs ns at w → AllNoCounts ns → length ms ≤ length cs → (at ≡ length l) × (length (tail_of w) ≡ 0)
finished_by_n f l ms e a {cs = cs} {at = at} {w = w} h q b =
    let none_left : length ms - length cs ≡ 0 = omega arith in
    going_none f l at w (subst (λ (k : ℕ). Going f l k at w) none_left (going f l ms (record { within = omega arith; records = e; all = a }) h q))
