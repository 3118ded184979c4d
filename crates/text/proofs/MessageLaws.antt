-- The lines of a list of records, record by record. Assumes nothing.
use Prim.Native.Nat.{ℕ, zero, suc, ◌+◌, ◌-◌, ◌*◌, ◌/◌, ◌≤◌, ◌<◌}
use mathlib.Core.Path.{◌≡◌, refl, sym, ap, ◌∙◌}
use mathlib.Core.List.{List, [], ◌∷◌, ◌++◌, append_assoc, append-nil}
use native.Mathlib.Omega.{arith}
use native.Mathlib.Nat.{zero-add}
use lib.ListN.{length, take, drop, length-append, length-drop}
use lib.Seq.{drop-drop, drop_at, take_at, drop-append_seam}
use borrow.Author.Tests.{le-leb, lt-leb}
use borrow.Rule.Slice.PartMut.{put_mid}
use Rattle.lists.specs.Parts.{put, IsBytes}
use Rattle.lists.proofs.PartLaws.{length_part, length_put, length_zero, bytes_drop, put_mid_is_put}
use Rattle.lists.proofs.PutLaws.{put_none, put_more}
use Rattle.message.specs.Heads.{msg_size}
use Rattle.message.proofs.HeadLaws.{is_message_law, size_most}
use Rattle.record.specs.Number.{number}
use Rattle.record.specs.Records.{record_of, records_of, AllMessages, first_of, message_of}
use Rattle.record.specs.declared.list.First.{First}
use Rattle.record.specs.declared.list.First.TheVariants.{Empty, Bad, Whole}
use Rattle.record.proofs.NumberLaws.{number_small}
use Rattle.record.proofs.RecordLaws.{first_within, first_splits, first_written}
use Rattle.text.specs.Hex.{message_line, message_lines, line_then, lines_from, lines_of, lines_length, lines_room}
use Rattle.text.proofs.HexLaws.{length_line}

-- ---- the lines of a list

-- enough steps give the same lines
lines_enough : (k j : ℕ) (l : List ℕ) → length l ≤ k → length l ≤ j → lines_from k l ≡ lines_from j l
unfolding lines_from
lines_enough zero zero l p q = refl
lines_enough zero (suc j) l p q = ap (λ (x : List ℕ). line_then (first_of x) x (λ rest. lines_from j rest)) (sym (length_zero l (omega arith)))
lines_enough (suc k) zero l p q = ap (λ (x : List ℕ). line_then (first_of x) x (λ rest. lines_from k rest)) (length_zero l (omega arith))
lines_enough (suc k) (suc j) l p q = by (first_of l) refl (λ rest. lines_enough k j rest)
  where
    by : (f : First) → first_of l ≡ f → ((rest : List ℕ) → length rest ≤ k → length rest ≤ j → lines_from k rest ≡ lines_from j rest)
        → line_then f l (λ rest. lines_from k rest) ≡ line_then f l (λ rest. lines_from j rest)
    by Empty e ih = refl
    by Bad e ih = refl
    by (Whole start end) e ih =
        let w = first_within l start end e in
        let n = length-drop end l in
        ap (λ (x : List ℕ). message_line (message_of l start end) ++ x) (ih (drop end l) (omega arith) (omega arith))

-- by the first record
lines_by : (l : List ℕ) → lines_of l ≡ line_then (first_of l) l lines_of
unfolding lines_of lines_from
lines_by l = lines_enough (length l) (suc (length l)) l (omega arith) (omega arith) ∙ by (first_of l) refl
  where
    by : (f : First) → first_of l ≡ f → line_then f l (λ rest. lines_from (length l) rest) ≡ line_then f l lines_of
    by Empty e = refl
    by Bad e = refl
    by (Whole start end) e =
        let n = length-drop end l in
        ap (λ (x : List ℕ). message_line (message_of l start end) ++ x)
        (lines_enough (length l) (length (drop end l)) (drop end l) (omega arith) (omega arith))

pub lines_whole : (l : List ℕ) (start end : ℕ) → first_of l ≡ Whole start end
    → lines_of l ≡ message_line (message_of l start end) ++ lines_of (drop end l)
lines_whole l start end e = lines_by l ∙ ap (λ (f : First). line_then f l lines_of) e

-- where no whole record stands at the front
pub lines_over : (l : List ℕ) → ((start end : ℕ) → first_of l ≡ Whole start end → ⊥) → lines_of l ≡ []
lines_over l none = lines_by l ∙ by (first_of l) refl
  where
    by : (f : First) → first_of l ≡ f → line_then f l lines_of ≡ []
    by Empty e = refl
    by Bad e = refl
    by (Whole start end) e = absurd (none start end e)

-- ---- records of messages

-- the lines of records are those of their messages
pub lines_messages : (ms : List (List ℕ)) → AllMessages ms → lines_of (records_of ms) ≡ message_lines ms
lines_messages [] a = lines_by []
lines_messages (m ∷ ms) a =
    let n = number (length m) in
    let l = record_of m ++ records_of ms in
    let i : l ≡ n ++ (m ++ records_of ms) = append_assoc n m (records_of ms) in
    let s : (length n + length m) - length n ≡ length m = omega arith in
    let here : message_of l (length n) (length n + length m) ≡ m =
    ap (λ (k : ℕ). take k (drop (length n) l)) s
    ∙ ap (λ (x : List ℕ). take (length m) (drop (length n) x)) i
    ∙ ap (take (length m)) (drop-append_seam n (m ++ records_of ms)) ∙ take_at m (records_of ms) (length m) refl in
    let rest : drop (length n + length m) l ≡ records_of ms = drop_at (record_of m) (records_of ms) (length n + length m) (length-append n m)
    in
    lines_whole l (length n) (length n + length m) (first_written m (records_of ms) a.0)
    ∙ ap (λ (x : List ℕ). message_line x ++ lines_of (drop (length n + length m) l)) here
    ∙ ap (λ (x : List ℕ). message_line m ++ lines_of x) rest
    ∙ ap (λ (x : List ℕ). message_line m ++ x) (lines_messages ms a.1)

-- ---- written record by record

-- a record begins with a byte of its number
first_start : (l : List ℕ) → IsBytes l → (start end : ℕ) → first_of l ≡ Whole start end → 0 < start
first_start l hb start end e =
    let s = first_splits l hb start end e in
    let m = message_of l start end in
    let sized : msg_size m ≡ length m = (is_message_law m s.message).sized in
    let few : length m < 128 = omega (arith, size_most m) in
    let one : start ≡ 1 = s.start_number ∙ ap length (number_small (length m) few) in
    omega arith

-- the lines of the records before `at` stand at the front of the room d, over d₀, in `to` bytes
pub record Lined (l d₀ d : List ℕ) (at to : ℕ) : Type 0 where
  pub text : List ℕ
  pub within : at ≤ length l
  pub few : to ≤ 2 * at
  pub reached : length text ≡ to
  pub room : d ≡ put 0 text d₀
  pub long : length d ≡ length d₀
  pub rest : lines_of l ≡ text ++ lines_of (drop at l)

pub lined_none : (l d : List ℕ) → Lined l d d 0 0
lined_none l d =
    record { text = []; within = omega arith; few = omega arith; reached = refl; room = sym (put_none 0 d); long = refl; rest = refl }

-- a record that stands behind `at`, and what the room has behind `to`
pub record Turn (l d : List ℕ) (at to start end : ℕ) : Type 0 where
  pub inside : at + start ≤ at + end
  pub within : at + end ≤ length l
  pub onward : at < at + end
  pub room : to + 2 * (end - start) < length d

-- what a room that is too small comes to
pub too_small : (l d : List ℕ) → length d / 2 < length l → (0 ≡ lines_length l (length d)) × (d ≡ lines_room l d)
too_small l d h = let t = lt-leb (length l) (length d / 2) h in (rw t, rw t)

module _ (l d₀ d : List ℕ) (at to : ℕ) (big : length l ≤ length d₀ / 2) (h : Lined l d₀ d at to) where
  -- where no line is to come
  pub lined_all : lines_of (drop at l) ≡ [] → (to ≡ lines_length l (length d₀)) × (d ≡ lines_room l d₀)
  lined_all e =
      let t = le-leb (length l) (length d₀ / 2) big in
      let all : lines_of l ≡ h.text = h.rest ∙ ap (λ (x : List ℕ). h.text ++ x) e ∙ append-nil h.text in
      (rw (t, all) (sym h.reached), rw (t, all) h.room)

  module _ (hb : IsBytes l) (start end : ℕ) (e : first_of (drop at l) ≡ Whole start end) where
    abbrev m : List ℕ
    m = message_of (drop at l) start end

    here : (0 < start) × (start < end) × (at + end ≤ length l)
    here =
        let w = first_within (drop at l) start end e in
        let n = length-drop at l in
        let z = h.within in
        (first_start (drop at l) (bytes_drop l at hb) start end e, w.0, omega arith)

    -- the message as the code cuts it
    message_is : take ((at + end) - (at + start)) (drop (at + start) l) ≡ m
    message_is =
        let w = here in
        let k : (at + end) - (at + start) ≡ end - start = omega arith in
        ap (λ (j : ℕ). take j (drop (at + start) l)) k ∙ ap (take (end - start)) (sym (drop-drop start at l))

    size : length m ≡ end - start
    size = let w = here in let n = length-drop at l in length_part start (end - start) (drop at l) (omega arith)

    pub turn : Turn l d at to start end
    turn =
        let w = here in let f = h.few in let g = h.long in record
        { inside = omega arith; within = omega arith; onward = omega arith; room = omega arith }

    -- the line behind the others
    pub lined_more : (d' : List ℕ) (r : ℕ) → r ≡ length (message_line (take ((at + end) - (at + start)) (drop (at + start) l)))
        → d' ≡ put 0 (message_line (take ((at + end) - (at + start)) (drop (at + start) l))) (take (length d - to) (drop to d))
        → Lined l d₀ (put_mid to (length d - to) d d') (at + end) (to + r)
    lined_more d' r er ed =
        let w = here in
        let f = h.few in
        let g = h.long in
        let q = h.reached in
        let n = size in
        let line = message_line m in
        let long-line : length line ≡ 2 * (end - start) + 1 = length_line m ∙ ap (λ (j : ℕ). 2 * j + 1) n in
        let k = length d - to in
        let put-line : put_mid to k d d' ≡ put to line d =
        put_mid_is_put to k line d d' (omega arith) refl (ed ∙ ap (λ (x : List ℕ). put 0 (message_line x) (take k (drop to d))) message_is) in
        let z : to ≡ 0 + length h.text = sym q ∙ sym (zero-add (length h.text)) in
        let all : length (h.text ++ line) ≡ to + length line = length-append h.text line ∙ ap (λ (j : ℕ). j + length line) q in
        let over : put_mid to k d d' ≡ put 0 (h.text ++ line) d₀ =
        put-line ∙ ap (put to line) h.room ∙ ap (λ (j : ℕ). put j line (put 0 h.text d₀)) z
        ∙ put_more 0 h.text line d₀ (omega arith) in
        let step : r ≡ length line = er ∙ ap (λ (x : List ℕ). length (message_line x)) message_is in
        record {
          text = h.text ++ line;
          within = w.2;
          few = omega arith;
          reached = all ∙ ap (λ (j : ℕ). to + j) (sym step);
          room = over;
          long = ap length over ∙ length_put 0 (h.text ++ line) d₀ (omega arith);
          rest =
              h.rest ∙ ap (λ (x : List ℕ). h.text ++ x)
              (lines_whole (drop at l) start end e ∙ ap (λ (x : List ℕ). line ++ lines_of x) (drop-drop end at l))
              ∙ sym (append_assoc h.text line (lines_of (drop (at + end) l)));
        }

    -- what the message asks of the room behind the lines
    pub line_asks : 2 * length (take ((at + end) - (at + start)) (drop (at + start) l)) < length (take (length d - to) (drop to d))
    line_asks =
        let a = turn in
        let n : length (take ((at + end) - (at + start)) (drop (at + start) l)) ≡ end - start = ap length message_is ∙ size in
        let r : length (take (length d - to) (drop to d)) ≡ length d - to = length_part to (length d - to) d (omega arith) in
        omega arith

-- ---- how long the lines are

-- at most two bytes for each byte of the records
pub lines_most : (ms : List (List ℕ)) → AllMessages ms → length (message_lines ms) ≤ 2 * length (records_of ms)
lines_most [] a = omega arith
lines_most (m ∷ ms) a =
    let h = is_message_law m a.0 in
    let sized = h.sized in
    let one = ap length (number_small (length m) (omega (arith, size_most m))) in
    let rest = lines_most ms a.1 in
    omega (
      arith,
      length_line m,
      length-append (message_line m) (message_lines ms),
      length-append (record_of m) (records_of ms),
      length-append
          (number (length m)) m,
    )
