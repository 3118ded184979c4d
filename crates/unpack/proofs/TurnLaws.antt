-- One turn of the program: what is at hand behind it, and that turns come to an end. Assumes nothing.
use Prim.Native.Nat.{ℕ, ◌+◌, ◌-◌, ◌*◌, ◌≤◌, ◌<◌}
use mathlib.Core.Path.{◌≡◌, refl, sym, ap, ◌∙◌, subst}
use mathlib.Core.Bool.{Bool, true, false}
use mathlib.Core.List.{List, [], ◌++◌}
use native.Mathlib.Omega.{arith}
use lib.ListN.{length, take, drop, length-append, length-drop}
use lib.Seq.{take-add, drop_at, drop-drop, length-take-le}
use lib.Dec.{eqb, ltb, leb}
use borrow.Author.Tests.{le-ltb}
use Rattle.std.specs.Prelude.{Option, None, Some, Result, Ok, Err, IsErr}
use Rattle.std.specs.declared.io.Error.{Error}
use Rattle.lists.specs.Pick.{pick}
use Rattle.lists.specs.Parts.{part}
use Rattle.lists.proofs.PartLaws.{length_part}
use Rattle.lists.proofs.PickLaws.{pick_both}
use Rattle.cause.specs.declared.Cause.TheVariants.{BrokenRecord, TooLong, InvalidState}
use Rattle.container.specs.Layout.{container_size}
use Rattle.container.specs.declared.grant.Grant.{Grant}
use Rattle.record.specs.Number.{read_number}
use Rattle.record.specs.declared.number.Number.{Number}
use Rattle.reader.specs.Reading.{records, reading, room_size}
use Rattle.reader.specs.declared.reader.Reader.{Reader}
use Rattle.reader.specs.declared.reader.Answer.{Answer}
use Rattle.reader.specs.declared.reader.Answer.TheVariants as answer
use Rattle.text.specs.Hex.{lines_of}
use Rattle.unpacker.specs.Unpacking.{max_containers}
use Rattle.unpacker.specs.Stepping.{min_room, turn, answered, no_room, consuming, waiting, over, begin_by, most_number, beginning, turn_by, running, valid_state}
use Rattle.unpacker.specs.Stepping.{Turn as Call}
use Rattle.unpacker.specs.Cutting.{left_by}
use Rattle.unpacker.specs.declared.unpack.Unpacker.{Unpacker}
use Rattle.unpacker.specs.declared.unpack.Unpacked.{Unpacked}
use Rattle.unpacker.specs.declared.unpack.Outcome.{Outcome}
use Rattle.unpacker.specs.declared.unpack.Outcome.TheVariants as outcome
use Rattle.unpacker.proofs.CutTheorem.{calls_left, Steps, stops, goes, waits, turn_steps, turn_within}
use Rattle.unpack.specs.Turns.{held, AtHand, Filled, got, end, Follows, Turned, Taken}
use Rattle.unpack.specs.declared.Window.{Window}
use Rattle.unpack.specs.declared.Turn.{Turn}
use Rattle.cause.specs.Checks.{Verdict, Accepted, Refused}

-- ---- a call that asks for more gives no text

record Quiet (t : Call) : Type 0 where
  none : t.outcome ≡ outcome.More → t.text ≡ []

over_none : (s : Unpacker) (v : Verdict) → (over s v).outcome ≡ outcome.More → (over s v).text ≡ []
over_none s v e = cc

over_quiet : (s : Unpacker) (v : Verdict) → Quiet (over s v)
over_quiet s v = record { none = over_none s v }

waiting_quiet : (s : Unpacker) → Quiet (waiting s)
waiting_quiet s = record { none = λ e. refl }

ended_quiet : (s : Unpacker) (ended : Bool) (v : Verdict) → Quiet (pick ended (over s v) (waiting s))
ended_quiet s ended v = pick_both Quiet ended (over_quiet s v) (waiting_quiet s)

begin_quiet : (s : Unpacker) (n : Option Number) → Quiet (begin_by s n)
begin_quiet s None = over_quiet s (Refused BrokenRecord 0)
begin_quiet s (Some number) = pick_both Quiet (ltb number.value 2) (record { none = λ e. refl }) (over_quiet s (Refused InvalidState 0))

accepted_none : (s : Unpacker) (next : Reader) (lines : List ℕ) (n : ℕ) (g : Grant)
    → (turn_by s next lines (answer.Accepted n g)).outcome ≡ outcome.More → lines ≡ []
accepted_none s next lines n g e = cc

container_quiet : (s : Unpacker) (next : Reader) (lines : List ℕ) (a : Answer) → Quiet (turn_by s next lines a)
container_quiet s next lines (answer.Accepted n g) = record { none = accepted_none s next lines n g }
container_quiet s next lines (answer.Refused c p) = over_quiet s (Refused c p)

beginning_quiet : (s : Unpacker) (b : List ℕ) (ended : Bool) → Quiet (beginning s b ended)
beginning_quiet s b ended =
    pick_both Quiet (pick ended true (leb most_number (length b))) (begin_quiet s (read_number b)) (waiting_quiet s)

running_quiet : (s : Unpacker) (b : List ℕ) (ended : Bool) → Quiet (running s b ended)
running_quiet s b ended =
    let c = take container_size b in
    pick_both Quiet (eqb (length b) 0) (ended_quiet s ended Accepted)
    (pick_both Quiet (leb max_containers s.entries) (over_quiet s (Refused TooLong 0))
    (pick_both Quiet (ltb (length b) container_size) (ended_quiet s ended (Refused BrokenRecord s.offset))
    (container_quiet s (reading s.reader c room_size).reader (lines_of (records s.reader c)) (reading s.reader c room_size).answer)))

quiet : (s : Unpacker) (b : List ℕ) (ended : Bool) → Quiet (turn s b ended)
unfolding turn
quiet s b ended =
    pick_both Quiet (valid_state s) (pick_both Quiet (eqb s.offset 0) (beginning_quiet s b ended) (running_quiet s b ended))
    (over_quiet s (Refused InvalidState 0))

-- ---- one turn

-- what is left of a part behind its first u bytes
part_left : (buf : List ℕ) (at have u : ℕ) → at ≤ have → have ≤ length buf → u ≤ have - at
    → part (at + u) (have - (at + u)) buf ≡ drop u (part at (have - at) buf)
part_left buf at have u inside within few =
    let n : have - at ≡ u + (have - (at + u)) = omega arith in
    let x = drop at buf in
    let front : length (take u x) ≡ u = length-take-le u x (omega (arith, length-drop at buf)) in
    sym (ap (λ (k : ℕ). drop u (take k x)) n ∙ ap (drop u) (take-add u (have - (at + u)) x)
    ∙ drop_at (take u x) (take (have - (at + u)) (drop u x)) u front
    ∙ ap (take (have - (at + u))) (drop-drop u at buf))

-- a call on what a window holds
module _ (s : Unpacker) (w : Window) (buf room : List ℕ) (ok : (w.at ≤ w.have) × (w.have ≤ length buf) × (min_room ≤ length room))
    (r : Unpacked) (er : r ≡ consuming s (held w buf) w.ended (length room)) where
  abbrev b : List ℕ
  b = held w buf

  abbrev call : Call
  call = turn s b w.ended

  large : ltb (length room) min_room ≡ false
  large = le-ltb (length room) min_room ok.2

  made : r ≡ answered call
  made = er ∙ ap (λ (t : Bool). pick t (no_room s) (answered call)) large

  used_few : r.used ≤ w.have - w.at
  used_few =
      let e : r.used ≡ call.used = ap (λ (x : Unpacked). x.used) made in
      let n : length b ≡ w.have - w.at = length_part w.at (w.have - w.at) buf (omega arith) in
      omega (arith, turn_within s b w.ended)

  pub used_inside : (w.at + r.used ≤ w.have) × (w.have ≤ length buf)
  used_inside = (omega (arith, used_few), ok.1)

  left : part (w.at + r.used) (w.have - (w.at + r.used)) buf ≡ left_by call b
  left = part_left buf w.at w.have r.used ok.0 ok.1 used_few ∙ ap (λ (x : Unpacked). drop x.used b) made

  outcome_is : r.outcome ≡ call.outcome
  outcome_is = ap (λ (x : Unpacked). x.outcome) made

  abbrev rest : List ℕ
  rest = part (w.at + r.used) (w.have - (w.at + r.used)) buf

  -- the turn that a window behind the call makes
  pub turned : (after : List ℕ) (o : Option Window) → Follows rest w.ended after o r.outcome
      → Turned s b w.ended after (record { unpacker = r.unpacker; written = r.written; window = o })
  turned after o f =
      record {
        next = ap (λ (x : Unpacked). x.unpacker) made;
        written = ap (λ (x : Unpacked). x.written) made;
        window =
            subst (Follows (left_by call b) w.ended after o) outcome_is
            (subst (λ (x : List ℕ). Follows x w.ended after o r.outcome) left f);
      }

  -- a read that has failed
  pub unread : (after : List ℕ) (a : Result Turn Error) → IsErr a → r.outcome ≡ outcome.More → Taken s b w.ended after a
  unread after (Ok t) e asks = let no : false ≡ true = e in cc
  unread after (Err why) e asks =
      let more : call.outcome ≡ outcome.More = sym outcome_is ∙ asks in (more, (quiet s b w.ended).none more)

-- ---- turns come to an end

-- 1 before the end of the input is seen
abbrev flag : Bool → ℕ
flag e = pick e 0 1

-- how far the input is from its end: the calls that may still go on, the bytes that the buffer may still get, and the end
abbrev pub distance : Unpacker → Window → ℕ
distance s w = calls_left s * 131074 + (2 * (65536 - (w.have - w.at)) + flag w.ended)

at_hand : (w : Window) (buf x : List ℕ) → AtHand w buf x → w.have - w.at ≡ length x
at_hand w buf x h =
    let a = h.inside in
    let c = h.within in
    sym (length_part w.at (w.have - w.at) buf (omega arith)) ∙ ap length h.bytes

-- a turn that goes on: a window in the buffer, nearer to the end
pub record Nearer (s : Unpacker) (w : Window) (buf : List ℕ) (u : Unpacker) (x : Window) : Type 0 where
  pub inside : x.at ≤ x.have
  pub within : x.have ≤ length buf
  pub less : distance u x < distance s w

flag_most : (e : Bool) → flag e ≤ 1
flag_most true = omega arith
flag_most false = omega arith

module _ (s : Unpacker) (w : Window) (buf after : List ℕ) (r : Turn) (inside : w.at ≤ w.have) (within : w.have ≤ length buf)
    (size : length after ≡ 65536) (h : Turned s (held w buf) w.ended after r) (v : Window) (on : r.window ≡ Some v) where
  abbrev x : List ℕ
  x = held w buf

  abbrev t : Call
  t = turn s x w.ended

  long : length x ≡ w.have - w.at
  long = length_part w.at (w.have - w.at) buf (omega arith)

  window : (o : Outcome) → t.outcome ≡ o → Follows (left_by t x) w.ended after (Some v) o
  window o e =
      subst (λ (y : Option Window). Follows (left_by t x) w.ended after y o) on
      (subst (Follows (left_by t x) w.ended after r.window) e h.window)

  by_filled : Filled (left_by t x) after v → t.next ≡ s → t.used ≡ 0 → w.ended ≡ false → Nearer s w after r.unpacker v
  by_filled (got p some hand e) stays none going =
      let n = at_hand v after (left_by t x ++ p) hand in
      let here : calls_left r.unpacker ≡ calls_left s = ap calls_left (h.next ∙ stays) in
      let e1 : flag v.ended ≡ 1 = ap flag e in
      let e2 : flag w.ended ≡ 1 = ap flag going in
      let c = hand.within in
      record {
        inside = hand.inside;
        within = c;
        less = omega (arith, length-append (left_by t x) p, length-drop t.used x, long);
      }
  by_filled (end hand e) stays none going =
      let n = at_hand v after (left_by t x) hand in
      let here : calls_left r.unpacker ≡ calls_left s = ap calls_left (h.next ∙ stays) in
      let e1 : flag v.ended ≡ 0 = ap flag e in
      let e2 : flag w.ended ≡ 1 = ap flag going in
      record { inside = hand.inside; within = hand.within; less = omega (arith, length-drop t.used x, long) }

  by_steps : Steps s x w.ended t → Nearer s w after r.unpacker v
  by_steps (stops verdict e none) = let gone : Some v ≡ None = window (outcome.Over verdict) e in cc
  by_steps (goes e some few fewer) =
      let hand = (window outcome.Next e).0 in
      let here : calls_left r.unpacker ≡ calls_left t.next = ap calls_left h.next in
      record { inside = hand.inside; within = hand.within; less = omega (arith, flag_most v.ended) }
  by_steps (waits e stays none going) = by_filled (window outcome.More e) stays none going

  pub nearer : Nearer s w after r.unpacker v
  nearer = by_steps (turn_steps s x w.ended)
