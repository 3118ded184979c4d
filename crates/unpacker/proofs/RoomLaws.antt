-- The text of a call fits in the least room. Assumes nothing.
use Prim.Native.Nat.{ℕ, ◌+◌, ◌≤◌}
use mathlib.Core.Path.{◌≡◌, refl, sym, ap, subst, ◌∙◌}
use mathlib.Core.Bool.{Bool, true}
use mathlib.Core.List.{List, ◌++◌}
use native.Mathlib.Omega.{arith}
use lib.ListN.{length, take, drop}
use lib.Dec.{eqb, ltb, leb}
use Rattle.lists.specs.Pick.{pick}
use Rattle.lists.specs.Parts.{put}
use Rattle.lists.proofs.PickLaws.{pick_both}
use Rattle.cause.specs.declared.Cause.TheVariants.{BrokenRecord, InvalidState, TooLong}
use Rattle.record.specs.Number.{read_number}
use Rattle.record.specs.declared.number.Number.{Number}
use Rattle.reader.specs.Reading.{records, reading}
use Rattle.reader.specs.declared.reader.Answer.{Answer}
use Rattle.reader.specs.declared.reader.Answer.TheVariants as answer
use Rattle.text.specs.Hex.{lines_of}
use Rattle.text.proofs.WriteLaws.{verdict_most}
use Rattle.text.proofs.MessageLaws.{lines_most}
use Rattle.unpacker.specs.Unpacking.{max_containers}
use Rattle.unpacker.specs.Stepping.{min_room, most_number, Turn, waiting, over, begin_by, turn_by, turn, consuming, consumed_room}
use Rattle.unpacker.specs.declared.unpack.Unpacker.{Unpacker}
use Rattle.unpacker.specs.declared.unpack.Unpacked.{Unpacked}
use Rattle.unpacker.proofs.TurnLaws.{Made, called}
use Rattle.std.proofs.lemmas.List.{append_assoc, length-take, take-append-drop, drop-append-le}
use Rattle.unpacker.proofs.ReadingLaws.{done_few, done_lines}
use Rattle.unpacker.proofs.StateLaws.{turn_bad, turn_new, turn_running, State, bad, new, runs, state_of}
use Rattle.cause.specs.Checks.{Verdict, Accepted, Refused}
use Rattle.std.specs.Prelude.{Option, Some, None}

abbrev Fits : Turn → Type 0
Fits t = length t.text ≤ min_room

over_fits : (s : Unpacker) (v : Verdict) → Fits (over s v)
over_fits s v = omega (arith, verdict_most s.entries v)

ended_fits : (s : Unpacker) (ended : Bool) (v : Verdict) → Fits (pick ended (over s v) (waiting s))
ended_fits s ended v = pick_both Fits ended (over_fits s v) (omega arith)

begin_fits : (s : Unpacker) (r : Option Number) → Fits (begin_by s r)
begin_fits s None = over_fits s (Refused BrokenRecord 0)
begin_fits s (Some number) = pick_both Fits (ltb number.value 2) (omega arith) (over_fits s (Refused InvalidState 0))

read_fits : (s : Unpacker) (c : List ℕ) (a : Answer) → (reading s.reader c 352).answer ≡ a
    → Fits (turn_by s (reading s.reader c 352).reader (lines_of (records s.reader c)) a)
read_fits s c (answer.Accepted n g) e =
    let h = done_lines s.reader c n g e in
    omega (arith, ap length h.lines, ap length h.handed, lines_most h.messages h.all, done_few s.reader c n g e)
read_fits s c (answer.Refused q p) e = over_fits s (Refused q p)

fits_by : (s : Unpacker) (b : List ℕ) (ended : Bool) → State s → Fits (turn s b ended)
fits_by s b ended (bad e) = subst Fits (sym (turn_bad s b ended e)) (over_fits s (Refused InvalidState 0))
fits_by s b ended (new good z) =
    subst Fits (sym (turn_new s b ended good z))
    (pick_both Fits (pick ended true (leb most_number (length b))) (begin_fits s (read_number b)) (omega arith))
fits_by s b ended (runs r) =
    subst Fits (sym (turn_running s b ended r))
    (pick_both Fits (eqb (length b) 0) (ended_fits s ended Accepted)
    (pick_both Fits (leb max_containers s.entries) (over_fits s (Refused TooLong 0))
    (pick_both Fits (ltb (length b) 256) (ended_fits s ended (Refused BrokenRecord s.offset))
    (read_fits s (take 256 b) (reading s.reader (take 256 b) 352).answer refl))))

pub turn_fits : (s : Unpacker) (b : List ℕ) (ended : Bool) → length (turn s b ended).text ≤ min_room
turn_fits s b ended = fits_by s b ended (state_of s)

-- what is left of the front, and what lies behind it
front_rest : (k n : ℕ) (room : List ℕ) → k ≤ n → n ≤ length room → drop k (take n room) ++ drop n room ≡ drop k room
front_rest k n room h long =
    sym (drop-append-le k (take n room) (drop n room) (omega (arith, length-take n room))) ∙ ap (drop k) (take-append-drop n room)

-- a text that fits in the front of a room, written there, is written to the room
front_written : (n : ℕ) (x room front : List ℕ) → length x ≤ n → n ≤ length room → front ≡ put 0 x (take n room) → front ++ drop n room ≡ put 0 x room
front_written n x room front h long e =
    ap (λ (l : List ℕ). l ++ drop n room) e
    ∙ append_assoc x (drop (0 + length x) (take n room)) (drop n room)
    ∙ ap (λ (l : List ℕ). x ++ l) (front_rest (0 + length x) n room (omega arith) long)

-- a call whose turn is made in the front of its room
pub called_front : (s : Unpacker) (b : List ℕ) (ended : Bool) (room before front : List ℕ) (r : Unpacked) → min_room ≤ length room
    → before ≡ take min_room room → (t : Turn) → turn s b ended ≡ t → Made t r before front
    → (r ≡ consuming s b ended (length room)) × (front ++ drop min_room room ≡ consumed_room s b ended room)
called_front s b ended room before front r h q t e m =
    called s b ended room (front ++ drop min_room room) r h t e
    (m.0, front_written min_room t.text room front (subst Fits e (turn_fits s b ended)) h (m.1 ∙ ap (put 0 t.text) q))
