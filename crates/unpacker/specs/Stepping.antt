-- An input read in parts: what one call makes of the bytes at hand.
use Rattle.std.specs.Prelude.{ℕ, ◌+◌, ◌-◌, ◌*◌, ◌≤◌, ◌≡◌, Bool, true, ◌&&◌, List, [], length, take, eqb, ltb, leb, Option, Some, None}
use Rattle.lists.specs.Pick.{pick}
use Rattle.lists.specs.Parts.{put}
use Rattle.cause.specs.declared.Cause.TheVariants.{RoomTooSmall, BrokenRecord, TooLong, InvalidState}
use Rattle.record.specs.Number.{read_number}
use Rattle.record.specs.declared.number.Number.{Number}
use Rattle.reader.specs.Reading.{reader_ok, reader_with, records, reading, room_size}
use Rattle.reader.specs.declared.reader.Reader.{Reader}
use Rattle.reader.specs.declared.reader.Answer.{Answer}
use Rattle.reader.specs.declared.reader.Answer.TheVariants as answer
use Rattle.text.specs.Lines.{verdict_line}
use Rattle.text.specs.Hex.{lines_of}
use Rattle.unpacker.specs.Unpacking.{max_containers, containers_text, text_behind}
use Rattle.unpacker.specs.declared.unpack.Outcome.{Outcome}
use Rattle.unpacker.specs.declared.unpack.Outcome.TheVariants.{More, Next, Over}
use Rattle.unpacker.specs.declared.unpack.Unpacker.{Unpacker}
use Rattle.unpacker.specs.declared.unpack.Unpacked.{Unpacked}
use Rattle.container.specs.Layout.{container_size}
use Rattle.cause.specs.Checks.{Verdict, Accepted, Refused}

-- the least room: two bytes for each of the 352 that a container's records take at most
abbrev pub min_room : ℕ
min_room = 704

-- what a call comes to: the next state, the bytes used, the text, and the outcome
pub record Turn : Type 0 where
  pub next : Unpacker
  pub used : ℕ
  pub text : List ℕ
  pub outcome : Outcome

-- more bytes are asked for
abbrev pub waiting : Unpacker → Turn
waiting s = record { next = s; used = 0; text = []; outcome = More }

-- the verdict
abbrev pub over : Unpacker → Verdict → Turn
over s v = record { next = s; used = 0; text = verdict_line s.entries v; outcome = Over v }

-- the format
abbrev pub started : ℕ → ℕ → Unpacker
started f u = record { reader = reader_with f []; entries = 0; offset = u }

abbrev pub begin_by : Unpacker → Option Number → Turn
begin_by s None = over s (Refused BrokenRecord 0)
begin_by s (Some number) = pick (ltb number.value 2) (record { next = started number.value number.used; used = number.used; text = []; outcome = Next }) (over s (Refused InvalidState 0))

-- the most bytes of a number
abbrev pub most_number : ℕ
most_number = 5

-- a call before the format, which is read when so many bytes are at hand or the input has ended
abbrev pub beginning : Unpacker → List ℕ → Bool → Turn
beginning s b ended = pick (pick ended true (leb most_number (length b))) (begin_by s (read_number b)) (waiting s)

-- a container by its reading: the state behind it, and its lines
abbrev pub stepped : Unpacker → Reader → Unpacker
stepped s next = record { reader = next; entries = s.entries + 1; offset = s.offset + container_size }

abbrev pub turn_by : Unpacker → Reader → List ℕ → Answer → Turn
turn_by s next lines (answer.Accepted n grant) = record { next = stepped s next; used = container_size; text = lines; outcome = Next }
turn_by s next lines (answer.Refused c p) = over s (Refused c p)

abbrev pub container_turn : Unpacker → List ℕ → Turn
container_turn s c = turn_by s (reading s.reader c room_size).reader (lines_of (records s.reader c)) (reading s.reader c room_size).answer

-- a call behind the format: a container is read when its 256 bytes are at hand
abbrev pub running : Unpacker → List ℕ → Bool → Turn
running s b ended =
    pick (eqb (length b) 0) (pick ended (over s Accepted) (waiting s))
    (pick (leb max_containers s.entries) (over s (Refused TooLong 0))
    (pick (ltb (length b) container_size) (pick ended (over s (Refused BrokenRecord s.offset)) (waiting s))
    (container_turn s (take container_size b))))

-- a valid state behind the format: as many bytes as the format and the containers have, and a valid reader
pub record Running (s : Unpacker) : Type 0 where
  pub few : s.entries ≤ max_containers
  pub reached : s.offset ≡ container_size * s.entries + 1
  pub kept : reader_ok s.reader ≡ true

-- a valid state: before the format nothing is accepted or used
unfoldable pub valid_state : Unpacker → Bool
valid_state s =
    pick (eqb s.offset 0) (eqb s.entries 0)
    (leb s.entries max_containers && (eqb s.offset (container_size * s.entries + 1) && reader_ok s.reader))

-- one call; a state that is not valid is 19
unfoldable pub turn : Unpacker → List ℕ → Bool → Turn
turn s b ended = pick (valid_state s) (pick (eqb s.offset 0) (beginning s b ended) (running s b ended)) (over s (Refused InvalidState 0))

-- what the code answers for a turn
abbrev pub answered : Turn → Unpacked
answered t = record { unpacker = t.next; used = t.used; written = length t.text; outcome = t.outcome }

-- with a room of n bytes: one under the least is 2, and nothing is written
abbrev pub no_room : Unpacker → Unpacked
no_room s = record { unpacker = s; used = 0; written = 0; outcome = Over (Refused RoomTooSmall 0) }

abbrev pub consuming : Unpacker → List ℕ → Bool → ℕ → Unpacked
consuming s b ended n = pick (ltb n min_room) (no_room s) (answered (turn s b ended))

-- the room afterwards: the text at its front, or as it was
abbrev pub consumed_room : Unpacker → List ℕ → Bool → List ℕ → List ℕ
consumed_room s b ended room = pick (ltb (length room) min_room) room (put 0 (turn s b ended).text room)

-- before the format
abbrev pub fresh_unpacker : Unpacker
fresh_unpacker = record { reader = reader_with 0 []; entries = 0; offset = 0 }

-- the text for what is left of an input, from a state on
unfoldable pub text_from : Unpacker → List ℕ → List ℕ
text_from s l =
    pick (valid_state s)
    (pick (eqb s.offset 0) (text_behind l (read_number l)) (containers_text (max_containers - s.entries) s.reader s.entries s.offset l))
    (verdict_line s.entries (Refused InvalidState 0))
