-- Reading (document 01, "The writer's one way", last paragraph, and "Causes and places"): states, answers and lent room.
use Rattle.std.specs.Prelude.{ℕ, Bool, ◌&&◌, List, [], ◌∷◌, ◌++◌, length, take, drop, eqb, ltb, leb, Result, Ok, Err}
use Rattle.lists.specs.Pick.{pick}
use Rattle.lists.specs.Parts.{zeros, pad, put}
use Rattle.cause.specs.Checks.{Check, check, first_fault, when_accepted, handed, Verdict, Accepted, Refused}
use Rattle.cause.specs.declared.Fault.{Fault}
use Rattle.cause.specs.declared.Cause.TheVariants.{ContainerLength, RoomTooSmall, InvalidState}
use Rattle.container.specs.Layout.{format_of, msg_start, container_size, granules}
use Rattle.container.specs.Grants.{header_grant}
use Rattle.container.specs.declared.grant.Grant.{Grant}
use Rattle.record.specs.Records.{records_of}
use Rattle.placement.specs.Cells.{cells, carry_after, endings, carry_ok}
use Rattle.placement.specs.Checking.{container_checks}
use Rattle.reader.specs.declared.carry.Carry.{Carry}
use Rattle.reader.specs.declared.reader.Reader.{Reader}
use Rattle.reader.specs.declared.reader.Answer.{Answer}
use Rattle.reader.specs.declared.reader.Answer.TheVariants as answer
use Rattle.reader.specs.declared.reader.Step.{Step}
use Rattle.reader.specs.declared.reader.JudgeAnswer.{JudgeAnswer}
use Rattle.reader.specs.declared.reader.JudgeAnswer.TheVariants as judge
use Rattle.reader.specs.declared.reader.Judged.{Judged}

-- the bytes of a carry
abbrev pub bytes_in : Carry → List ℕ
bytes_in k = take k.len k.bytes

-- a valid carry: at most 100 bytes that may be carried, with zeros behind
abbrev pub valid_carry : Carry → Bool
valid_carry k = leb k.len 100 && (carry_ok (bytes_in k) && zeros (drop k.len k.bytes))

-- m as a carry, with zeros behind
abbrev pub carry_with : List ℕ → Carry
carry_with m = record { bytes = pad 100 m; len = length m }

-- the bytes that a reader carries
abbrev pub carried : Reader → List ℕ
carried s = bytes_in s.carry

-- a valid reader: a format, and a valid carry
abbrev pub reader_ok : Reader → Bool
reader_ok s = ltb s.format 2 && valid_carry s.carry

-- a reader of a format that carries m
abbrev pub reader_with : ℕ → List ℕ → Reader
reader_with f m = record { format = f; carry = carry_with m }

-- a reader's start: nothing carried; a format that is none is 19, beside a reader that every step refuses
abbrev pub new_reader : ℕ → Result Reader (Reader × Fault)
new_reader f = handed (pick (ltb f 2) Accepted (Refused InvalidState 0)) (reader_with f [])

-- the least room of a reading
abbrev pub room_size : ℕ
room_size = 352

-- 19, 1
abbrev pub entry_checks : Reader → ℕ → List Check
entry_checks s n = check (reader_ok s) InvalidState 0 ∷ check (eqb n container_size) ContainerLength 0 ∷ []

-- the checks of a container from a state
unfoldable pub state_checks : Reader → List ℕ → List Check
state_checks s c = container_checks (format_of s.format) c (cells (format_of s.format) c granules 0 (carried s))

-- judging: 19, 1, then the container
unfoldable pub judge_checks : Reader → List ℕ → List Check
judge_checks s c = entry_checks s (length c) ++ state_checks s c

-- reading with a room of n bytes: 19, 1, 2, then the container
unfoldable pub read_checks : Reader → List ℕ → ℕ → List Check
read_checks s c n = entry_checks s (length c) ++ (check (leb room_size n) RoomTooSmall 0 ∷ state_checks s c)

-- the reader after a container: what was read of a message that goes on is carried
unfoldable pub next_reader : Reader → List ℕ → Reader
next_reader s c =
    reader_with s.format (carry_after (format_of s.format) 0 (cells (format_of s.format) c granules 0 (carried s)) (carried s))

-- the messages that end in a container, as records
unfoldable pub records : Reader → List ℕ → List ℕ
records s c = records_of (endings (format_of s.format) 0 (cells (format_of s.format) c granules 0 (carried s)) (carried s))

-- an accepted container answers the length written and the header grant; a refusal its cause and place
abbrev pub answer_of : Verdict → ℕ → Grant → Answer
answer_of (Ok _) n grant = answer.Accepted n grant
answer_of (Err fault) n grant = answer.Refused fault.cause fault.place

-- reading with a room of n bytes: answer and next reader
unfoldable pub reading : Reader → List ℕ → ℕ → Step
reading s c n = record {
  reader = when_accepted (first_fault (read_checks s c n)) (next_reader s c) s;
  answer = answer_of (first_fault (read_checks s c n)) (length (records s c)) (header_grant (format_of s.format) c);
}

-- the room after a reading: the records at its front, or as it was
unfoldable pub read_room : Reader → List ℕ → List ℕ → List ℕ
read_room s c room = when_accepted (first_fault (read_checks s c (length room))) (put 0 (records s c) room) room

-- judging without room: an accepted container answers the header grant and MsgStart
abbrev pub judge_answer_of : Verdict → Grant → ℕ → JudgeAnswer
judge_answer_of (Ok _) grant msgstart = judge.Accepted grant msgstart
judge_answer_of (Err fault) grant msgstart = judge.Refused fault.cause fault.place

unfoldable pub judging : Reader → List ℕ → Judged
judging s c = record {
  reader = when_accepted (first_fault (judge_checks s c)) (next_reader s c) s;
  answer = judge_answer_of (first_fault (judge_checks s c)) (header_grant (format_of s.format) c) (msg_start (format_of s.format) c);
}
