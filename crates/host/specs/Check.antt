-- The host's check (document 01, "The log and the host"): one container from a fresh state.
use Rattle.std.specs.Prelude.{ℕ, ◌+◌, ◌*◌, List, []}
use Rattle.cause.specs.Causes.{cause_number}
use Rattle.reader.specs.Reading.{reader_with, reading, read_room}
use Rattle.reader.specs.declared.reader.Answer.{Answer}
use Rattle.reader.specs.declared.reader.Answer.TheVariants.{Accepted, Refused}

-- 0, or cause·65,536 + place
abbrev pub code_of : Answer → ℕ
code_of (Accepted n grant) = 0
code_of (Refused c p) = cause_number c * 65_536 + p

-- the check of container c in format f with a room of n bytes
unfoldable pub check_code : ℕ → List ℕ → ℕ → ℕ
check_code f c n = code_of (reading (reader_with f []) c n).answer

-- the room ends as the reader leaves it
unfoldable pub check_room : ℕ → List ℕ → List ℕ → List ℕ
check_room f c room = read_room (reader_with f []) c room
