-- The text printed for an input, a format and containers: the messages as lines of hex, and then the verdict.
use Rattle.std.specs.Prelude.{ℕ, zero, suc, ◌+◌, List, [], ◌++◌, length, take, drop, eqb, ltb, Option, Some, None}
use Rattle.lists.specs.Pick.{pick}
use Rattle.cause.specs.declared.Cause.TheVariants.{BrokenRecord, TooLong, InvalidState}
use Rattle.record.specs.Number.{read_number}
use Rattle.record.specs.declared.number.Number.{Number}
use Rattle.reader.specs.Reading.{reader_with, records, reading, room_size}
use Rattle.reader.specs.declared.reader.Reader.{Reader}
use Rattle.reader.specs.declared.reader.Answer.{Answer}
use Rattle.reader.specs.declared.reader.Answer.TheVariants as answer
use Rattle.text.specs.Lines.{verdict_line}
use Rattle.text.specs.Hex.{lines_of}
use Rattle.container.specs.Layout.{container_size}
use Rattle.cause.specs.Checks.{Accepted, Refused}

-- as many containers as have an offset in 64 bits
abbrev pub max_containers : ℕ
max_containers = 72_057_594_037_927_935

-- the lines of an accepted container and what follows behind them, or the verdict behind e containers
abbrev pub lines_then : ℕ → Answer → List ℕ → List ℕ → List ℕ
lines_then e (answer.Accepted n grant) lines rest = lines ++ rest
lines_then e (answer.Refused c p) lines rest = verdict_line e (Refused c p)

-- the containers l at offset o behind e others, at most k: 17 for one that is cut short, 18 for one too many
unfoldable pub containers_text : ℕ → Reader → ℕ → ℕ → List ℕ → List ℕ
containers_text zero s e o l = verdict_line e (pick (eqb (length l) 0) Accepted (Refused TooLong 0))
containers_text (suc k) s e o l =
    pick (eqb (length l) 0) (verdict_line e Accepted)
    (pick (ltb (length l) container_size) (verdict_line e (Refused BrokenRecord o))
    (lines_then e (reading s (take container_size l) room_size).answer (lines_of (records s (take container_size l)))
    (containers_text k (reading s (take container_size l) room_size).reader (e + 1) (o + container_size) (drop container_size l))))

-- by the number at the front of the input: 17, 19, then the containers behind it
abbrev pub text_behind : List ℕ → Option Number → List ℕ
text_behind l None = verdict_line 0 (Refused BrokenRecord 0)
text_behind l (Some number) = pick (ltb number.value 2) (containers_text max_containers (reader_with number.value []) 0 number.used (drop number.used l)) (verdict_line 0 (Refused InvalidState 0))

unfoldable pub unpack_text : List ℕ → List ℕ
unpack_text l = text_behind l (read_number l)
