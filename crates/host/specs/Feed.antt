-- The feeder from C (document 02, K9): one call over a feed of three lent numbers, two lent lists and lent room.
use Rattle.std.specs.Prelude.{ℕ, ◌+◌, ◌*◌, ◌/◌, ◌%◌, ◌≤◌, ◌≡◌, ◌&&◌, List, [], ◌∷◌, length, get_or, eqb, leb, Option, Some, None}
use Rattle.lists.specs.Parts.{put}
use Rattle.cause.specs.Causes.{cause_number}
use Rattle.cause.specs.Checks.{Check, check, first_fault, when_accepted}
use Rattle.cause.specs.declared.Cause.TheVariants.{RoomTooSmall, InvalidState}
use Rattle.feeder.specs.Feeding.{feed_ok, step_by, feeding, fed_part}
use Rattle.feeder.specs.declared.found.Waiting.{Waiting}
use Rattle.feeder.specs.declared.found.Waiting.TheVariants.{Responses, Others}
use Rattle.feeder.specs.declared.feed.Feed.{Feed}
use Rattle.feeder.specs.declared.feed.Answer.{Answer}
use Rattle.feeder.specs.declared.feed.Answer.TheVariants.{Handed, Empty, Refused}
use Rattle.feeder.specs.declared.feed.Step.{Step}

-- the feed of three numbers: the position in the response list, the position in the other one, and the run
abbrev pub feed_from : List ℕ → Feed
feed_from n = record { response = get_or n 0 0; other = get_or n 1 0; run = get_or n 2 0 }

abbrev pub numbers_of : Feed → List ℕ
numbers_of s = s.response ∷ s.other ∷ s.run ∷ []

-- both positions are numbers of 32 bits
abbrev pub PositionsFit : Feed → Type 0
PositionsFit s = (s.response ≤ 4_294_967_295) × (s.other ≤ 4_294_967_295)

-- the bytes of the longest record: a message of 120 behind its size number
abbrev pub longest_record : ℕ
longest_record = 121

-- 19, also where there are more or fewer than three numbers, then 2; for lists and room of so many bytes
unfoldable pub call_checks : ℕ → List ℕ → ℕ → ℕ → ℕ → List Check
call_checks f n responses others room =
    check (eqb (length n) 3 && feed_ok f responses others (feed_from n)) InvalidState 0
    ∷ check (leb longest_record room) RoomTooSmall 0
    ∷ []

-- the ask that a call makes
abbrev pub asking : ℕ → List ℕ → List ℕ → List ℕ → ℕ → Step
asking f n responses others room =
    step_by (first_fault (call_checks f n (length responses) (length others) room)) (feed_from n)
    (feeding f responses others (feed_from n))

-- the number of a list
abbrev pub list_number : Option Waiting → ℕ
list_number None = 0
list_number (Some Responses) = 1
list_number (Some Others) = 2

-- list·65,536 + the record's bytes, 0 where both lists are empty, or cause·16,777,216 + list·65,536 + place
abbrev pub answer_code : Answer → ℕ → ℕ
answer_code (Handed w) bytes = list_number (Some w) * 65_536 + bytes
answer_code Empty bytes = 0
answer_code (Refused w c p) bytes = cause_number c * 16_777_216 + list_number w * 65_536 + p

-- the numbers of an answer are small
abbrev pub Small : Answer → ℕ → Type 0
Small (Handed w) bytes = bytes ≤ 4096
Small Empty bytes = Unit {0}
Small (Refused w c p) bytes = p ≤ 4096

-- the answer
unfoldable pub feed_code : ℕ → List ℕ → List ℕ → List ℕ → ℕ → ℕ
feed_code f n responses others room =
    answer_code (asking f n responses others room).answer (length (fed_part f responses others (feed_from n)))

-- the three numbers afterwards
unfoldable pub feed_numbers : ℕ → List ℕ → List ℕ → List ℕ → ℕ → List ℕ
feed_numbers f n responses others room =
    when_accepted (first_fault (call_checks f n (length responses) (length others) room)) (numbers_of (feeding f responses others (feed_from n)).feed) n

-- the room afterwards: the record at its front
unfoldable pub feed_room : ℕ → List ℕ → List ℕ → List ℕ → List ℕ → List ℕ
feed_room f n responses others room =
    when_accepted (first_fault (call_checks f n (length responses) (length others) (length room))) (put 0 (fed_part f responses others (feed_from n)) room) room

-- what a code tells: its highest byte is the cause, 0 where nothing is refused, the next one the list, and the rest the record's bytes or
-- the place
abbrev pub Told : Answer → ℕ → ℕ → Type 0
Told (Handed w) bytes code = (code / 16_777_216 ≡ 0) × (code / 65_536 % 256 ≡ list_number (Some w)) × (code % 65_536 ≡ bytes)
Told Empty bytes code = code ≡ 0
Told (Refused w c p) bytes code = (code / 16_777_216 ≡ cause_number c) × (code / 65_536 % 256 ≡ list_number w) × (code % 65_536 ≡ p)
