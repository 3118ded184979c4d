-- Two waiting lists (document 02, K9): which list is due, and the record at its position.
use Rattle.std.specs.Prelude.{ℕ, ◌+◌, Bool, ◌&&◌, ◌||◌, not, List, drop, ltb, leb, Some, None, Option}
use Rattle.lists.specs.Pick.{pick}
use Rattle.message.specs.Heads.{type_of}
use Rattle.message.specs.Places.{responses_by}
use Rattle.record.specs.Records.{first_of, message_of}
use Rattle.record.specs.declared.list.First.{First}
use Rattle.record.specs.declared.list.First.TheVariants.{Empty, Bad, Whole}
use Rattle.feeder.specs.declared.found.Waiting.{Waiting}
use Rattle.feeder.specs.declared.found.Waiting.TheVariants.{Responses, Others}
use Rattle.feeder.specs.declared.feed.Feed.{Feed}

-- no list
abbrev pub Neither : Option Waiting
Neither = None

-- messages of a type are responses where they count as such in their group
abbrev pub response_by : ℕ → Bool
response_by t = ltb 0 (responses_by t)

-- responses wait in the response list, everything else in the other one
abbrev pub belongs_by : Waiting → ℕ → Bool
belongs_by Responses t = response_by t
belongs_by Others t = not (response_by t)

-- a list, and the position in it
abbrev pub list_of : Waiting → List ℕ → List ℕ → List ℕ
list_of Responses responses others = responses
list_of Others responses others = others

abbrev pub position_of : Waiting → Feed → ℕ
position_of Responses s = s.response
position_of Others s = s.other

-- the most responses in a row while the other list waits
abbrev pub longest_run : ℕ
longest_run = 4

-- "The response list goes first, but after four responses in a row while the other list waits, the other list is served": for lists of
-- so many bytes, each of which waits while its position is below its end
abbrev pub due_of : ℕ → ℕ → Feed → Option Waiting
due_of responses others s =
    pick (ltb s.other others && (leb longest_run s.run || not (ltb s.response responses))) (Some Others)
    (pick (ltb s.response responses) (Some Responses) Neither)

-- the first record behind a position, if it is whole, its head right, and it belongs in the list
abbrev pub judged : Waiting → List ℕ → ℕ → First → Option ℕ
judged w l at Empty = None
judged w l at Bad = None
judged w l at (Whole start end) = pick (belongs_by w (type_of (message_of (drop at l) start end))) (Some (at + end)) None

unfoldable pub found_at : Waiting → List ℕ → ℕ → Option ℕ
found_at w l at = judged w l at (first_of (drop at l))
