-- Asking for the next record (document 02, K9): the answer with the next feed, and the part of a list that is handed out.
use Rattle.std.specs.Prelude.{ℕ, ◌+◌, ◌-◌, Bool, ◌&&◌, List, [], ◌∷◌, length, ltb, leb, Ok, Err, Some, None, Option}
use Rattle.lists.specs.Pick.{pick}
use Rattle.lists.specs.Parts.{part}
use Rattle.cause.specs.Checks.{Check, check, first_fault, Verdict}
use Rattle.cause.specs.declared.Cause.{Cause}
use Rattle.cause.specs.declared.Cause.TheVariants.{BrokenRecord, TooLong, InvalidState}
use Rattle.feeder.specs.Due.{Neither, list_of, position_of, longest_run, due_of, found_at}
use Rattle.feeder.specs.declared.found.Waiting.{Waiting}
use Rattle.feeder.specs.declared.found.Waiting.TheVariants.{Responses, Others}
use Rattle.feeder.specs.declared.feed.Feed.{Feed}
use Rattle.feeder.specs.declared.feed.Answer.{Answer}
use Rattle.feeder.specs.declared.feed.Answer.TheVariants as ask
use Rattle.feeder.specs.declared.feed.Step.{Step}
use Rattle.record.specs.Records.{longest_list}

-- one above the largest format, and the most bytes of a list
abbrev pub formats : ℕ
formats = 2

-- nothing was handed out yet
abbrev pub fresh_feed : Feed
fresh_feed = record { response = 0; other = 0; run = 0 }

-- a valid ask: a format, no position past its list's end, and a run of at most four; for lists of so many bytes
abbrev pub feed_ok : ℕ → ℕ → ℕ → Feed → Bool
feed_ok f responses others s =
    ltb f formats && (leb s.response responses && (leb s.other others && leb s.run longest_run))

-- 19, then 18 for either list
unfoldable pub call_checks : ℕ → ℕ → ℕ → Feed → List Check
call_checks f responses others s =
    check (feed_ok f responses others s) InvalidState 0
    ∷ check (leb responses longest_list) TooLong 0
    ∷ check (leb others longest_list) TooLong 0
    ∷ []

-- a refusal: neither list moves, and the run stays
abbrev pub refusing : Feed → Option Waiting → Cause → ℕ → Step
refusing s w c p = record { feed = s; answer = ask.Refused w c p }

-- "The run counts responses (a Resp2 is one) handed out while the other list waits"
abbrev pub run_after : ℕ → Feed → ℕ
run_after others s = pick (ltb s.other others) (s.run + 1) 0

-- the response list is due, with this record at its position
abbrev pub response_step : ℕ → Feed → Option ℕ → Step
response_step others s None = refusing s (Some Responses) BrokenRecord s.response
response_step others s (Some end) = record {
  feed = record { response = end; other = s.other; run = run_after others s };
  answer = ask.Handed Responses;
}

-- the other list is due; "any other answer but a refusal makes it 0"
abbrev pub other_step : Feed → Option ℕ → Step
other_step s None = refusing s (Some Others) BrokenRecord s.other
other_step s (Some end) = record { feed = record { response = s.response; other = end; run = 0 }; answer = ask.Handed Others }

-- a list is due, with this record at its position
abbrev pub due_step : Waiting → ℕ → Feed → Option ℕ → Step
due_step Responses others s found = response_step others s found
due_step Others others s found = other_step s found

-- both lists are empty
abbrev pub empty_step : Feed → Step
empty_step s = record { feed = record { response = s.response; other = s.other; run = 0 }; answer = ask.Empty }

-- a list is due
abbrev pub step_of : Option Waiting → List ℕ → List ℕ → Feed → Step
step_of (Some Responses) responses others s = response_step (length others) s (found_at Responses responses s.response)
step_of (Some Others) responses others s = other_step s (found_at Others others s.other)
step_of None responses others s = empty_step s

-- a verdict on the ask, and what the list due gives where it is an acceptance
abbrev pub step_by : Verdict → Feed → Step → Step
step_by (Ok _) s t = t
step_by (Err fault) s t = refusing s Neither fault.cause fault.place

-- an ask: the answer and the next feed
unfoldable pub feeding : ℕ → List ℕ → List ℕ → Feed → Step
feeding f responses others s =
    step_by (first_fault (call_checks f (length responses) (length others) s)) s
    (step_of (due_of (length responses) (length others) s) responses others s)

-- the list that an answer hands a record out of
abbrev pub list_served : Answer → Option Waiting
list_served (ask.Handed w) = Some w
list_served ask.Empty = Neither
list_served (ask.Refused w c p) = Neither

-- what a step hands out: the bytes between the old and the new position of the list that it serves
abbrev pub passed : List ℕ → List ℕ → Feed → Step → Option Waiting → List ℕ
passed responses others s t (Some w) = part (position_of w s) (position_of w t.feed - position_of w s) (list_of w responses others)
passed responses others s t None = []

unfoldable pub fed_part : ℕ → List ℕ → List ℕ → Feed → List ℕ
fed_part f responses others s =
    passed responses others s (feeding f responses others s) (list_served (feeding f responses others s).answer)
