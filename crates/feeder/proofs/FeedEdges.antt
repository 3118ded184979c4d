-- Asks at the edges of the rules, computed. Assumes nothing.
use Prim.Native.Nat.{ℕ}
use mathlib.Core.Path.{◌≡◌, refl}
use mathlib.Core.List.{List, [], ◌∷◌, ◌++◌}
use lib.ListN.{replicate}
use Rattle.cause.specs.declared.Cause.TheVariants.{BrokenRecord, TooLong, InvalidState}
use Rattle.record.specs.Number.{read_number}
use Rattle.feeder.specs.Due.{Neither, found_at}
use Rattle.feeder.specs.Feeding.{fresh_feed, call_checks, feeding, fed_part}
use Rattle.feeder.specs.declared.found.Waiting.TheVariants.{Responses, Others}
use Rattle.feeder.specs.declared.feed.Feed.{Feed}
use Rattle.feeder.specs.declared.feed.Answer.TheVariants.{Handed, Empty, Refused}
use Rattle.std.specs.Prelude.{Some}

-- the records of a Resp, a Resp2 and a ReqS, and a Resp cut short
abbrev a_resp : List ℕ
a_resp = 10 ∷ 3 ∷ replicate 9 0

abbrev a_resp2 : List ℕ
a_resp2 = 20 ∷ 4 ∷ replicate 19 0

abbrev a_req : List ℕ
a_req = 20 ∷ 1 ∷ replicate 19 0

abbrev cut_short : List ℕ
cut_short = 10 ∷ 3 ∷ []

abbrev five : List ℕ
five = a_resp ++ a_resp2 ++ a_resp ++ a_resp2 ++ a_resp

abbrev feed_at : ℕ → ℕ → ℕ → Feed
feed_at first second run = record { response = first; other = second; run = run }

-- a run of four does not hold up responses while the other list is empty, and such a response makes it 0
alone : feeding 0 five [] (feed_at 0 0 4) ≡ record { feed = feed_at 11 0 0; answer = Handed Responses }
unfolding feeding call_checks found_at read_number
alone = refl

-- both lists at their ends, where their positions are valid
ended : feeding 1 a_resp a_req (feed_at 11 21 3) ≡ record { feed = feed_at 11 21 0; answer = Empty }
unfolding feeding call_checks found_at read_number
ended = refl

-- the part has its size number
part_whole : fed_part 0 five a_req (feed_at 11 0 2) ≡ a_resp2
unfolding fed_part feeding call_checks found_at read_number
part_whole = refl

-- a broken record that is not due does no harm; one that is due is 17 at its list and offset
not_due : (feeding 0 a_resp cut_short fresh_feed).answer ≡ Handed Responses
unfolding feeding call_checks found_at read_number
not_due = refl

due_broken : feeding 0 a_resp cut_short (feed_at 11 0 2) ≡ record { feed = feed_at 11 0 2; answer = Refused (Some Others) BrokenRecord 0 }
unfolding feeding call_checks found_at read_number
due_broken = refl

-- a record in the wrong list is 17 there
wrong_list : (feeding 0 (a_resp ++ a_req) [] (feed_at 11 0 0)).answer ≡ Refused (Some Responses) BrokenRecord 11
unfolding feeding call_checks found_at read_number
wrong_list = refl

wrong_other : (feeding 0 [] a_resp2 fresh_feed).answer ≡ Refused (Some Others) BrokenRecord 0
unfolding feeding call_checks found_at read_number
wrong_other = refl

-- 19: a format that is none, a position past an end, a run of five
no_format : (feeding 2 a_resp a_req fresh_feed).answer ≡ Refused Neither InvalidState 0
unfolding feeding call_checks found_at read_number
no_format = refl

past_end : (feeding 0 a_resp a_req (feed_at 0 22 0)).answer ≡ Refused Neither InvalidState 0
unfolding feeding call_checks found_at read_number
past_end = refl

run_of_five : (feeding 0 a_resp a_req (feed_at 0 0 5)).answer ≡ Refused Neither InvalidState 0
unfolding feeding call_checks found_at read_number
run_of_five = refl

-- 18 also where the list that is too long is not due, and behind 19
other_long : (feeding 0 a_resp (replicate 4097 0) fresh_feed).answer ≡ Refused Neither TooLong 0
unfolding feeding call_checks found_at read_number
other_long = refl

long_behind : (feeding 0 a_resp (replicate 4097 0) (feed_at 0 0 5)).answer ≡ Refused Neither InvalidState 0
unfolding feeding call_checks found_at read_number
long_behind = refl
