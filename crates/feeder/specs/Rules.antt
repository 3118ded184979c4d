-- The feeder's rules as propositions (document 02, K9): each answer, with what holds where it is given.
use Rattle.std.specs.Prelude.{ℕ, ◌+◌, ◌-◌, ◌≤◌, ◌<◌, ◌≡◌, true, List, [], ◌++◌, ◌⊎◌, length, Option, Some, None}
use Rattle.lists.specs.Parts.{part}
use Rattle.cause.specs.declared.Cause.TheVariants.{BrokenRecord, TooLong, InvalidState}
use Rattle.message.specs.Heads.{type_of, is_message}
use Rattle.record.specs.Records.{record_of}
use Rattle.feeder.specs.Due.{Neither}
use Rattle.feeder.specs.declared.found.Waiting.{Waiting}
use Rattle.feeder.specs.declared.found.Waiting.TheVariants.{Responses, Others}
use Rattle.feeder.specs.declared.feed.Feed.{Feed}
use Rattle.feeder.specs.declared.feed.Answer.TheVariants.{Handed, Empty, Refused}
use Rattle.feeder.specs.declared.feed.Step.{Step}

-- "one for responses and one for everything else": a response is a Resp or a Resp2, by type
abbrev pub Belongs : Waiting → ℕ → Type 0
Belongs Responses t = (t ≡ 3) ⊎ (t ≡ 4)
Belongs Others t = (t ≡ 3 → ⊥) × (t ≡ 4 → ⊥)

-- in a list l, which is w, a whole record that belongs there stands at an offset: its size number and its message
pub record RecordAt (w : Waiting) (l : List ℕ) (at : ℕ) (bytes : List ℕ) : Type 0 where
  pub message : List ℕ
  pub whole : is_message message ≡ true
  pub belongs : Belongs w (type_of message)
  pub written : bytes ≡ record_of message
  pub within : at + length bytes ≤ length l
  pub stands : part at (length bytes) l ≡ bytes

-- "a position past a list's end or a run over four is cause 19", as a format that is none
pub record Valid (f : ℕ) (responses others : List ℕ) (s : Feed) : Type 0 where
  pub format : f < 2
  pub response : s.response ≤ length responses
  pub other : s.other ≤ length others
  pub run : s.run ≤ 4

-- no list is over 4,096 bytes
abbrev pub Short : List ℕ → List ℕ → Type 0
Short responses others = (length responses ≤ 4096) × (length others ≤ 4096)

-- the list that is due, or neither where none waits
abbrev pub Due : Option Waiting → List ℕ → List ℕ → Feed → Type 0
Due (Some Responses) responses others s = (s.response < length responses) × (s.other < length others → s.run < 4)
Due (Some Others) responses others s = (s.other < length others) × (s.response < length responses → s.run ≡ 4)
Due None responses others s = (length responses ≤ s.response) × (length others ≤ s.other)

-- the run after a response: one more while the other list waits, else 0
abbrev pub RunsOn : List ℕ → Feed → ℕ → Type 0
RunsOn others s n = (s.other < length others → n ≡ s.run + 1) × (length others ≤ s.other → n ≡ 0)

-- the answer with the next feed, and the part handed out
pub data Rule (f : ℕ) (responses others : List ℕ) (s : Feed) : Step → List ℕ → Type 0 where
  -- "cause 19, which comes first"
  not_valid : (Valid f responses others s → ⊥)
      → Rule f responses others s (record { feed = s; answer = Refused Neither InvalidState 0 }) []
  -- "then 18"
  too_long : Valid f responses others s → (Short responses others → ⊥)
      → Rule f responses others s (record { feed = s; answer = Refused Neither TooLong 0 }) []
  -- "hands out a part of one of the two lists"
  hands_response : Valid f responses others s → Short responses others → Due (Some Responses) responses others s
      → (bytes : List ℕ) → RecordAt Responses responses s.response bytes → (n : ℕ) → RunsOn others s n
      → Rule f responses others s (record { feed = record { response = s.response + length bytes; other = s.other; run = n }; answer = Handed Responses }) bytes
  hands_other : Valid f responses others s → Short responses others → Due (Some Others) responses others s
      → (bytes : List ℕ) → RecordAt Others others s.other bytes
      → Rule f responses others s (record { feed = record { response = s.response; other = s.other + length bytes; run = 0 }; answer = Handed Others }) bytes
  -- "or says that both are empty"
  both_empty : Valid f responses others s → Short responses others → Due Neither responses others s
      → Rule f responses others s (record { feed = record { response = s.response; other = s.other; run = 0 }; answer = Empty }) []
  -- "If the record due is broken or in the wrong list, that is cause 17 with the list named and the offset as place, and neither list moves"
  response_broken : Valid f responses others s → Short responses others → Due (Some Responses) responses others s
      → ((bytes : List ℕ) → RecordAt Responses responses s.response bytes → ⊥)
      → Rule f responses others s (record { feed = s; answer = Refused (Some Responses) BrokenRecord s.response }) []
  other_broken : Valid f responses others s → Short responses others → Due (Some Others) responses others s
      → ((bytes : List ℕ) → RecordAt Others others s.other bytes → ⊥)
      → Rule f responses others s (record { feed = s; answer = Refused (Some Others) BrokenRecord s.other }) []

-- bytes handed out of a list are those between the old and the new position, and there are some
pub record Between (l : List ℕ) (old new : ℕ) (bytes : List ℕ) : Type 0 where
  pub forward : old < new
  pub within : new ≤ length l
  pub long : old + length bytes ≡ new
  pub stands : part old (length bytes) l ≡ bytes

-- from one feed to the next at most one list moves, forward and within its bounds
pub record Moves (responses others : List ℕ) (s e : Feed) : Type 0 where
  pub forward : (s.response ≤ e.response) × (s.other ≤ e.other)
  pub within : (e.response ≤ length responses) × (e.other ≤ length others)
  pub one : (e.response ≡ s.response) ⊎ (e.other ≡ s.other)

-- what both lists move over
abbrev pub moved_over : List ℕ → List ℕ → Feed → Feed → List ℕ
moved_over responses others s e =
    part s.response (e.response - s.response) responses ++ part s.other (e.other - s.other) others
