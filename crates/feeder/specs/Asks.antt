-- Sequences of asks (document 02, K9): who is served when, and what is handed out of each list.
use Rattle.std.specs.Prelude.{ℕ, suc, ◌+◌, ◌-◌, ◌≡◌, Bool, true, false, List, [], ◌∷◌, ◌++◌, map, length, drop, Some, None}
use Rattle.lists.specs.Parts.{IsBytes}
use Rattle.message.specs.Heads.{type_of}
use Rattle.record.specs.Records.{record_of, records_of, AllMessages}
use Rattle.feeder.specs.Due.{list_of}
use Rattle.feeder.specs.Feeding.{feeding, fed_part}
use Rattle.feeder.specs.Rules.{Belongs, RecordAt, Valid, Short}
use Rattle.feeder.specs.declared.found.Waiting.{Waiting}
use Rattle.feeder.specs.declared.found.Waiting.TheVariants.{Responses, Others}
use Rattle.feeder.specs.declared.feed.Feed.{Feed}
use Rattle.feeder.specs.declared.feed.Answer.{Answer}
use Rattle.feeder.specs.declared.feed.Answer.TheVariants.{Handed, Empty, Refused}
use Rattle.feeder.specs.declared.feed.Step.{Step}

-- the two waiting lists at one time
pub record Lists : Type 0 where
  pub responses : List ℕ
  pub others : List ℕ

abbrev pub bytes_of : Waiting → Lists → List ℕ
bytes_of w l = list_of w l.responses l.others

-- an ask's answer with the next feed, and the part handed out
pub record Turn : Type 0 where
  pub step : Step
  pub bytes : List ℕ

-- "the same lists, at most lengthened at the end"
pub record Lengthened (a b : Lists) : Type 0 where
  pub more_responses : List ℕ
  pub more_others : List ℕ
  pub responses : b.responses ≡ a.responses ++ more_responses
  pub others : b.others ≡ a.others ++ more_others

-- the answer is a refusal
abbrev pub is_refused : Answer → Bool
is_refused (Handed w) = false
is_refused Empty = false
is_refused (Refused w c p) = true

-- an ask that is not refused
pub record Asks (f : ℕ) (l : Lists) (s : Feed) (t : Turn) : Type 0 where
  pub step : feeding f l.responses l.others s ≡ t.step
  pub bytes : fed_part f l.responses l.others s ≡ t.bytes
  pub accepted : is_refused t.step.answer ≡ false
  pub of_bytes : IsBytes l.responses × IsBytes l.others

-- "each ask hands in the positions and run last answered and the same lists, at most lengthened at the end, and none is refused": from
-- the lists and the feed at the start to those at the end
pub data Asking (f : ℕ) : Lists → Feed → List Turn → Lists → Feed → Type 0 where
  none : {l : Lists} {s : Feed} → Asking f l s [] l s
  then : {a b z : Lists} {s e : Feed} {t : Turn} {ts : List Turn}
      → Lengthened a b → Asks f b s t → Asking f b t.step.feed ts z e → Asking f a s (t ∷ ts) z e

-- n asks with the same lists
pub record Asked (f : ℕ) (l : Lists) (s : Feed) (n : ℕ) : Type 0 where
  pub turns : List Turn
  pub last : Feed
  pub asks : Asking f l s turns l last
  pub long : length turns ≡ n

-- one of the first n asks hands a record out of the list w, and the first that does hands out these bytes
pub data Within (w : Waiting) (bytes : List ℕ) : ℕ → List Turn → Type 0 where
  at_once : {n : ℕ} {t : Turn} {ts : List Turn} → t.step.answer ≡ Handed w → t.bytes ≡ bytes → Within w bytes (suc n) (t ∷ ts)
  later : {n : ℕ} {t : Turn} {ts : List Turn} → (t.step.answer ≡ Handed w → ⊥) → Within w bytes n ts → Within w bytes (suc n) (t ∷ ts)

-- the record at an offset of a list, which is w, is served within n asks
pub record Served (w : Waiting) (n : ℕ) (l : List ℕ) (at : ℕ) (ts : List Turn) : Type 0 where
  pub bytes : List ℕ
  pub waited : RecordAt w l at bytes
  pub within : Within w bytes n ts

-- the parts that asks handed out of the list w, in order
pub data Parts (w : Waiting) : List Turn → List (List ℕ) → Type 0 where
  no_part : Parts w [] []
  one_part : {t : Turn} {ts : List Turn} {ps : List (List ℕ)} → t.step.answer ≡ Handed w → Parts w ts ps → Parts w (t ∷ ts) (t.bytes ∷ ps)
  passed_by : {t : Turn} {ts : List Turn} {ps : List (List ℕ)} → (t.step.answer ≡ Handed w → ⊥) → Parts w ts ps → Parts w (t ∷ ts) ps

-- every message belongs in the list w
abbrev pub AllBelong : Waiting → List (List ℕ) → Type 0
AllBelong w [] = Unit {0}
AllBelong w (m ∷ ms) = Belongs w (type_of m) × AllBelong w ms

-- what was handed out of the list w: its records from one position to another, in order and each once
pub record HandedOut (w : Waiting) (l : List ℕ) (from to : ℕ) (ts : List Turn) : Type 0 where
  pub messages : List (List ℕ)
  pub all : AllMessages messages
  pub belong : AllBelong w messages
  pub parts : Parts w ts (map record_of messages)
  pub in_order : drop from l ≡ records_of messages ++ drop to l
  pub long : from + length (records_of messages) ≡ to

-- parts one behind the other
abbrev pub joined : List (List ℕ) → List ℕ
joined [] = []
joined (p ∷ ps) = p ++ joined ps

-- from an offset on, a list, which is w, holds whole records that belong there and nothing else
pub record Rest (w : Waiting) (l : List ℕ) (at : ℕ) : Type 0 where
  pub messages : List (List ℕ)
  pub all : AllMessages messages
  pub belong : AllBelong w messages
  pub records : drop at l ≡ records_of messages

-- a valid feed of two lists that are not too long, with nothing wrong in what waits
pub record Faultless (f : ℕ) (responses others : List ℕ) (s : Feed) : Type 0 where
  pub valid : Valid f responses others s
  pub short : Short responses others
  pub in_responses : Rest Responses responses s.response
  pub in_others : Rest Others others s.other

-- ---- bytes that were handed out are dropped, a of the response list and b of the other one

abbrev pub lowered : ℕ → ℕ → Feed → Feed
lowered a b s = record { response = s.response - a; other = s.other - b; run = s.run }

-- the place of a refusal is counted in the list that is left
abbrev pub lowered_answer : ℕ → ℕ → Answer → Answer
lowered_answer a b (Handed w) = Handed w
lowered_answer a b Empty = Empty
lowered_answer a b (Refused (Some Responses) c p) = Refused (Some Responses) c (p - a)
lowered_answer a b (Refused (Some Others) c p) = Refused (Some Others) c (p - b)
lowered_answer a b (Refused None c p) = Refused None c p

abbrev pub lowered_step : ℕ → ℕ → Step → Step
lowered_step a b t = record { feed = lowered a b t.feed; answer = lowered_answer a b t.answer }
