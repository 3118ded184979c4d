-- Request K9 of document 02: what is promised to whoever waits in one of the feeder's two lists, as one statement about the definitions.
use Rattle.std.specs.Prelude.{ℕ, zero, suc, ◌≤◌, ◌<◌, ◌≡◌, true, false, List, [], ◌∷◌, ◌↔◌, length, take, drop, replicate}
use Rattle.lists.specs.Parts.{IsBytes}
use Rattle.message.specs.Heads.{type_of}
use Rattle.message.specs.Kinds.{rsp, pays}
use Rattle.record.specs.Records.{records_of}
use Rattle.feeder.specs.Due.{list_of, position_of}
use Rattle.feeder.specs.Feeding.{fresh_feed, feeding, fed_part}
use Rattle.feeder.specs.Rules.{Belongs, RecordAt, Valid, Short, Rule, Between, Moves, moved_over}
use Rattle.feeder.specs.Asks.{Lists, bytes_of, Turn, is_refused, Asking, Asked, Within, Served, Parts, HandedOut, joined, Faultless, lowered, lowered_step}
use Rattle.feeder.specs.declared.found.Waiting.{Waiting}
use Rattle.feeder.specs.declared.found.Waiting.TheVariants.{Responses, Others}
use Rattle.feeder.specs.declared.feed.Feed.{Feed}
use Rattle.feeder.specs.declared.feed.Answer.{Answer}
use Rattle.feeder.specs.declared.feed.Answer.TheVariants.{Handed}
use Rattle.feeder.specs.declared.feed.Step.{Step}
use Rattle.demands.specs.Beneath.{req_s, resp}

pub record Service : Type 0 where
  -- the answer and the part are those of the rules, and the rules allow no others
  pub follows : (f : ℕ) (responses others : List ℕ) (s : Feed) → IsBytes responses → IsBytes others
      → Rule f responses others s (feeding f responses others s) (fed_part f responses others s)
  pub only : (f : ℕ) (responses others : List ℕ) (s : Feed) → IsBytes responses → IsBytes others → (t : Step) (bytes : List ℕ)
      → Rule f responses others s t bytes → (t ≡ feeding f responses others s) × (bytes ≡ fed_part f responses others s)
  -- the part is empty unless a record is handed out, and then it is the bytes between the old and the new position of the list named
  pub part_none : (f : ℕ) (responses others : List ℕ) (s : Feed)
      → ((w : Waiting) → (feeding f responses others s).answer ≡ Handed w → ⊥) → fed_part f responses others s ≡ []
  pub part_between : (f : ℕ) (responses others : List ℕ) (s : Feed) (w : Waiting) → (feeding f responses others s).answer ≡ Handed w
      → Between (list_of w responses others) (position_of w s) (position_of w (feeding f responses others s).feed) (fed_part f responses others s)
  -- at most one list moves, and what it moves over is the part
  pub one_moves : (f : ℕ) (responses others : List ℕ) (s : Feed) → Valid f responses others s
      → Moves responses others s (feeding f responses others s).feed
      × (fed_part f responses others s ≡ moved_over responses others s (feeding f responses others s).feed)
  -- the messages that belong in the response list are those that pay RSP
  pub responses_pay : (m : List ℕ) → Belongs Responses (type_of m) ↔ (pays rsp m ≡ true)
  -- "if each ask hands in the positions and run last answered and the same lists, at most lengthened at the end, and none is refused,
  -- whoever waits at a list's head is served within five asks"
  pub within_five : (f : ℕ) (a z : Lists) (s e : Feed) (ts : List Turn) → Asking f a s ts z e → 5 ≤ length ts
      → s.other < length a.others → Served Others 5 z.others s.other ts
  -- "or within two if it heads the response list"
  pub within_two : (f : ℕ) (a z : Lists) (s e : Feed) (ts : List Turn) → Asking f a s ts z e → 2 ≤ length ts
      → s.response < length a.responses → Served Responses 2 z.responses s.response ts
  -- a record that was whole when it began to wait is the one that is served
  pub who_waited : (f : ℕ) (a z : Lists) (s e : Feed) (ts : List Turn) → Asking f a s ts z e → (w : Waiting) (n : ℕ) (bytes : List ℕ)
      → RecordAt w (bytes_of w a) (position_of w s) bytes → Served w n (bytes_of w z) (position_of w s) ts → Within w bytes n ts
  -- what was handed out of a list is its records from the first position to the last, in order and each once
  pub in_order : (f : ℕ) (a z : Lists) (s e : Feed) (ts : List Turn) → Asking f a s ts z e → (w : Waiting)
      → HandedOut w (bytes_of w z) (position_of w s) (position_of w e) ts
  -- from the fresh feed on it is the list's beginning
  pub beginning : (f : ℕ) (a z : Lists) (e : Feed) (ts : List Turn) → Asking f a fresh_feed ts z e → (w : Waiting) (parts : List (List ℕ))
      → Parts w ts parts → joined parts ≡ take (position_of w e) (bytes_of w z)
  -- where nothing is wrong in what waits no ask is refused, and nothing is wrong afterwards
  pub never_refused : (f : ℕ) (responses others : List ℕ) (s : Feed) → IsBytes responses → IsBytes others → Faultless f responses others s
      → (is_refused (feeding f responses others s).answer ≡ false) × Faultless f responses others (feeding f responses others s).feed
  -- so any number of asks can be made, to which the promises apply
  pub can_ask : (f : ℕ) (l : Lists) (s : Feed) → IsBytes l.responses → IsBytes l.others → Faultless f l.responses l.others s
      → (n : ℕ) → Asked f l s n
  -- bytes that were handed out may be dropped, with both positions lowered: the same record is handed out of the same list
  pub dropped : (f : ℕ) (responses others : List ℕ) (s : Feed) → IsBytes responses → IsBytes others → Valid f responses others s
      → Short responses others → (a b : ℕ) → a ≤ s.response → b ≤ s.other
      → (lowered_step a b (feeding f responses others s) ≡ feeding f (drop a responses) (drop b others) (lowered a b s))
      × (fed_part f responses others s ≡ fed_part f (drop a responses) (drop b others) (lowered a b s))

-- ---- both bounds are reached

abbrev pub resp2 : List ℕ
resp2 = 4 ∷ replicate 19 0

-- the answers of n asks with the same lists
abbrev pub answers : ℕ → List ℕ → List ℕ → Feed → List Answer
answers zero responses others s = []
answers (suc n) responses others s = (feeding 0 responses others s).answer ∷ answers n responses others (feeding 0 responses others s).feed

-- five responses, two of them Resp2, and a ReqS in the other list
abbrev pub asked : ℕ → Feed → List Answer
asked n s = answers n (records_of (resp ∷ resp2 ∷ resp ∷ resp2 ∷ resp ∷ [])) (records_of (req_s ∷ [])) s

pub record Reached : Type 0 where
  -- the head of the other list is served at the fifth ask: four responses, of which a Resp2 is one, go before it
  pub five : asked 6 fresh_feed ≡ Handed Responses ∷ Handed Responses ∷ Handed Responses ∷ Handed Responses ∷ Handed Others ∷ Handed Responses ∷ []
  -- the head of the response list is served at the second ask: after four responses in a row the other list goes before it
  pub two : asked 3 (record { response = 0; other = 0; run = 4 }) ≡ Handed Others ∷ Handed Responses ∷ Handed Responses ∷ []
