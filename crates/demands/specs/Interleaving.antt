-- Two taps that disagree on which direction's container passed first end alike (document 02, K14).
use Rattle.std.specs.Prelude.{ℕ, ◌≡◌, true, List, [], ◌∷◌}
use Rattle.cause.specs.declared.Cause.TheVariants.{BegunOverGranted}
use Rattle.ledger.specs.Audit.{configured, auditing, fresh_ledger, reported}
use Rattle.logs.specs.Log.{ledger_of}
use Rattle.ledger.specs.Calls.{AllAccepted, behind}
use Rattle.ledger.specs.Calls as log
use Rattle.logs.specs.WholeLog.{AcceptedLog}
use Rattle.pools.specs.declared.receiver.Receiver.{Receiver}
use Rattle.ledger.specs.declared.ledger.Ledger.{Ledger}
use Rattle.history.specs.Trace.{Trace, start}
use Rattle.history.specs.Calls.{Call, after, accepted}
use Rattle.history.specs.Interleaving.{SameContainers}
use Rattle.demands.specs.Tap.{held_in, open_in, auditor_of}
use Rattle.demands.specs.LogTap.{tap_of}
use Rattle.demands.specs.Marked.{with_bytes, receiver_with, grants_responses, grants_data, data_at_g9}
use Rattle.cause.specs.Checks.{Refused}

-- "the same credits held, open messages and carries in every pool", field by field
pub record SameEnd (l m : Ledger) : Type 0 where
  pub held : l.held ≡ m.held
  pub opened : l.opened ≡ m.opened
  pub carry0 : l.carry0 ≡ m.carry0
  pub carry1 : l.carry1 ≡ m.carry1

-- two lists of calls from one fresh ledger have accepted "the same containers in the same order within each direction"
abbrev pub SameTraffic : ℕ → Receiver → Receiver → Trace (Call (List ℕ)) → Trace (Call (List ℕ)) → Type 0
SameTraffic f a b xs ys = SameContainers (accepted (auditor_of f a b) xs) (accepted (auditor_of f a b) ys)

-- the ledger behind an accepted log
abbrev pub last_ledger : {l : List ℕ} {n : ℕ} → AcceptedLog l n → Ledger
last_ledger x = behind (ledger_of x.begun.numbers) x.begun.calls

pub record Interleaving : Type 0 where
  -- "take two accepted records with the same configuration, no Activation messages, and the same containers in the same order within each
  -- direction. However the directions are interleaved, they end with the same credits held, open messages and carries in every pool."
  -- The audit without states gives an Activation no effect, so that none has to be left out; calls that are refused may stand anywhere.
  pub same_end : (f : ℕ) (a b : Receiver) → configured f a b ≡ true → (xs ys : Trace (Call (List ℕ))) → SameTraffic f a b xs ys
      → SameEnd (after (auditor_of f a b) xs) (after (auditor_of f a b) ys)
  -- whatever is handed in next gets the same answer
  pub same_answer : (f : ℕ) (a b : Receiver) → configured f a b ≡ true → (xs ys : Trace (Call (List ℕ))) → SameTraffic f a b xs ys
      → (d : ℕ) (c : List ℕ) → (auditing (after (auditor_of f a b) xs) d c).answer ≡ (auditing (after (auditor_of f a b) ys) d c).answer
  -- two accepted logs of one configuration, whose entries agree within each direction, end with the same report for each direction and pool
  pub same_report : (l k : List ℕ) (n m : ℕ) (x : AcceptedLog l n) (y : AcceptedLog k m) → x.begun.numbers ≡ y.begun.numbers
      → SameContainers (tap_of start x.begun.calls) (tap_of start y.begun.calls) → (d p : ℕ)
      → (held_in (reported (last_ledger x) d p) ≡ held_in (reported (last_ledger y) d p)) × (open_in (reported (last_ledger x) d p) ≡ open_in (reported (last_ledger y) d p))

-- in format X: direction 1 grants shared DAT and then RSP, and direction 0 starts a DataS that pays with the first
abbrev pub data_granted : log.Entry
data_granted = record { direction = 1; container = with_bytes (grants_data 1) }

abbrev pub response_granted : log.Entry
response_granted = record { direction = 1; container = with_bytes (grants_responses 1) }

abbrev pub data_started : log.Entry
data_started = record { direction = 0; container = with_bytes data_at_g9 }

-- the fresh ledger of receivers with one buffer for RSP and one for shared DAT
abbrev pub one_buffer : Ledger
one_buffer = fresh_ledger 0 (receiver_with 1) (receiver_with 1)

-- the DataS passes between the two grants, or behind both
abbrev pub starts_between : List log.Entry
starts_between = data_granted ∷ data_started ∷ response_granted ∷ []

abbrev pub starts_last : List log.Entry
starts_last = data_granted ∷ response_granted ∷ data_started ∷ []

-- entries that are accepted, and end with an RSP credit held, a message open in shared DAT and 60 bytes of it carried
pub record Ended (es : List log.Entry) : Type 0 where
  pub accepted : AllAccepted one_buffer es
  pub held : held_in (reported (behind one_buffer es) 0 9) ≡ 1
  pub opened : open_in (reported (behind one_buffer es) 0 11) ≡ 1
  pub carried : (behind one_buffer es).carry0.len ≡ 60

-- an example: two orders that are accepted and end alike, and one that is refused
pub record Orders : Type 0 where
  pub same_containers : SameContainers (tap_of start starts_between) (tap_of start starts_last)
  pub between : Ended starts_between
  pub last : Ended starts_last
  pub first : (auditing one_buffer data_started.direction data_started.container).answer ≡ Refused BegunOverGranted 11
