-- A whole log: the entries that are accepted, and the one behind them that the audit refuses.
use Rattle.std.specs.Prelude.{ℕ, ◌+◌, ◌≤◌, ◌≡◌, List, [], ◌∷◌, ◌++◌, length, get_or, drop}
use Rattle.cause.specs.declared.Cause.{Cause}
use Rattle.cause.specs.declared.Cause.TheVariants.{BrokenRecord, TooLong, InvalidState}
use Rattle.ledger.specs.Audit.{auditing}
use Rattle.ledger.specs.ValidLedger.{ValidConfiguration}
use Rattle.logs.specs.Log.{receiver_at, ledger_of}
use Rattle.logs.specs.Stream.{max_entries}
use Rattle.ledger.specs.Calls.{Entry, AllAccepted, behind, Enters}
use Rattle.logs.specs.LogRules.{Numbers}
use Rattle.cause.specs.Checks.{Refused}

-- a log begins with a valid configuration and n entries that the audit accepts one after the other
pub record BegunLog (l : List ℕ) (n : ℕ) : Type 0 where
  pub numbers : List ℕ
  pub width : ℕ
  pub taken : Numbers l numbers width
  pub full : length numbers ≡ 33
  pub valid : ValidConfiguration (get_or numbers 0 0) (receiver_at numbers 1) (receiver_at numbers 17)
  pub calls : List Entry
  pub bytes : ℕ
  pub front : Enters (drop width l) calls bytes
  pub count : length calls ≡ n
  pub accepted : AllAccepted (ledger_of numbers) calls

-- these are all of it
pub record AcceptedLog (l : List ℕ) (n : ℕ) : Type 0 where
  pub begun : BegunLog l n
  pub few : n ≤ max_entries
  pub whole : length (drop (begun.width + begun.bytes) l) ≡ 0

-- the audit refuses the entry behind them
pub record RefusedLog (l : List ℕ) (n : ℕ) (k : Cause) (p : ℕ) : Type 0 where
  pub begun : BegunLog l n
  pub next : Entry
  pub bytes : ℕ
  pub front : Enters (drop begun.width l) (begun.calls ++ (next ∷ [])) bytes
  pub refused : (auditing (behind (ledger_of begun.numbers) begun.calls) next.direction next.container).answer ≡ Refused k p

-- the causes that a log gives by itself: 17, 18, and 19 of its configuration
pub data Framing : Cause → Type 0 where
  broken_record : Framing BrokenRecord
  too_long : Framing TooLong
  invalid_state : Framing InvalidState
