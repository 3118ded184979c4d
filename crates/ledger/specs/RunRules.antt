-- What a run over entries gives, as rules: entries one behind the other at the front of bytes, up to the first that is refused.
use Rattle.std.specs.Prelude.{ℕ, ◌+◌, ◌≤◌, ◌<◌, ◌≡◌, List, [], ◌⊎◌, length, drop}
use Rattle.cause.specs.declared.Cause.{Cause}
use Rattle.cause.specs.declared.Cause.TheVariants.{InvalidState}
use Rattle.record.specs.Number.{read_number, Value}
use Rattle.ledger.specs.Audit.{auditing}
use Rattle.ledger.specs.Calls.{Entry, AllAccepted, behind, entry_of, Enters, NoEntry}
use Rattle.ledger.specs.ValidLedger.{ValidLedger}
use Rattle.ledger.specs.declared.ledger.Ledger.{Ledger}
use Rattle.ledger.specs.declared.entries.Run.{Run}
use Rattle.cause.specs.Checks.{Verdict, Accepted, Refused}

-- the entries es at the front of l, which end at byte n, are accepted one after the other from the valid ledger s
pub record Entered (s : Ledger) (l : List ℕ) (es : List Entry) (n : ℕ) : Type 0 where
  pub valid : ValidLedger s
  pub front : Enters l es n
  pub accepted : AllAccepted s es

-- the run behind them: the old state of the entry that is refused behind them ("A refusal carries its cause inside the answer, and the old
-- state")
abbrev pub stopped : Ledger → List Entry → ℕ → Verdict → Run
stopped s es n a = record { ledger = behind s es; accepted = length es; used = n; answer = a }

-- a run over at most `limit` entries
pub data RunRule (s : Ledger) (limit : ℕ) (l : List ℕ) : Run → Type 0 where
  -- 19 | state not valid | 0
  invalid : (ValidLedger s → ⊥) → RunRule s limit l (stopped s [] 0 (Refused InvalidState 0))
  -- every entry is accepted: there are as many as may be, or no whole one is behind them
  all : (es : List Entry) (n : ℕ) → Entered s l es n → length es ≤ limit → (length es ≡ limit) ⊎ NoEntry (drop n l) → RunRule s limit l (stopped s es n Accepted)
  -- the audit refuses the entry behind them
  refused : (es : List Entry) (n v u : ℕ) (k : Cause) (p : ℕ) → Entered s l es n → length es < limit → read_number (drop n l) ≡ Value v u → u + 256 ≤ length (drop n l)
      → (auditing (behind s es) (entry_of (drop n l) v u).direction (entry_of (drop n l) v u).container).answer ≡ Refused k p
      → RunRule s limit l (stopped s es n (Refused k p))
