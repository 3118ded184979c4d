-- The entries of a log as a tap record (document 01: "The entries that a log hands to the audit are such a list").
use Rattle.std.specs.Prelude.{ℕ, ◌≡◌, List, [], ◌∷◌, ◌⊎◌, get_or}
use Rattle.cause.specs.declared.Cause.{Cause}
use Rattle.logs.specs.Log.{receiver_at, log_verdict}
use Rattle.logs.specs.Stream.{max_entries}
use Rattle.logs.specs.declared.log.LogVerdict.TheVariants as verdict
use Rattle.ledger.specs.Calls as log
use Rattle.logs.specs.LogRules.{ConfigurationFault}
use Rattle.logs.specs.WholeLog.{BegunLog, AcceptedLog, RefusedLog, Framing}
use Rattle.history.specs.Trace.{Trace, start}
use Rattle.history.specs.Link.{Link, direction_of}
use Rattle.history.specs.History.{Entry, Tapped}
use Rattle.history.specs.Calls.{note}
use Rattle.demands.specs.Tap.{link_of}

-- the entries t, and behind them those of a log
abbrev pub tap_of : Trace (Entry (List ℕ)) → List log.Entry → Trace (Entry (List ℕ))
tap_of t [] = t
tap_of t (e ∷ es) = tap_of (note t (direction_of e.direction) e.container) es

-- the link of a log's configuration
abbrev pub link_at : List ℕ → Link
link_at ns = link_of (get_or ns 0 0) (receiver_at ns 1) (receiver_at ns 17)

-- the accepted entries of a log are the tap record of some history of the link that its configuration describes
abbrev pub LogTapped : {l : List ℕ} {n : ℕ} → BegunLog l n → Type 0
LogTapped a = Tapped (link_at a.numbers) (tap_of start a.calls)

-- they and then the refused one are the tap record of no history
abbrev pub LogNotTapped : {l : List ℕ} {n : ℕ} {k : Cause} {p : ℕ} → RefusedLog l n k p → Type 0
LogNotTapped a =
    Tapped (link_at a.begun.numbers) (note (tap_of start a.begun.calls) (direction_of a.next.direction) a.next.container) → ⊥

-- what the verdict on a log says of histories
pub record LogDemand : Type 0 where
  -- 'accepted E': the E entries are the tap record of some history
  pub accepted : (l : List ℕ) (n : ℕ) → log_verdict max_entries l ≡ verdict.Accepted n → (a : AcceptedLog l n) × LogTapped a.begun
  -- 'refused E C P', whatever the cause: the configuration is refused, or the E entries before are the tap record of some history
  pub before : (l : List ℕ) (n : ℕ) (k : Cause) (p : ℕ) → log_verdict max_entries l ≡ verdict.Refused n k p
      → (ConfigurationFault l k p × (n ≡ 0)) ⊎ ((a : BegunLog l n) × LogTapped a)
  -- a refusal by a reading or pool cause: the accepted entries and then the next are the tap record of none
  pub refused : (l : List ℕ) (n : ℕ) (k : Cause) (p : ℕ) → (Framing k → ⊥) → log_verdict max_entries l ≡ verdict.Refused n k p
      → (a : RefusedLog l n k p) × LogNotTapped a
