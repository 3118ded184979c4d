-- Lists of audit calls: what an audit is, and what calls one after the other from the fresh ledger come to.
use Rattle.std.specs.Prelude.{ℕ, ◌≡◌, ◌↔◌, Bool, true}
use Rattle.std.proofs.Math.Option.{Option, none, some}
use Rattle.lists.specs.Pick.{pick}
use Rattle.history.specs.Trace.{Trace, start, ◌▷◌, ◌⊑◌}
use Rattle.history.specs.Link.{Direction, number_of, direction_of}
use Rattle.history.specs.History.{Entry}

-- what a call hands in beside the ledger: any direction number and any bytes
pub record Call (A : Type 0) : Type 0 where
  pub number : ℕ
  pub container : A

-- what a call hands back: whether it accepts, and the next ledger
pub record Step (L : Type 0) : Type 0 where
  pub accepts : Bool
  pub ledger : L

-- an audit: its ledgers, its steps, and what a ledger reports for each direction and pool
pub record Auditor (A : Type 0) : Type 1 where
  -- the ledgers, valid or not
  pub Ledger : Type 0
  -- the ledger before the first call
  pub fresh : Ledger
  -- a call with a ledger
  pub audit : Ledger → Call A → Step Ledger
  -- the credits that a ledger reports as granted and not paid at the tap
  pub held : Ledger → Direction → ℕ → ℕ
  -- the messages that a ledger reports as begun and not finished at the tap
  pub unfinished : Ledger → Direction → ℕ → ℕ

-- the entries t, and behind them the entry that a call with this direction makes
abbrev pub note : {A : Type 0} → Trace (Entry A) → Option Direction → A → Trace (Entry A)
note t none c = t
note t (some d) c = t ▷ record { direction = d; container = c }

-- the call's number is that of a direction, and the entries t, and then the call's own, are good
abbrev pub Admits : {A : Type 0} → (Trace (Entry A) → Type 0) → Trace (Entry A) → Call A → Type 0
Admits Good t x = (d : Direction) × (number_of d ≡ x.number) × Good (t ▷ record { direction = d; container = x.container })

module _ {A : Type 0} (U : Auditor A) where
  -- the ledger after calls from the fresh one, each "with the ledger that the last call handed back, refused or not"
  abbrev pub after : Trace (Call A) → U.Ledger
  after start = U.fresh
  after (xs ▷ x) = (U.audit (after xs) x).ledger

  -- the entries that these calls accepted
  abbrev pub accepted : Trace (Call A) → Trace (Entry A)
  accepted start = start
  accepted (xs ▷ x) =
      pick (U.audit (after xs) x).accepts (note (accepted xs) (direction_of x.number) x.container) (accepted xs)

  -- each call of xs accepts exactly when its number is that of a direction, and the entries accepted before it, and then its own, are good
  abbrev pub Exactly : (Trace (Entry A) → Type 0) → Trace (Call A) → Type 0
  Exactly Good xs =
      (before : Trace (Call A)) (x : Call A) → before ▷ x ⊑ xs
      → (U.audit (after before) x).accepts ≡ true ↔ Admits Good (accepted before) x
