-- The audit of a link with a running ledger.
use Rattle.std.specs.Prelude.{ℕ, zero, suc, ◌+◌, ◌-◌, Bool, true, false, ◌&&◌, leb, eqb}
use Rattle.std.proofs.Math.Option.{Option, none, some}
use Rattle.lists.specs.Pick.{pick}
use Rattle.history.specs.Link.{Direction, direction0, direction1, direction_of, opposite, same_direction, Link}
use Rattle.history.specs.Calls.{Step, Auditor}

-- a test holds at every number below n
abbrev pub all_below : ℕ → (ℕ → Bool) → Bool
all_below zero f = true
all_below (suc n) f = all_below n f && f n

-- f is at most g at every number below n
abbrev pub fits_below : ℕ → (ℕ → ℕ) → (ℕ → ℕ) → Bool
fits_below n f g = all_below n (λ p. leb (f p) (g p))

-- f is equal to g at every number below n
abbrev pub equal_below : ℕ → (ℕ → ℕ) → (ℕ → ℕ) → Bool
equal_below n f g = all_below n (λ p. eqb (f p) (g p))

module _ (K : Link) where
  open K use {Container, State, fresh, reads, next, grants, begins, finishes, carried, state_ok, pools, capacity}

  -- for each direction and pool, credits granted and not paid and messages begun and not finished; and each direction's reader
  pub record Ledger : Type 0 where
    pub held : Direction → ℕ → ℕ
    pub unfinished : Direction → ℕ → ℕ
    pub states : Direction → State

  -- "counts zero, nothing carried"
  abbrev pub fresh_ledger : Ledger
  fresh_ledger = record { held = λ d p. 0; unfinished = λ d p. 0; states = λ d. fresh }

  -- direction d of a valid ledger: its reader, "held plus open is at most capacity, and open messages follow from the carries"
  abbrev pub direction_ok : Ledger → Direction → Bool
  direction_ok l d =
      state_ok d (l.states d)
      && (fits_below pools (λ p. l.held d p + l.unfinished d p) (capacity d)
      && equal_below pools (l.unfinished d) (carried (l.states d)))

  -- a valid ledger
  abbrev pub ledger_ok : Ledger → Bool
  ledger_ok l = direction_ok l direction0 && direction_ok l direction1

  -- the credits of pool p that the messages which start in the container pay
  abbrev pub credits_paid : Ledger → Direction → Container → ℕ → ℕ
  credits_paid l d c p = begins d (l.states d) c p

  -- the slots of the opposite receiver's pool p that are taken, with those that the container grants
  abbrev pub slots_taken : Ledger → Direction → Container → ℕ → ℕ
  slots_taken l d c p = l.held (opposite d) p + l.unfinished (opposite d) p + grants d (l.states d) c p

  -- the container reads, "begun ≤ granted" in its own direction, and "granted ≤ capacity + finished" in the opposite one
  abbrev pub entry_ok : Ledger → Direction → Container → Bool
  entry_ok l d c =
      reads d (l.states d) c
      && (fits_below pools (credits_paid l d c) (l.held d) && fits_below pools (slots_taken l d c) (capacity (opposite d)))

  -- the ledger with the container entered
  abbrev pub enter : Ledger → Direction → Container → Ledger
  enter l d c = record {
    held = λ e p. pick (same_direction e d) (l.held e p - begins d (l.states d) c p) (l.held e p + grants d (l.states d) c p);
    unfinished = λ e p.
        pick (same_direction e d) (l.unfinished e p + begins d (l.states d) c p - finishes d (l.states d) c p) (l.unfinished e p);
    states = λ e. pick (same_direction e d) (next d (l.states d) c) (l.states e);
  }

  -- the audit of an entry: a number that is no direction is refused, and a refusal hands back the ledger as it was
  abbrev pub audit_entry : Ledger → Option Direction → Container → Step Ledger
  audit_entry l none c = record { accepts = false; ledger = l }
  audit_entry l (some d) c = record {
    accepts = ledger_ok l && entry_ok l d c;
    ledger = pick (ledger_ok l && entry_ok l d c) (enter l d c) l;
  }

  -- the audit of a link
  abbrev pub link_auditor : Auditor Container
  link_auditor = record {
    Ledger = Ledger;
    fresh = fresh_ledger;
    audit = λ l x. audit_entry l (direction_of x.number) x.container;
    held = λ l. l.held;
    unfinished = λ l. l.unfinished;
  }
