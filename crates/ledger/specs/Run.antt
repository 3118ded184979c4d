-- Entries audited one after the other, as a log frames them, up to the first that is refused.
use Rattle.std.specs.Prelude.{ℕ, zero, suc, ◌+◌, List, drop, Ok, Err}
use Rattle.lists.specs.Pick.{pick}
use Rattle.lists.specs.Parts.{part}
use Rattle.cause.specs.declared.Cause.TheVariants.{InvalidState}
use Rattle.frame.specs.Framing.{framing}
use Rattle.frame.specs.declared.Framed.{Framed}
use Rattle.frame.specs.declared.Framed.TheVariants.{Broken, Short, Whole}
use Rattle.ledger.specs.Audit.{ledger_ok, auditing}
use Rattle.ledger.specs.declared.ledger.Ledger.{Ledger}
use Rattle.ledger.specs.declared.entries.Run.{Run}
use Rattle.container.specs.Layout.{container_size}
use Rattle.cause.specs.Checks.{Verdict, Accepted, Refused}

-- a run that stops behind n accepted entries and `at` bytes
abbrev pub halted : Ledger → ℕ → ℕ → Verdict → Run
halted s n at a = record { ledger = s; accepted = n; used = at; answer = a }

-- by the frame of the next entry: where it is not whole, the run stops; a whole one is of direction d and its container begins at u
abbrev pub when_whole : Framed → Run → (ℕ → ℕ → Run) → Run
when_whole Broken stop go = stop
when_whole Short stop go = stop
when_whole (Whole v d u) stop go = go d u

-- by the answer on the next entry: a refusal stops the run before it
abbrev pub followed : Verdict → Ledger → ℕ → ℕ → Run → Run
followed (Err fault) s n at go = halted s n at (Refused fault.cause fault.place)
followed (Ok _) s n at go = go

-- at most k entries from byte `at` of l on, behind n accepted ones
unfoldable pub running : ℕ → Ledger → ℕ → ℕ → List ℕ → Run
running zero s n at l = halted s n at Accepted
running (suc k) s n at l =
    when_whole (framing (drop at l)) (halted s n at Accepted)
    (λ d u. followed (auditing s d (part (at + u) container_size l)).answer s n at (running k (auditing s d (part (at + u) container_size l)).ledger (n + 1) (at + (u + container_size)) l))

-- at most `limit` entries at the front of l; a ledger that is not valid is 19
abbrev pub run_over : Ledger → ℕ → List ℕ → Run
run_over s limit l = pick (ledger_ok s) (running limit s 0 0 l) (halted s 0 0 (Refused InvalidState 0))
