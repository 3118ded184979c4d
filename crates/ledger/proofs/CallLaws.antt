-- Entries behind entries: what is accepted of them, and the ledger behind them. Assumes nothing.
use mathlib.Core.Path.{◌≡◌, refl}
use mathlib.Core.Bool.{true}
use mathlib.Core.List.{List, [], ◌∷◌, ◌++◌}
use Rattle.ledger.specs.Audit.{ledger_ok, auditing}
use Rattle.ledger.specs.Calls.{Entry, AllAccepted, behind}
use Rattle.ledger.specs.declared.ledger.Ledger.{Ledger}
use Rattle.ledger.proofs.AnswerLaws.{audit_keeps}
use Rattle.cause.specs.Checks.{Accepted}

abbrev next : Ledger → Entry → Ledger
next s e = (auditing s e.direction e.container).ledger

pub accepted_front : (s : Ledger) (es fs : List Entry) → AllAccepted s (es ++ fs) → AllAccepted s es
accepted_front s [] fs h = tt
accepted_front s (e ∷ es) fs h = (h.0, accepted_front (next s e) es fs h.1)

pub accepted_back : (s : Ledger) (es fs : List Entry) → AllAccepted s (es ++ fs) → AllAccepted (behind s es) fs
accepted_back s [] fs h = h
accepted_back s (e ∷ es) fs h = accepted_back (next s e) es fs h.1

pub accepted_append : (s : Ledger) (es fs : List Entry) → AllAccepted s es → AllAccepted (behind s es) fs → AllAccepted s (es ++ fs)
accepted_append s [] fs h k = k
accepted_append s (e ∷ es) fs h k = (h.0, accepted_append (next s e) es fs h.1 k)

pub behind_append : (s : Ledger) (es fs : List Entry) → behind s (es ++ fs) ≡ behind (behind s es) fs
behind_append s [] fs = refl
behind_append s (e ∷ es) fs = behind_append (next s e) es fs

-- one more
pub accepted_more : (s : Ledger) (es : List Entry) (e : Entry) → AllAccepted s es → (auditing (behind s es) e.direction e.container).answer ≡ Accepted
    → AllAccepted s (es ++ (e ∷ []))
accepted_more s es e h k = accepted_append s es (e ∷ []) h (k, tt)

-- a valid ledger stays valid
pub behind_valid : (s : Ledger) (es : List Entry) → ledger_ok s ≡ true → ledger_ok (behind s es) ≡ true
behind_valid s [] h = h
behind_valid s (e ∷ es) h = behind_valid (next s e) es (audit_keeps s e.direction e.container h)
