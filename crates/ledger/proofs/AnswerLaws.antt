-- Answers of the audit by verdicts: what an acceptance and a refusal say of the checks and of the ledger handed back. Assumes nothing.
use Prim.Native.Nat.{ℕ}
use mathlib.Core.Path.{◌≡◌, refl, ap, ◌∙◌}
use mathlib.Core.Bool.{true}
use mathlib.Core.List.{List}
use Rattle.cause.specs.Checks.{first_fault, when_accepted, Verdict, Accepted, Refused}
use Rattle.cause.specs.declared.Cause.{Cause}
use Rattle.ledger.specs.Audit.{ledger_ok, audit_checks, next_ledger, auditing}
use Rattle.ledger.specs.declared.ledger.Ledger.{Ledger}
use Rattle.ledger.proofs.AcceptedLaws.{accepted_by, next_ledger_valid}
use Rattle.std.specs.Prelude.{Ok, Err}

module _ (s : Ledger) (d : ℕ) (c : List ℕ) where
  -- an accepted entry leaves a valid ledger
  pub accepted_valid : (auditing s d c).answer ≡ Accepted → ledger_ok (auditing s d c).ledger ≡ true
  unfolding auditing
  accepted_valid e =
      ap (λ (v : Verdict). ledger_ok (when_accepted v (next_ledger s d c) s)) e
      ∙ next_ledger_valid s d c (accepted_by s d c e)

  -- a refusal hands back the ledger handed in
  pub refused_same : (k : Cause) (p : ℕ) → (auditing s d c).answer ≡ Refused k p → (auditing s d c).ledger ≡ s
  unfolding auditing
  refused_same k p e = ap (λ (v : Verdict). when_accepted v (next_ledger s d c) s) e

-- the ledger behind a verdict on the checks
kept_by : (s : Ledger) (d : ℕ) (c : List ℕ) (v : Verdict) → first_fault (audit_checks s d c) ≡ v → ledger_ok s ≡ true
    → ledger_ok (when_accepted v (next_ledger s d c) s) ≡ true
kept_by s d c (Ok _) e h = next_ledger_valid s d c (accepted_by s d c e)
kept_by s d c (Err fault) e h = h

-- an audit leaves a valid ledger, whether it accepts or refuses
pub audit_keeps : (s : Ledger) (d : ℕ) (c : List ℕ) → ledger_ok s ≡ true → ledger_ok (auditing s d c).ledger ≡ true
unfolding auditing
audit_keeps s d c h = kept_by s d c (first_fault (audit_checks s d c)) refl h
