-- The run from the ledger of numbers, and its numbers. Assumes nothing.
use Prim.Native.Nat.{ℕ, ◌+◌}
use mathlib.Core.Path.{◌≡◌, refl, sym, ap, ◌∙◌}
use mathlib.Core.Bool.{Bool, true, false}
use mathlib.Core.List.{List}
use native.Mathlib.Omega.{arith}
use lib.ListN.{get_or}
use Rattle.lists.specs.Pick.{pick}
use Rattle.lists.specs.Parts.{part, pad}
use Rattle.lists.proofs.PartLaws.{part_at, part_most, length_pad, get_d_pad}
use Rattle.cause.specs.declared.Cause.TheVariants.{InvalidState}
use Rattle.pools.specs.Pools.{receiver_by_numbers}
use Rattle.pools.proofs.RowLaws.{row_same}
use Rattle.ledger.specs.Audit.{ledger_ok, configured, reported}
use Rattle.ledger.specs.Run.{halted, run_over}
use Rattle.ledger.specs.declared.ledger.Ledger.{Ledger}
use Rattle.ledger.proofs.FreshLaws.{fresh_valid}
use Rattle.audit_probe.specs.Audit.{max_run, receiver_from, numbers_ok, plain_ledger_from, new_ledger_from, run_by, run_from, report_by, report_from}
use Rattle.cause.specs.Checks.{handed, Accepted, Refused}
use Rattle.std.specs.Prelude.{Result, Ok, Err}
use Rattle.cause.specs.declared.Fault.{Fault}

-- ---- the ledger of numbers

-- the receiver that numbers name, by the entries of its row
pub receiver_named : (l : List ℕ) (i : ℕ) → receiver_by_numbers l i ≡ receiver_from l i
receiver_named l i = let capacities : List ℕ = part (i + 2) 14 l in
    rw (row_same (λ p. get_or l (i + 2 + p) 0) (pad 14 capacities) (length_pad 14 capacities (part_most (i + 2) 14 l)) (λ p b. get_d_pad 14 capacities p ∙ part_at (i + 2) 14 l p b))

module _ (l : List ℕ) where
  abbrev opened : Bool → Bool → Result Ledger (Ledger × Fault)
  opened t u = pick t (handed (pick u Accepted (Refused InvalidState 0)) (plain_ledger_from l)) (Err (plain_ledger_from l, record { cause = InvalidState; place = 0 }))

  opened_valid : (t u : Bool) → configured (get_or l 0 0) (receiver_from l 1) (receiver_from l 17) ≡ u → (s : Ledger) → opened t u ≡ Ok s → ledger_ok s ≡ true
  opened_valid true true c s e =
      let same : plain_ledger_from l ≡ s = cc in
      ap ledger_ok (sym same) ∙ fresh_valid (get_or l 0 0) (receiver_from l 1) (receiver_from l 17) c
  opened_valid true false c s e = absurd (let z : ◌≡◌ {A = ℕ} 0 1 = cc in omega arith)
  opened_valid false u c s e = absurd (let z : ◌≡◌ {A = ℕ} 0 1 = cc in omega arith)

  -- a ledger that is opened without a fault is valid
  pub created_valid : (s : Ledger) → Ok s ≡ new_ledger_from l → ledger_ok s ≡ true
  created_valid s w = opened_valid (numbers_ok l) (configured (get_or l 0 0) (receiver_from l 1) (receiver_from l 17)) refl s (sym w)

-- ---- runs and reports

module _ (l e : List ℕ) where
  pub run_refused : (s : Ledger) (f : Fault) → Err (s, f) ≡ new_ledger_from l → halted s 0 0 (Err f) ≡ run_from l e
  unfolding run_from
  run_refused s f w = ap (λ (x : Result Ledger (Ledger × Fault)). run_by x e) w

  pub run_accepted : (s : Ledger) → Ok s ≡ new_ledger_from l → run_over s max_run e ≡ run_from l e
  unfolding run_from
  run_accepted s w = ap (λ (x : Result Ledger (Ledger × Fault)). run_by x e) w

  module _ (d p : ℕ) where
    pub report_refused : (s : Ledger) (f : Fault) → Err (s, f) ≡ new_ledger_from l → Err f ≡ report_from l e d p
    unfolding report_from
    report_refused s f w = ap (λ (x : Result Ledger (Ledger × Fault)). report_by x (run_from l e).ledger d p) w

    pub report_accepted : (s : Ledger) → Ok s ≡ new_ledger_from l → reported (run_from l e).ledger d p ≡ report_from l e d p
    unfolding report_from
    report_accepted s w = ap (λ (x : Result Ledger (Ledger × Fault)). report_by x (run_from l e).ledger d p) w
