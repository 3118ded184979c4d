-- The audit of entries from a fresh ledger, as numbers.
use Rattle.std.specs.Prelude.{ℕ, ◌+◌, ◌*◌, Bool, ◌&&◌, List, length, get_or, eqb, ltb, Result, Ok, Err}
use Rattle.lists.specs.Pick.{pick}
use Rattle.cause.specs.Causes.{cause_number}
use Rattle.cause.specs.declared.Fault.{Fault}
use Rattle.cause.specs.declared.Cause.TheVariants.{InvalidState}
use Rattle.pools.specs.Rows.{row}
use Rattle.ledger.specs.Audit.{fresh_ledger, new_ledger, reported}
use Rattle.ledger.specs.Run.{halted, run_over}
use Rattle.pools.specs.declared.receiver.Receiver.{Receiver}
use Rattle.ledger.specs.declared.ledger.Ledger.{Ledger}
use Rattle.ledger.specs.declared.ledger.Report.{Report}
use Rattle.ledger.specs.declared.entries.Run.{Run}
use Rattle.cause.specs.Checks.{Verdict}

-- the receiver whose planes, push and 14 capacities stand from number `at` on
abbrev pub receiver_from : List ℕ → ℕ → Receiver
receiver_from l at = record { planes = get_or l at 0; push = eqb (get_or l (at + 1) 0) 1; capacities = row (λ p. get_or l (at + 2 + p) 0) 14 0 }

-- 33 numbers, of which both pushes are 0 or 1
abbrev pub numbers_ok : List ℕ → Bool
numbers_ok l = eqb (length l) 33 && (ltb (get_or l 2 0) 2 && ltb (get_or l 18 0) 2)

-- the ledger of a format and the two receivers behind it, of a configuration or not
abbrev pub plain_ledger_from : List ℕ → Ledger
plain_ledger_from l = fresh_ledger (get_or l 0 0) (receiver_from l 1) (receiver_from l 17)

-- the fresh ledger of those numbers; numbers that are none of a configuration are 19, beside that ledger
abbrev pub new_ledger_from : List ℕ → Result Ledger (Ledger × Fault)
new_ledger_from l =
    pick (numbers_ok l) (new_ledger (get_or l 0 0) (receiver_from l 1) (receiver_from l 17)) (Err (plain_ledger_from l, record { cause = InvalidState; place = 0 }))

-- 0, or the cause of the refusal; and its place
abbrev pub cause_of : Verdict → ℕ
cause_of (Ok _) = 0
cause_of (Err fault) = cause_number fault.cause

abbrev pub place_of : Verdict → ℕ
place_of (Ok _) = 0
place_of (Err fault) = fault.place

-- the most entries of a run
abbrev pub max_run : ℕ
max_run = 4_294_967_295

-- what the entries at the front of e come to from a fresh ledger
abbrev pub run_by : Result Ledger (Ledger × Fault) → List ℕ → Run
run_by (Ok s) e = run_over s max_run e
run_by (Err (s, fault)) e = halted s 0 0 (Err fault)

unfoldable pub run_from : List ℕ → List ℕ → Run
run_from l e = run_by (new_ledger_from l) e

-- the report of direction d and pool p behind them
abbrev pub report_by : Result Ledger (Ledger × Fault) → Ledger → ℕ → ℕ → Result Report Fault
report_by (Ok _) s d p = reported s d p
report_by (Err (_, fault)) s d p = Err fault

unfoldable pub report_from : List ℕ → List ℕ → ℕ → ℕ → Result Report Fault
report_from l e d p = report_by (new_ledger_from l) (run_from l e).ledger d p

-- credits held · 2^32 + messages open, or cause · 2^48; the place of such a refusal is 0
abbrev pub report_number : Result Report Fault → ℕ
report_number (Ok report) = report.held.0 * 4_294_967_296 + report.opened.0
report_number (Err fault) = cause_number fault.cause * 281_474_976_710_656
