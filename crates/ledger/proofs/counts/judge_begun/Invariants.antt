use Prim.Native.Nat.{◌-◌, ◌≤◌}
use mathlib.Core.Path.{◌≡◌}
use mathlib.Core.List.{[]}
use lib.ListN.{get_or}
use Rattle.cause.specs.Checks.{first_fault}
use Rattle.ledger.specs.CountingMirror.{credit_row_checks}
use Rattle.ledger.proofs.counts.judge_begun.Given as goal

abbrev pub invariant-loop-p : goal.invariant-loop-p
invariant-loop-p l = (l.p ≤ 14) × (first_fault (credit_row_checks (get_or l.held l.direction []) l.begun 14 0) ≡ first_fault (credit_row_checks (get_or l.held l.direction []) l.begun (14 - l.p) l.p))

abbrev pub decreases-loop-p : goal.decreases-loop-p
decreases-loop-p l = 14 - l.p
