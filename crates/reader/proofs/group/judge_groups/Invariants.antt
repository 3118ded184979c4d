use Prim.Native.Nat.{◌≤◌, ◌-◌}
use mathlib.Core.Path.{◌≡◌}
use Rattle.cause.specs.Checks.{first_fault}
use Rattle.reader.specs.TrackingMirror.{mark_checks}
use Rattle.reader.proofs.group.judge_groups.Given as goal

abbrev pub invariant-loop-q : goal.invariant-loop-q
invariant-loop-q l = (l.q ≤ 4) × (first_fault (mark_checks 4 0 l.marks) ≡ first_fault (mark_checks (4 - l.q) l.q l.marks))
