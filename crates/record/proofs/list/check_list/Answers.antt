use Prim.Native.Nat.{◌+◌, ◌≤◌, ◌<◌}
use mathlib.Core.Path.{◌≡◌, sym, ap, ◌∙◌}
use borrow.Author.Rules.{rules}
use native.Mathlib.Omega.{arith}
use lib.ListN.{length, drop}
use Rattle.record.specs.declared.list.First.TheVariants.{Whole}
use Rattle.std.specs.Prelude.{Err}
use Rattle.record.specs.Records.{first_of}
use Rattle.record.proofs.RecordLaws.{found, offset_next, fault_start, fault_next, fault_bad, fault_empty, fault_end}
use Rattle.record.proofs.list.check_list.Goals.{In-Whole}
use Rattle.record.proofs.list.check_list.Goals as goal

pub loop-at-init : goal.loop-at-init
loop-at-init c = (omega arith, fault_start _)

pub returns-in-Empty : goal.returns-in-Empty
returns-in-Empty c = let l = c.args.list.now in
    sym (c.loop-at.invariant.1 ∙ fault_empty l c.loop-at.at (found l c.loop-at.at _ _ c.read_record-first.ensures c.in-Empty.is))

pub returns-in-Bad : goal.returns-in-Bad
returns-in-Bad c = let l = c.args.list.now in
    ap Err c.at.ensures ∙ sym (c.loop-at.invariant.1 ∙ fault_bad l c.loop-at.at (found l c.loop-at.at _ _ c.read_record-first.ensures c.in-Bad.is))

-- the record that a turn passes over

whole : (c : In-Whole) → first_of (drop c.loop-at.at c.args.list.now) ≡ Whole c.in-Whole.start c.in-Whole.end
whole c = found c.args.list.now c.loop-at.at _ _ c.read_record-first.ensures c.in-Whole.is

step : (c : In-Whole) → (c.loop-at.at < c.loop-at.at + c.in-Whole.end) × (c.loop-at.at + c.in-Whole.end ≤ length c.args.list.now)
step c = offset_next c.args.list.now c.loop-at.at c.in-Whole.start c.in-Whole.end c.loop-at-test.true (whole c)

pub overflow_add-at : goal.overflow_add-at
overflow_add-at c = let s = step (goal.at.overflow_add-at c).In-Whole in search rules

pub loop-at-smaller : goal.loop-at-smaller
loop-at-smaller c = let s = step (goal.at.loop-at-smaller c).In-Whole in omega arith

pub loop-at-preserved : goal.loop-at-preserved
loop-at-preserved c = let l = c.args.list.now in
    ((step (goal.at.loop-at-preserved c).In-Whole).1, c.loop-at.invariant.1 ∙ fault_next l c.loop-at.at c.in-Whole.start c.in-Whole.end (whole (goal.at.loop-at-preserved c).In-Whole))

pub returns : goal.returns
returns c = let l = c.args.list.now in
    sym (c.loop-at.invariant.1 ∙ fault_end l c.loop-at.at c.loop-at-test.false)
