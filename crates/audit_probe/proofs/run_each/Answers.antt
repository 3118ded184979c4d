use Prim.Native.Nat.{ℕ, ◌+◌, ◌≤◌, ◌<◌}
use mathlib.Core.Path.{◌≡◌, ap, subst, ◌∙◌}
use native.Mathlib.Omega.{arith}
use lib.ListN.{length, drop}
use borrow.Author.Rules.{rules}
use Rattle.lists.proofs.PartLaws.{rest_is}
use Rattle.frame.specs.Framing.{framing}
use Rattle.frame.specs.declared.Framed.TheVariants.{Whole}
use Rattle.cause.specs.Checks.{Accepted}
use Rattle.ledger.specs.Run.{halted}
use Rattle.ledger.proofs.RunLaws.{Running, running_full, running_ends, entry_within, entry_direction, running_refused, running_more, framed_here, entry_is}
use Rattle.audit_probe.specs.Audit.{max_run}
use Rattle.audit_probe.proofs.run_each.Goals.{In-Whole}
use Rattle.audit_probe.proofs.run_each.Goals as goal

-- ---- a whole entry is at hand

whole : (c : In-Whole) → framing (drop c.loop-count.at c.args.entries.now) ≡ Whole c.in-Whole.number c.in-Whole.direction c.in-Whole.start
whole c = framed_here c.args.entries.now c.loop-count.at c.frame_entry.ensures c.in-Whole.is

room : (c : In-Whole) → (c.in-Whole.start ≤ 5) × (c.loop-count.at + c.in-Whole.start + 256 ≤ length c.args.entries.now)
room c = entry_within _ _ _ _ _ _ c.loop-count.invariant c.loop-count-test.true _ _ _ (whole c)

either : (c : In-Whole) → c.in-Whole.direction < 2
either c = entry_direction _ _ _ _ _ _ c.loop-count.invariant c.loop-count-test.true _ _ _ (whole c)

pub returns-in_default : goal.returns-in_default
returns-in_default c =
    rw c.requires
    (c.stop.ensures
    ∙ running_ends _ _ _ _ _ _ c.loop-count.invariant (λ v d u e. c.in_default.not-Whole v d u (c.frame_entry.ensures ∙ ap framing (rest_is c.args.entries.now c.loop-count.at) ∙ e)))

pub overflow_add-begin : goal.overflow_add-begin
overflow_add-begin c = let r = (room (goal.at.overflow_add-begin c).In-Whole).1 in search rules

pub overflow_add-end : goal.overflow_add-end
overflow_add-end c = let r = (room (goal.at.overflow_add-end c).In-Whole).1 in search rules

pub overflow_cast-direction : goal.overflow_cast-direction
overflow_cast-direction c = let d = either (goal.at.overflow_cast-direction c).In-Whole in search rules

pub slice_bounds-audit-end : goal.slice_bounds-audit-end
slice_bounds-audit-end c = (room (goal.at.slice_bounds-audit-end c).In-Whole).1

pub returns-in-Err : goal.returns-in-Err
returns-in-Err c =
    rw c.requires
    (c.stop-in-Err.ensures
    ∙ running_refused _ _ _ _ _ _ c.loop-count.invariant c.loop-count-test.true _ _ _ (whole (goal.at.returns-in-Err c).In-Whole) _ (entry_is _ c.args.entries.now c.loop-count.at _ c.in-Whole.start c.audit-step.ensures) _ _ c.in-Err.is)

pub loop-count-preserved : goal.loop-count-preserved
loop-count-preserved c = let same : c.loop-count.at + (c.in-Whole.start + 256) ≡ c.loop-count.at + c.in-Whole.start + 256 = omega arith in
    subst (Running c.args.first max_run c.args.entries.now c.audit-step.result.ledger (c.loop-count.count + 1)) same
    (running_more _ _ _ _ _ _ c.loop-count.invariant c.loop-count-test.true _ _ _ (whole (goal.at.loop-count-preserved c).In-Whole) _ (entry_is _ c.args.entries.now c.loop-count.at _ c.in-Whole.start c.audit-step.ensures) c.in_default-answer.is)

pub returns : goal.returns
returns c = let few = c.loop-count.invariant.few in
    let all : max_run ≡ c.loop-count.count = omega arith in
    rw c.requires
    (c.stop-2.ensures
    ∙ ap (λ (n : ℕ). halted c.loop-count.ledger n c.loop-count.at Accepted) all
    ∙ running_full _ _ _ _ _ _ c.loop-count.invariant c.loop-count-test.false)
