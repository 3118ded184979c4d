use Prim.Native.Nat.{ℕ, ◌+◌, ◌≤◌, ◌<◌}
use mathlib.Core.Path.{◌≡◌, refl, ap, subst, ◌∙◌}
use mathlib.Core.List.{List}
use native.Mathlib.Omega.{arith}
use lib.ListN.{length, drop}
use borrow.Author.Rules.{rules}
use Rattle.lists.proofs.PartLaws.{rest_is}
use Rattle.frame.specs.Framing.{framing}
use Rattle.frame.specs.declared.Framed.TheVariants.{Whole}
use Rattle.ledger.specs.Audit.{unchanged, auditing}
use Rattle.ledger.specs.Run.{halted}
use Rattle.ledger.specs.declared.ledger.Ledger.{Ledger}
use Rattle.ledger.specs.declared.ledger.Step.{Step}
use Rattle.ledger.proofs.RunLaws.{step_at, Running, running_full, running_ends, entry_within, entry_direction, running_refused, running_back, running_more, framed_here, front_is}
use Rattle.ledger.proofs.entries.audit_framed.Goals.{In-Whole, After-unwrap, then-not-is_entry_idle+in_default-answer, else-not-is_entry_idle}
use Rattle.ledger.proofs.entries.audit_framed.Goals as goal
use Rattle.std.specs.Prelude.{Err}
use Rattle.cause.specs.Checks.{Accepted}

-- ---- a whole entry is at hand

abbrev bytes : In-Whole → List ℕ
bytes c = c.args.bytes.now

abbrev here : In-Whole → ℕ
here c = c.loop-count.at

abbrev side : In-Whole → ℕ
side c = c.in-Whole.direction

abbrev width : In-Whole → ℕ
width c = c.in-Whole.start

whole : (c : In-Whole) → framing (drop (here c) (bytes c)) ≡ Whole c.in-Whole.number (side c) (width c)
whole c = framed_here (bytes c) (here c) c.frame_entry.ensures c.in-Whole.is

room : (c : In-Whole) → (width c ≤ 5) × (here c + width c + 256 ≤ length (bytes c))
room c = entry_within _ _ _ _ _ _ c.loop-count.invariant c.loop-count-test.true _ _ _ (whole c)

either : (c : In-Whole) → side c < 2
either c = entry_direction _ _ _ _ _ _ c.loop-count.invariant c.loop-count-test.true _ _ _ (whole c)

-- its container is what the audit is handed

handed : (c : After-unwrap) {t : Step} → t ≡ auditing c.loop-count.state c.in-Whole.direction c.unwrap.result.now → t ≡ step_at c.loop-count.state c.loop-count.at c.args.bytes.now c.in-Whole.direction c.in-Whole.start
handed c = front_is c.loop-count.state c.args.bytes.now c.loop-count.at c.in-Whole.direction c.in-Whole.start (rw c.unwrap.ensures at c.first_chunk.ensures.cases).same

-- an accepted entry leads to the next

gone-on : (c : In-Whole) (t : Step) {s : Ledger} → t ≡ step_at c.loop-count.state (here c) (bytes c) (side c) (width c) → t.answer ≡ Accepted → s ≡ t.ledger
    → Running c.args.ledger c.args.limit (bytes c) s (c.loop-count.count + 1) (here c + width c + 256)
gone-on c t q a e =
    let same : here c + (width c + 256) ≡ here c + width c + 256 = omega arith in
    rw e (subst (Running c.args.ledger c.args.limit (bytes c) t.ledger (c.loop-count.count + 1)) same
    (running_more _ _ _ _ _ _ c.loop-count.invariant c.loop-count-test.true _ _ _ (whole c) t q a))

pub returns-in_default : goal.returns-in_default
returns-in_default c = let l = c.args.bytes.now in
    c.stop.ensures
    ∙ running_ends _ _ _ _ _ _ c.loop-count.invariant
    (λ v d u e.
    let q = c.frame_entry.ensures ∙ ap framing (rest_is l c.loop-count.at) ∙ e in
    c.in_default.not-Whole v d u q)

pub overflow_add-begin : goal.overflow_add-begin
overflow_add-begin c = let r = (room (goal.at.overflow_add-begin c).In-Whole).1 in search rules

pub slice_bounds-first_chunk-count : goal.slice_bounds-first_chunk-count
slice_bounds-first_chunk-count c = let r = (room (goal.at.slice_bounds-first_chunk-count c).In-Whole).1 in omega arith

pub slice_bounds-first_chunk-start : goal.slice_bounds-first_chunk-start
slice_bounds-first_chunk-start c = let r = (room (goal.at.slice_bounds-first_chunk-start c).In-Whole).1 in search rules

pub unwrap-requires : goal.unwrap-requires
unwrap-requires c = let r = (room (goal.at.unwrap-requires c).In-Whole).1 in search rules

pub invariant_of-entry : goal.invariant_of-entry
invariant_of-entry c = record { is_direction = either (goal.at.invariant_of-entry c).In-Whole }

pub returns-in-Err : goal.returns-in-Err
returns-in-Err c = let told = c.in-Err.is in
    let more = c.loop-count-test.true in
    let step = handed (goal.at.returns-in-Err c).After-unwrap c.audit_contents-step.ensures in
    c.stop-in-Err.ensures
    ∙ ap (λ (s : Ledger). halted s c.loop-count.count c.loop-count.at (Err c.in-Err.fault))
    (running_back _ _ _ _ _ _ c.loop-count.invariant more _ _ _ (whole (goal.at.returns-in-Err c).In-Whole) c.audit_contents-step.result step _ _ told)
    ∙ running_refused _ _ _ _ _ _ c.loop-count.invariant more _ _ _ (whole (goal.at.returns-in-Err c).In-Whole) c.audit_contents-step.result step _ _ told

pub loop-count-preserved : goal.loop-count-preserved
loop-count-preserved c = let s = c.loop-count.state in
    elim c.if-not-is_entry_idle.branch [
      | then-not-is_entry_idle+in_default-answer w ↦ gone-on (goal.at.loop-count-preserved c).In-Whole w.audit_contents-step.result (handed (goal.at.loop-count-preserved c).After-unwrap w.audit_contents-step.ensures) w.in_default-answer.is w.state-is
      | else-not-is_entry_idle w ↦ gone-on (goal.at.loop-count-preserved c).In-Whole (unchanged s) (handed (goal.at.loop-count-preserved c).After-unwrap (c.is_entry_idle.ensures.self_value w.if-not-is_entry_idle.false)) refl w.state-is
    ]

pub returns : goal.returns
returns c = let few = c.loop-count.invariant.few in
    let all : c.args.limit ≡ c.loop-count.count = omega arith in
    c.stop-2.ensures
    ∙ ap (λ (n : ℕ). halted c.loop-count.state n c.loop-count.at Accepted) all
    ∙ running_full _ _ _ _ _ _ c.loop-count.invariant c.loop-count-test.false
