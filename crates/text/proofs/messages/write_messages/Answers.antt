use mathlib.Core.Path.{◌≡◌, refl, sym, ◌∙◌}
use native.Mathlib.Omega.{arith}
use borrow.Author.Rules.{rules}
use lib.ListN.{drop}
use Rattle.record.specs.Records.{first_of}
use Rattle.record.specs.declared.list.First.TheVariants.{Whole}
use Rattle.record.proofs.RecordLaws.{found}
use Rattle.text.proofs.MessageLaws.{lines_over, lined_none, too_small, lined_all, Turn, turn, line_asks, lined_more}
use Rattle.text.proofs.messages.write_messages.Goals.{In-Whole}
use Rattle.text.proofs.messages.write_messages.Goals as goal

pub returns-then-room-list : goal.returns-then-room-list
returns-then-room-list c = let both = too_small c.args.list.now c.args.room.now c.if-room-list.true in record { end = both.0; room = both.1 }

pub loop-start-init : goal.loop-start-init
loop-start-init c = lined_none _ _

-- the record of a turn

whole : (c : In-Whole) → first_of (drop c.loop-start.at c.args.list.now) ≡ Whole c.in-Whole.start c.in-Whole.end
whole c = found c.args.list.now c.loop-start.at _ _ c.read_record.ensures c.in-Whole.is

passed : (c : In-Whole) → Turn c.args.list.now c.loop-start.room c.loop-start.at c.loop-start.to c.in-Whole.start c.in-Whole.end
passed c = turn _ _ _ _ _ c.if-room-list.false c.loop-start.invariant (λ i. (c.type_inv.list i).fits) _ _ (whole c)

pub overflow_add-from : goal.overflow_add-from
overflow_add-from c = let h = passed (goal.at.overflow_add-from c).In-Whole in search rules

pub overflow_add-at : goal.overflow_add-at
overflow_add-at c = let h = passed (goal.at.overflow_add-at c).In-Whole in search rules

pub slice_bounds-write_line-count : goal.slice_bounds-write_line-count
slice_bounds-write_line-count c = let h = passed (goal.at.slice_bounds-write_line-count c).In-Whole in search rules

pub slice_bounds-write_line-start : goal.slice_bounds-write_line-start
slice_bounds-write_line-start c = let h = passed (goal.at.slice_bounds-write_line-start c).In-Whole in search rules

pub slice_bounds-write_line-end : goal.slice_bounds-write_line-end
slice_bounds-write_line-end c = let h = passed (goal.at.slice_bounds-write_line-end c).In-Whole in search rules

pub write_line-to-requires : goal.write_line-to-requires
write_line-to-requires c =
    line_asks _ _ _ _ _ c.if-room-list.false c.loop-start.invariant (λ i. (c.type_inv.list i).fits) _ _ (whole (goal.at.write_line-to-requires c).In-Whole)

pub loop-start-smaller : goal.loop-start-smaller
loop-start-smaller c = let h = passed (goal.at.loop-start-smaller c).In-Whole in omega arith

-- the lines behind the turn

pub loop-start-preserved : goal.loop-start-preserved
loop-start-preserved c =
    lined_more _ _ _ _ _ c.if-room-list.false c.loop-start.invariant (λ i. (c.type_inv.list i).fits) _ _
    (whole (goal.at.loop-start-preserved c).In-Whole) _ _ c.write_line-to.ensures.end c.write_line-to.ensures.room

pub returns : goal.returns
returns c =
    let there = found c.args.list.now c.loop-start.at _ _ c.read_record.ensures refl in
    let none = lines_over (drop c.loop-start.at c.args.list.now) (λ start end e. c.in_default.not-Whole start end (sym there ∙ e)) in
    let both = lined_all c.args.list.now _ _ _ _ c.if-room-list.false c.loop-start.invariant none in
    record { end = both.0; room = both.1 }
