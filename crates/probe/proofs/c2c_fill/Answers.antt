use mathlib.Core.Path.{◌≡◌, sym, ap, ◌∙◌}
use lib.ListN.{length}
use Rattle.probe.specs.Fill.{writer_from}
use Rattle.probe.proofs.FillLaws.{copied_over, step_small, code_unsized, tail_unsized, container_unsized, code_sized, tail_sized, container_sized, other_tail, other_grant, other_bit, right_sizes}
use borrow.Author.Rules.{rules}
use Rattle.probe.proofs.c2c_fill.Goals as goal

pub returns-then-tail-ne100 : goal.returns-then-tail-ne100
returns-then-tail-ne100 c = let t = c.args.tail.now in
    let b = c.args.grant.now in
    let l = c.args.list.now in
    let d = other_tail t b c.if-tail-ne100.true in record { code = code_unsized c.args.format c.args.len t b l d _; tail = tail_unsized c.args.format c.args.len t b l d _; bytes = container_unsized c.args.format c.args.len t b l d _ }

pub returns-then-grant-ne6 : goal.returns-then-grant-ne6
returns-then-grant-ne6 c = let t = c.args.tail.now in
    let b = c.args.grant.now in
    let l = c.args.list.now in
    let d = other_grant t b c.if-tail-ne100.false c.if-grant-ne6.true in record { code = code_unsized c.args.format c.args.len t b l d _; tail = tail_unsized c.args.format c.args.len t b l d _; bytes = container_unsized c.args.format c.args.len t b l d _ }

pub returns-then-grant-ge2 : goal.returns-then-grant-ge2
returns-then-grant-ge2 c = let t = c.args.tail.now in
    let b = c.args.grant.now in
    let l = c.args.list.now in
    let d = other_bit t b c.if-tail-ne100.false c.if-grant-ne6.false c.if-grant-ge2.true in record { code = code_unsized c.args.format c.args.len t b l d _; tail = tail_unsized c.args.format c.args.len t b l d _; bytes = container_unsized c.args.format c.args.len t b l d _ }

pub encode_answer-requires : goal.encode_answer-requires
encode_answer-requires c = let long = ap length c.load_tail.ensures ∙ c.if-tail-ne100.false in
    step_small (writer_from c.args.format c.args.len c.load_tail.result) c.args.list.now c.load_grant.result (length c.args.container.now) long c.fill-step.result c.fill-step.ensures.step

pub returns : goal.returns
returns c = let t = c.args.tail.now in
    let b = c.args.grant.now in
    let l = c.args.list.now in
    let d = c.args.container.now in
    let whole = c.if-tail-ne100.false in
    let right = right_sizes t b whole c.if-grant-ne6.false c.if-grant-ge2.false in
    let long : length c.fill-step.result.writer.tail ≡ 100 = search rules in
    let stored = c.copy_into.ensures ∙ copied_over c.fill-step.result.writer.tail t (long ∙ sym whole) in record { code = code_sized c.args.format c.args.len t b l right c.load_tail.result c.load_tail.ensures c.load_grant.result c.load_grant.ensures (length d) c.fill-step.result c.fill-step.ensures.step _ c.encode_answer.ensures; tail = tail_sized c.args.format c.args.len t b l right c.load_tail.result c.load_tail.ensures c.load_grant.result c.load_grant.ensures (length d) c.fill-step.result c.fill-step.ensures.step _ stored; bytes = container_sized c.args.format c.args.len t b l right c.load_tail.result c.load_tail.ensures c.load_grant.result c.load_grant.ensures d _ c.fill-step.ensures.bytes }
