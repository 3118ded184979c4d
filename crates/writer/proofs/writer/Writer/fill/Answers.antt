use mathlib.Core.Path.{◌≡◌, sym, ◌∙◌}
use native.Mathlib.Omega.{arith}
use lib.ListN.{length}
use borrow.Author.Rules.{rules}
use Rattle.writer.specs.Filling.{fill_fault}
use Rattle.writer.proofs.StateCases.{Callable, fill_callable}
use Rattle.writer.proofs.AnswerLaws.{tail_fits, sane, fill_done, bytes_done}
use Rattle.writer.proofs.writer.Writer.fill.Goals.{In_default}
use Rattle.writer.proofs.writer.Writer.fill.Goals as goal
use Rattle.cause.specs.Checks.{Accepted}

-- the tail's array, and the verdict behind which the container is filled
long : (c : In_default) → length c.args.self.tail ≡ 100
long c = search rules

sound : (c : In_default) → fill_fault c.args.self c.args.list.now c.args.grant (length c.args.container.now) ≡ Accepted
sound c = sym c.check_fill.ensures ∙ c.in_default.is

can : (c : In_default) → Callable c.args.self c.args.list.now c.args.grant (length c.args.container.now)
can c = fill_callable c.args.self c.args.list.now c.args.grant (length c.args.container.now) (sound c)

pub unwrap-container-requires : goal.unwrap-container-requires
unwrap-container-requires c = c.as_mut_array.ensures.variant.1 (can ((goal.at.unwrap-container-requires c).In_default)).whole

pub shared_ref_as_front-input : goal.shared_ref_as_front-input
shared_ref_as_front-input c =
    let d = (goal.at.shared_ref_as_front-input c).In_default in
    omega (arith, long d, (can d).valid.short)

pub invariant_of-input : goal.invariant_of-input
invariant_of-input c =
    let d = (goal.at.invariant_of-input c).In_default in
    record { list_fits = (can d).short; tail_fits = tail_fits c.args.self c.args.list.now c.args.grant c.args.container.now (long d) (sound d) }

pub write_header-requires : goal.write_header-requires
write_header-requires c =
    let d = (goal.at.write_header-requires c).In_default in
    (can d).plane

pub keep_tail-requires : goal.keep_tail-requires
keep_tail-requires c =
    let d = (goal.at.keep_tail-requires c).In_default in
    let f = c.fill_granules-cursor in
    sane c.args.self c.args.list.now c.args.grant c.args.container.now (long d) (sound d) f.result f.ensures.cursor

pub returns : goal.returns
returns c =
    let d = (goal.at.returns c).In_default in
    let f = c.fill_granules-cursor in
    record {
      step = fill_done c.args.self c.args.list.now c.args.grant c.args.container.now (long d) (sound d) f.result f.ensures.cursor c.keep_tail.result c.keep_tail.ensures;
      bytes = bytes_done c.args.self c.args.list.now c.args.grant c.args.container.now (long d) (sound d) f.result f.ensures.cursor _ _ f.ensures.bytes c.write_header.ensures;
    }
