use Prim.Native.Nat.{◌+◌, ◌-◌, ◌*◌}
use mathlib.Core.Path.{sym, ◌∙◌}
use borrow.Author.Rules.{rules}
use borrow.Rule.Slice.PartMut.{put_mid}
use native.Mathlib.Omega.{arith}
use Rattle.pack.proofs.Fills.{Packed, packed_none, packed_out, packed_done, packed_refused, packed_more}
use Rattle.pack.proofs.packing.pack_list.Goals.{In-Accepted}
use Rattle.pack.proofs.packing.pack_list.Goals as goal

pub loop-i-init : goal.loop-i-init
loop-i-init c = packed_none _ _ _ _ c.requires.0

pub returns-then-is_done : goal.returns-then-is_done
returns-then-is_done c = packed_done _ _ _ _ _ _ _ c.loop-i.invariant c.requires.1 (λ i. (c.type_inv.list i).fits) (sym c.is_done.ensures ∙ c.if-is_done.true)

pub returns-in-Refused : goal.returns-in-Refused
returns-in-Refused c =
    packed_refused _ _ _ _ _ _ _ c.loop-i.invariant c.requires.1 (λ i. (c.type_inv.list i).fits) c.requires.2 (omega arith)
    _ _ c.fill_container-step.ensures.step c.fill_container-step.ensures.bytes _ _ c.in-Refused.is

-- one container more

more : (c : In-Accepted)
    → Packed c.args.fresh.format c.args.list.now c.args.room.now
    (put_mid (256 * c.loop-i.i) ((256 * c.loop-i.i + 256) - 256 * c.loop-i.i) c.loop-i.room c.fill_container-step.new.container)
    c.fill_container-step.result.writer (c.loop-i.at + c.in-Accepted.used) (256 * (c.loop-i.i + 1))
more c =
    packed_more _ _ _ _ _ _ _ c.loop-i.invariant c.requires.1 (λ i. (c.type_inv.list i).fits) c.requires.2 (omega arith)
    _ _ c.fill_container-step.ensures.step c.fill_container-step.ensures.bytes _ c.in-Accepted.is
    (sym c.is_done.ensures ∙ c.if-is_done.false) _ (omega arith)

pub overflow_add-at : goal.overflow_add-at
overflow_add-at c = let h = more (goal.at.overflow_add-at c).In-Accepted in search rules

pub loop-i-preserved : goal.loop-i-preserved
loop-i-preserved c = more (goal.at.loop-i-preserved c).In-Accepted

pub returns : goal.returns
returns c = packed_out _ _ _ _ _ _ _ c.loop-i.invariant (omega arith)
