use Prim.Native.Nat.{◌+◌}
use mathlib.Core.Path.{refl}
use native.Mathlib.Omega.{arith}
use native.Mathlib.Nat.{zero-add}
use lib.Bits.{bit_or}
use Rattle.slices.proofs.ZeroTest.{joined_zero, or_zero, ends_zero}
use Rattle.slices.proofs.bytes.is_zero.Goals.{else-loop-i-test, then-loop-i-test+else-last-i-gt16}
use Rattle.slices.proofs.bytes.is_zero.Goals as goal

pub returns-then-part-lt16 : goal.returns-then-part-lt16
returns-then-part-lt16 c = c.is_short_zero.ensures

pub loop-i-init : goal.loop-i-init
loop-i-init c = refl

pub join_sixteen-bits-requires : goal.join_sixteen-bits-requires
join_sixteen-bits-requires c = omega arith

pub loop-i-smaller : goal.loop-i-smaller
loop-i-smaller c = omega arith

pub loop-i-preserved : goal.loop-i-preserved
loop-i-preserved c = let l = c.args.part.now in
    let bits = c.loop-i.bits in
    let more = c.join_sixteen-bits.result in
    let i = c.loop-i.i in
    joined_zero l 0 i 16 bits more (bit_or bits more) c.loop-i.invariant (rw (zero-add i) c.join_sixteen-bits.ensures) (or_zero bits more)

pub join_sixteen-requires : goal.join_sixteen-requires
join_sixteen-requires c = omega arith

pub returns : goal.returns
returns c = let l = c.args.part.now in
    let bits = c.loop-i.bits in
    let i = c.loop-i.i in
    elim c.loop-i-test.branch [
      | else-loop-i-test w ↦
          let b = w.bits-is in
          let t = w.loop-i-test.false in
          rw b (ends_zero l i 16 bits c.join_sixteen.result (omega arith) t c.loop-i.invariant c.join_sixteen.ensures)
      | then-loop-i-test+else-last-i-gt16 w ↦
          let b = w.bits-is in
          let j = w.join_sixteen-bits in
          let more = w.join_sixteen-bits.result in
          let now = joined_zero l 0 i 16 bits more (bit_or bits more) c.loop-i.invariant (rw (zero-add i) w.join_sixteen-bits.ensures) (or_zero bits more) in
          rw b (ends_zero l (i + 16) 16 (bit_or bits more) c.join_sixteen.result (omega arith) (omega arith) now c.join_sixteen.ensures)
    ]
