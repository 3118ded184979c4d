use mathlib.Core.Path.{◌≡◌, refl}
use Rattle.message.specs.Heads.{well_headed}
use Rattle.message.proofs.HeadCases.{bytes_break, grant_decides}
use Rattle.reader.proofs.CellLaws.{unknown, misplaced, misheaded, start_not, start_fine}
use mathlib.Core.Path.{ap}
use mathlib.Core.Bool.{not}
use Rattle.reader.proofs.cell.judge_start.Goals.{After-keeps_grant, then-not-keeps_bytes-via-then-not-keeps_bytes, then-not-keeps_bytes-via-else-not-keeps_bytes+then-not-keeps_grant}
use Rattle.reader.proofs.cell.judge_start.Goals as goal

pub returns-then-size-eq0 : goal.returns-then-size-eq0
returns-then-size-eq0 c = unknown _ _ c.args.part.now c.byte_at-byte0.ensures c.byte_at-op.ensures c.measure_code-size.ensures c.if-size-eq0.true

pub returns-then-not-may_start : goal.returns-then-not-may_start
returns-then-not-may_start c = misplaced _ _ c.args.part.now c.byte_at-byte0.ensures c.byte_at-op.ensures c.measure_code-size.ensures c.if-size-eq0.false c.may_start.ensures (ap not c.if-not-may_start.true)

pub returns-then-not-keeps_bytes : goal.returns-then-not-keeps_bytes
returns-then-not-keeps_bytes c = let part = c.args.part.now in
    elim c.then-not-keeps_bytes.branch [
      | then-not-keeps_bytes-via-then-not-keeps_bytes w ↦
          let wrong = bytes_break part c.byte_at-byte0.ensures c.byte_at-op.ensures c.byte_at.ensures c.keeps_bytes.ensures w.if-not-keeps_bytes.true in
          misheaded _ _ part c.byte_at-byte0.ensures c.byte_at-op.ensures c.measure_code-size.ensures c.if-size-eq0.false c.may_start.ensures (ap not c.if-not-may_start.false) wrong refl
      | then-not-keeps_bytes-via-else-not-keeps_bytes+then-not-keeps_grant w ↦
          let headed = grant_decides part c.byte_at-byte0.ensures c.byte_at-op.ensures c.byte_at.ensures c.keeps_bytes.ensures w.if-not-keeps_bytes.false w.keeps_grant.ensures in
          misheaded _ _ part c.byte_at-byte0.ensures c.byte_at-op.ensures c.measure_code-size.ensures c.if-size-eq0.false c.may_start.ensures (ap not c.if-not-may_start.false) headed (ap not w.if-not-keeps_grant.true)
    ]

-- where bytes 0 to 2 are right, the test of a CrdtGrant decides

headed-is : (c : After-keeps_grant) → c.keeps_grant.result ≡ well_headed c.args.part.now
headed-is c =
    grant_decides c.args.part.now c.byte_at-byte0.ensures c.byte_at-op.ensures c.byte_at.ensures c.keeps_bytes.ensures (c.if-not-keeps_bytes.false) c.keeps_grant.ensures

pub returns-then-not-is_zero_from : goal.returns-then-not-is_zero_from
returns-then-not-is_zero_from c = start_not _ _ c.args.part.now c.byte_at-byte0.ensures c.byte_at-op.ensures c.measure_code-size.ensures c.if-size-eq0.false c.may_start.ensures (ap not c.if-not-may_start.false) (headed-is (goal.at.returns-then-not-is_zero_from c).After-keeps_grant) (ap not c.if-not-keeps_grant.false) c.is_zero_from.ensures (ap not c.if-not-is_zero_from.true)

pub returns : goal.returns
returns c = start_fine _ _ c.args.part.now c.byte_at-byte0.ensures c.byte_at-op.ensures c.measure_code-size.ensures c.if-size-eq0.false c.may_start.ensures (ap not c.if-not-may_start.false) (headed-is (goal.at.returns c).After-keeps_grant) (ap not c.if-not-keeps_grant.false) c.is_zero_from.ensures (ap not c.if-not-is_zero_from.false) c.mark_start.ensures
