use Prim.Native.Nat.{◌%◌}
use mathlib.Core.Path.{ap}
use mathlib.Core.Bool.{not}
use native.Mathlib.Omega.{arith}
use Rattle.container.specs.Layout.{format_of}
use lib.ListN.{drop}
use Rattle.record.specs.Records.{message_of}
use Rattle.writer.proofs.CursorCases.{message_type, message_op, message_part, may_start}
use Rattle.writer.proofs.cursor.Cursor.start_message.Goals as goal

pub returns : goal.returns
returns c =
    let within = c.requires.skip_bound in
    let first = c.byte_at-msgtype in
    let second = c.byte_at-op in
    let kind = message_type c.args.input.list.now c.args.self.at c.args.skip c.args.end first.result (omega arith) first.ensures in
    let op = message_op c.args.input.list.now c.args.self.at c.args.skip c.args.end second.result (omega arith) second.ensures in
    let may = may_start (format_of c.args.input.format) c.args.input.grant c.args.g c.args.self (message_of (drop c.args.self.at c.args.input.list.now) c.args.skip c.args.end) (first.result % 16) second.result c.admits.result
    kind op c.admits.ensures (ap not c.if-not-admits.false) in
    let taken = message_part c.args.input.list.now c.args.self.at c.args.skip c.args.end c.measure_granule-width.result c.min-stop.result (omega arith) c.min-stop.ensures in
    record {
      cursor = rw may (rw (kind, c.measure_granule-width.ensures) at c.take_record.ensures);
      bytes = rw may (rw (taken, c.measure_granule-width.ensures) at c.fill_granule.ensures);
    }
