use Prim.Native.Nat.{◌+◌}
use native.Mathlib.Omega.{arith}
use Rattle.container.specs.Layout.{format_of}
use Rattle.reader.specs.TrackingMirror.{gathered_message}
use Rattle.reader.proofs.RecordsLaws.{record_written}
use Rattle.reader.proofs.contents.Contents.write_long.Goals as goal

pub returns : goal.returns
returns c = let message = gathered_message (format_of c.args.self.format) c.args.self.container.now c.args.self.carry.now c.args.track (c.args.g + 1) in
    let w = record_written c.args.room.now c.args.at c.args.track.size message _ c.requires.size_value.0 (omega arith) c.requires.size_in_bounds c.gather_message.ensures in
    record { end = w.end; room = w.room }
