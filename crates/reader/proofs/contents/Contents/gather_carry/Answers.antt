use Prim.Native.Nat.{◌<◌}
use native.Mathlib.Omega.{arith}
use Rattle.container.specs.Layout.{format_of}
use Rattle.reader.specs.TrackingMirror.{gathered_message}
use Rattle.reader.proofs.GatherLaws.{carried_some}
use Rattle.reader.proofs.contents.Contents.gather_carry.Goals as goal

pub returns : goal.returns
returns c = let some : 0 < c.args.track.owed = omega arith in
    carried_some c.args.track.owed (gathered_message (format_of c.args.self.format) c.args.self.container.now c.args.self.carry.now c.args.track 12) c.if-track-eq0.false _ (c.requires.from_bound.1 some).0 _
    c.gather_message.ensures
