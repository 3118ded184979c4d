use Prim.Native.Nat.{ℕ, ◌-◌}
use mathlib.Core.List.{List}
use Rattle.container.specs.Layout.{format_of}
use Rattle.reader.specs.TrackingMirror.{gathered}
use Rattle.reader.proofs.GatherLaws.{both_put}
use Rattle.reader.proofs.contents.Contents.gather_message.Goals.{Start}
use Rattle.reader.proofs.contents.Contents.gather_message.Goals as goal

-- the bytes behind what is kept of the carry

abbrev behind : Start → List ℕ
behind s = gathered (format_of s.args.self.format) s.args.self.container.now s.args.track.from (s.args.g - s.args.track.from)

pub returns : goal.returns
returns c = both_put c.args.self.carry.now c.args.track.kept c.args.at (behind (goal.at.returns c).Start) c.args.out.now c.requires.kept_le_carry c.requires.g_in_bounds _ c.copy_into.ensures _ c.gather_granules.ensures
