use Rattle.reader.proofs.WriteLaws.{Writing}
use Rattle.reader.proofs.contents.Contents.write_endings.Given as goal

abbrev pub invariant-loop-g : goal.invariant-loop-g
invariant-loop-g l = Writing l.self.format l.self.container.now l.self.carry.now l.initial.room l.room l.track l.at l.g
