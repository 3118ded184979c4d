use Rattle.reader.proofs.ScanLaws.{Scanning}
use Rattle.reader.proofs.contents.Contents.judge_container.Given as goal

abbrev pub invariant-loop-g : goal.invariant-loop-g
invariant-loop-g l = Scanning l.self.format l.self.container.now l.self.carry.now l.marks l.track l.g-counter
