use Rattle.reader.proofs.GatherLaws.{Gathering}
use Rattle.reader.proofs.contents.Contents.gather_granules.Given as goal

abbrev pub invariant-loop-g : goal.invariant-loop-g
invariant-loop-g l = Gathering l.self.format l.self.container.now l.from l.to l.at l.initial.out l.out l.g l.end
