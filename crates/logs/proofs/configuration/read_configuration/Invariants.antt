use Rattle.logs.proofs.ConfigurationLaws.{Setting-at}
use Rattle.logs.proofs.configuration.read_configuration.Given as goal

abbrev pub invariant-loop-i : goal.invariant-loop-i
invariant-loop-i l = Setting-at l.bytes l.numbers l.at l.i
