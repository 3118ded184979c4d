use Rattle.ledger.proofs.RunLaws.{Running}
use Rattle.audit_probe.specs.Audit.{max_run}
use Rattle.audit_probe.proofs.run_each.Given as goal

abbrev pub invariant-loop-count : goal.invariant-loop-count
invariant-loop-count l = Running l.initial.ledger max_run l.entries l.ledger l.count l.at
