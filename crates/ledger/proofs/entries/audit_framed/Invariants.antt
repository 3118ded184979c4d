use Rattle.ledger.proofs.RunLaws.{Running}
use Rattle.ledger.proofs.entries.audit_framed.Given as goal

abbrev pub invariant-loop-count : goal.invariant-loop-count
invariant-loop-count l = Running l.initial.state l.limit l.bytes l.state l.count l.at
