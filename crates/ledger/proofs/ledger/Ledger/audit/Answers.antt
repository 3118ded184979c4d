use Rattle.ledger.proofs.AuditLaws.{audit_invalid, audit_long, audit_admitted}
use mathlib.Core.Path.{ap}
use mathlib.Core.Bool.{not}
use Rattle.ledger.proofs.ledger.Ledger.audit.Goals as goal

pub returns-then-not-admits : goal.returns-then-not-admits
returns-then-not-admits c = audit_invalid c.args.self c.args.direction c.args.container.now c.admits.ensures (ap not c.if-not-admits.true) c.at.ensures c.refuse.ensures

pub returns-in_default : goal.returns-in_default
returns-in_default c = audit_long c.args.self c.args.direction c.args.container.now c.admits.ensures (ap not c.if-not-admits.false) c.in_default.ensures.1 c.at-in_default.ensures c.refuse-in_default.ensures

pub audit_valid-requires : goal.audit_valid-requires
audit_valid-requires c = (audit_admitted c.args.self c.args.direction c.args.container.now c.admits.ensures (ap not c.if-not-admits.false)).1
