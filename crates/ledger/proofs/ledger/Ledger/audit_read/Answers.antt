use borrow.Author.Rules.{rules}
use Rattle.ledger.proofs.AuditLaws.{next_short, begun_refused, granted_refused, audit_settles}
use Rattle.ledger.proofs.ledger.Ledger.audit_read.Goals as goal

pub settle-requires : goal.settle-requires
settle-requires c = (c.args.entry.is_direction, next_short c.args.self _ _ c.args.entry.is_direction c.requires.valid (search rules) c.requires.container_value c.requires.next_value)

pub returns-in-Err : goal.returns-in-Err
returns-in-Err c = begun_refused _ _ _ c.args.entry.is_direction c.requires.valid (search rules) c.requires.container_value c.choose_receiver.ensures c.requires.grant_value.1 c.tally_begun.ensures c.in-Err.is c.refuse.ensures

pub returns-in-Err-tally_granted : goal.returns-in-Err-tally_granted
returns-in-Err-tally_granted c = granted_refused _ _ _ c.args.entry.is_direction c.requires.valid (search rules) c.requires.container_value c.choose_receiver.ensures c.requires.grant_value.1 c.tally_begun.ensures c.in-Ok.is
    c.choose_receiver-other.ensures c.requires.grant_value.0 c.tally_granted.ensures c.in-Err-tally_granted.is c.refuse-in-Err-tally_granted.ensures

pub returns : goal.returns
returns c = audit_settles _ _ _ c.args.entry.is_direction c.requires.valid (search rules) c.requires.container_value c.choose_receiver.ensures c.requires.grant_value.1 c.tally_begun.ensures c.in-Ok.is
    c.choose_receiver-other.ensures c.requires.grant_value.0 c.tally_granted.ensures c.in-Ok-tally_granted.is c.requires.next_value c.settle.ensures
