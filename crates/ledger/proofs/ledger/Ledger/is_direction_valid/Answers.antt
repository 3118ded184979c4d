use Rattle.ledger.proofs.LedgerCases.{reader_fails, direction_decides}
use Rattle.ledger.proofs.ledger.Ledger.is_direction_valid.Goals as goal

pub returns-then-is_valid : goal.returns-then-is_valid
returns-then-is_valid c = direction_decides c.args.self c.args.direction c.choose_receiver-receiver.ensures c.is_valid.ensures c.if-not-is_valid.false c.choose_reader-reader.ensures c.is_valid-2.ensures c.if-is_valid.true c.keeps_pools.ensures

pub returns-else-is_valid : goal.returns-else-is_valid
returns-else-is_valid c = reader_fails c.args.self c.args.direction c.choose_receiver-receiver.ensures c.is_valid.ensures c.if-not-is_valid.false c.choose_reader-reader.ensures c.is_valid-2.ensures c.if-is_valid.false
