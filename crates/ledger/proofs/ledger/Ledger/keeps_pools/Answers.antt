use Rattle.ledger.proofs.LedgerCases.{pools_decide, counts_pools}
use Rattle.ledger.proofs.ledger.Ledger.keeps_pools.Goals as goal

pub returns-then-is_payable : goal.returns-then-is_payable
returns-then-is_payable c = let s = c.args.self in
    let d = c.args.direction in
    pools_decide s d c.requires.direction_bound.1 c.requires.carry_value c.byte_at-byte0.ensures c.byte_at-byte1.ensures c.is_payable.ensures c.if-is_payable.true
    (counts_pools s d c.requires.direction_bound.0 c.nest.ensures c.nest-then-is_payable.ensures c.requires.carry_value c.count_carry.ensures c.requires.direction_bound.1 c.keeps_counts.ensures)
