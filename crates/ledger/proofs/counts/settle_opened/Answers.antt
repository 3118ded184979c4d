use mathlib.Core.Path.{◌≡◌}
use lib.ListN.{length}
use borrow.Author.Rules.{rules}
use Rattle.ledger.proofs.CountLaws.{opened_set}
use Rattle.pools.proofs.TableLaws.{rows_of}
use Rattle.ledger.proofs.counts.settle_opened.Goals as goal

pub returns : goal.returns
returns c = let long : length c.args.paid ≡ 14 = search rules in
    opened_set c.args.direction c.requires c.args.opened (rows_of c.args.opened _ c.well_formed.0) c.args.paid long
