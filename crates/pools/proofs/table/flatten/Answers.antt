use Rattle.pools.proofs.TableLaws.{rows_of, flat_put}
use Rattle.pools.proofs.table.flatten.Goals as goal

pub returns : goal.returns
returns c = flat_put c.args.rows (rows_of c.args.rows _ c.well_formed.0) c.put_row.ensures c.put_row-2.ensures
