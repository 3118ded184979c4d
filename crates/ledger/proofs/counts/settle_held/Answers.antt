use mathlib.Core.Path.{◌∙◌}
use native.Mathlib.Omega.{arith}
use Rattle.ledger.proofs.CountLaws.{raised_is, settled_more, settled_all}
use Rattle.pools.proofs.TableLaws.{rows_of}
use Rattle.ledger.proofs.counts.settle_held.Goals as goal

pub loop-p-preserved : goal.loop-p-preserved
loop-p-preserved c = (
  omega arith,
  settled_more c.args.held c.args.begun c.args.granted (rows_of c.args.held _ c.well_formed.0) c.loop-p.p c.loop-p-test.true c.args.direction c.requires.direction_bound c.loop-p.invariant.1 c.spend.ensures (raised_is _ _ (c.requires.by_index_2 c.loop-p.p) c.raise.ensures),
)

pub returns : goal.returns
returns c = c.loop-p.invariant.1 ∙ settled_all c.args.direction c.args.held c.args.begun c.args.granted (rows_of c.args.held _ c.well_formed.0) c.loop-p.p c.loop-p-test.false
