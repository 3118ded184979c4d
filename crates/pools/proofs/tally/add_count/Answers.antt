use Rattle.pools.proofs.TallyLaws.{raised_one}
use Rattle.pools.proofs.tally.add_count.Goals as goal

pub returns : goal.returns
returns c = rw c.add.ensures (raised_one c.args.counts.now c.args.pool c.args.amount.0 c.told-counts c.requires.0)
