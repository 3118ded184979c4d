use mathlib.Core.Path.{sym, ◌∙◌}
use Rattle.pools.proofs.GrantedLaws.{none_given}
use Rattle.pools.proofs.starts.Starts.grant_granule.Goals as goal

pub returns-then-not-is_misc-clause-counts : goal.returns-then-not-is_misc-clause-counts
returns-then-not-is_misc-clause-counts c = λ _.
    none_given c.args.self.container.now c.args.self.msgstart c.args.g c.args.counts.now c.read_start-byte0.ensures c.locate_granule-a.ensures (sym c.is_misc.ensures ∙ c.if-not-is_misc.true) c.told-counts
