use mathlib.Core.Path.{refl}
use Rattle.std.proofs.lemmas.Result.{err_from_is_err_and}
use Rattle.pools.proofs.PassLaws.{walk_stops, walk_on, walk_ends}
use Rattle.pools.proofs.BegunLaws.{begun_walks, paid_most}
use Rattle.pools.proofs.starts.Starts.walk_begun.Goals as goal

pub returns-in_err-charge_granule : goal.returns-in_err-charge_granule
returns-in_err-charge_granule c = let p = err_from_is_err_and c.from_residual.result c.from_residual.ensures.1 in
    rw (p.1, p.2) (walk_stops (begun_walks _ _ _) c.loop-g.invariant c.loop-g-test.true c.in_err-charge_granule.ensures.verdict)

pub loop-g-preserved : goal.loop-g-preserved
loop-g-preserved c = walk_on (begun_walks _ _ _) c.loop-g.invariant c.loop-g-test.true c.in_ok-charge_granule.ensures.verdict (c.in_ok-charge_granule.ensures.counts refl)
    (paid_most c.args.self.container.now c.args.self.msgstart c.args.self.are_bytes c.loop-g.g)

pub returns : goal.returns
returns c = walk_ends (begun_walks _ _ _) c.loop-g.invariant c.loop-g-test.false
