use mathlib.Core.Path.{refl, ◌∙◌}
use native.Mathlib.Omega.{arith}
use Rattle.std.proofs.lemmas.Result.{err_from_is_err_and}
use Rattle.pools.proofs.PassLaws.{walk_stops, walk_on, walk_ends}
use Rattle.pools.proofs.GrantedLaws.{granted_walks, gain_most, granted_starts, all_granted}
use Rattle.pools.proofs.starts.Starts.walk_granted.Goals as goal

pub loop-g-init : goal.loop-g-init
loop-g-init c = granted_starts c.args.receiver c.args.self.container.now c.args.self.msgstart _ c.args.grant (c.in_ok-take_grant.ensures.counts refl) (record { req = omega arith; rsp = omega arith; snp = omega arith; dat = omega arith })

pub returns-in_err-grant_granule : goal.returns-in_err-grant_granule
returns-in_err-grant_granule c = let p = err_from_is_err_and c.from_residual-in_err-grant_granule.result c.from_residual-in_err-grant_granule.ensures.1 in
    rw (p.1, p.2)
    (walk_stops (granted_walks _ _ _) c.loop-g.invariant c.loop-g-test.true c.in_err-grant_granule.ensures.verdict
    ∙ all_granted c.args.receiver c.args.self.container.now c.args.self.msgstart _ c.args.grant (c.in_ok-take_grant.ensures.counts refl) c.in_ok-take_grant.ensures.verdict)

pub loop-g-preserved : goal.loop-g-preserved
loop-g-preserved c = walk_on (granted_walks _ _ _) c.loop-g.invariant c.loop-g-test.true c.in_ok-grant_granule.ensures.verdict (c.in_ok-grant_granule.ensures.counts refl)
    (gain_most c.args.receiver c.args.self.container.now c.args.self.msgstart c.args.self.are_bytes c.loop-g.g)

pub returns : goal.returns
returns c = walk_ends (granted_walks _ _ _) c.loop-g.invariant c.loop-g-test.false
    ∙ all_granted c.args.receiver c.args.self.container.now c.args.self.msgstart _ c.args.grant (c.in_ok-take_grant.ensures.counts refl) c.in_ok-take_grant.ensures.verdict
