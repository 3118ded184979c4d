use Prim.Native.Nat.{◌-◌}
use Rattle.pools.proofs.GrantedLaws.{Granting}
use Rattle.pools.proofs.starts.Starts.walk_granted.Given as goal

abbrev pub invariant-loop-g : goal.invariant-loop-g
invariant-loop-g l = Granting l.receiver l.self.container.now l.self.msgstart l.initial.counts l.counts l.g

abbrev pub decreases-loop-g : goal.decreases-loop-g
decreases-loop-g l = 12 - l.g
