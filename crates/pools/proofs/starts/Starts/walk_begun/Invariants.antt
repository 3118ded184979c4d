use Prim.Native.Nat.{◌-◌}
use Rattle.pools.proofs.BegunLaws.{Begun}
use Rattle.pools.proofs.starts.Starts.walk_begun.Given as goal

abbrev pub invariant-loop-g : goal.invariant-loop-g
invariant-loop-g l = Begun l.receiver l.self.container.now l.self.msgstart l.counts l.g

abbrev pub decreases-loop-g : goal.decreases-loop-g
decreases-loop-g l = 12 - l.g
