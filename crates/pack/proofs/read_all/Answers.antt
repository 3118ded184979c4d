use borrow.Author.Rules.{rules}
use Rattle.pack.proofs.Refills.{loading_none, loading_more, loading_over}
use Rattle.pack.proofs.read_all.Goals as goal

pub loop-n-init : goal.loop-n-init
loop-n-init g c = loading_none _

pub loop-n-preserved : goal.loop-n-preserved
loop-n-preserved g c = loading_more _ c.loop-n.space _ c.loop-n.invariant _ _ c.read_more.ensures _ (search rules)

pub returns : goal.returns
returns g c = loading_over _ c.loop-n.space _ c.loop-n.invariant _ _ c.read_more.ensures _ c.in_default.not-Got (search rules)
