use mathlib.Core.Path.{◌∙◌}
use Rattle.reader.proofs.GatherLaws.{gathering_none, gathering_more, gathering_over}
use Rattle.reader.proofs.contents.Contents.gather_granules.Goals.{then-measure_granule-eq-WIDE, else-measure_granule-eq-WIDE}
use Rattle.reader.proofs.contents.Contents.gather_granules.Goals as goal

pub loop-g-init : goal.loop-g-init
loop-g-init c = gathering_none _ _ _ _ _ _

pub loop-g-preserved : goal.loop-g-preserved
loop-g-preserved c = elim c.if-measure_granule-eq-WIDE.branch [
  | then-measure_granule-eq-WIDE w ↦ gathering_more _ _ _ _ _ _ _ _ _ c.args.self.whole c.requires.to_bound c.requires.count_in_bounds c.loop-g.invariant c.loop-g-test.true _ c.measure_granule.ensures w.if-measure_granule-eq-WIDE.true _ w.locate_granule-a.ensures _ (w.out-is ∙ w.copy_into.ensures) _ w.end-is
  | else-measure_granule-eq-WIDE w ↦ gathering_over _ _ _ _ _ _ _ _ _ c.args.self.whole c.requires.to_bound c.requires.count_in_bounds c.loop-g.invariant c.loop-g-test.true _ c.measure_granule.ensures w.if-measure_granule-eq-WIDE.false _ w.out-is _ w.end-is
]
