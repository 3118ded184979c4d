use mathlib.Core.Path.{◌∙◌}
use lib.ListN.{replicate}
use Rattle.probe.proofs.FillLaws.{copied_over}
use Rattle.probe.proofs.load_tail.Goals as goal

pub returns : goal.returns
returns c = c.copy_into.ensures ∙ copied_over _ (replicate 100 0) c.requires
