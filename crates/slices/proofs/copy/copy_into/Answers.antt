use native.Mathlib.Omega.{arith}
use Rattle.slices.proofs.CopyLaws.{copying_more}
use Rattle.slices.proofs.copy.copy_into.Goals as goal

pub loop-i-preserved : goal.loop-i-preserved
loop-i-preserved c = copying_more _ _ _ _ _ c.loop-i.invariant (omega arith)
