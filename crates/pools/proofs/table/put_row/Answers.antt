use native.Mathlib.Omega.{arith}
use Rattle.slices.proofs.CopyLaws.{copying_more}
use Rattle.pools.proofs.table.put_row.Goals as goal

pub loop-i-preserved : goal.loop-i-preserved
loop-i-preserved c = (omega arith, copying_more _ _ _ _ _ c.loop-i.invariant.1 (omega arith))
