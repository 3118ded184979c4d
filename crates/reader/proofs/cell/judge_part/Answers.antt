use mathlib.Core.Path.{sym, ◌∙◌}
use native.Mathlib.Omega.{arith}
use Rattle.reader.proofs.CellLaws.{twice, on_fine, empty_fine, empty_not}
use Rattle.reader.proofs.cell.judge_part.Goals as goal

pub returns-then-start : goal.returns-then-start
returns-then-start c = rw (c.if-on.true, c.if-start.true) (twice _ _ _)

pub returns-then-on : goal.returns-then-on
returns-then-on c = rw (c.if-on.true, c.if-start.false) (on_fine _ _ _ (omega (arith, c.requires.g_value c.if-on.true)))

pub returns-then-is_zero : goal.returns-then-is_zero
returns-then-is_zero c = rw (c.if-on.false, c.if-start-2.false) (empty_fine _ _ _ (sym c.is_zero.ensures ∙ c.if-is_zero.true))

pub returns : goal.returns
returns c = rw (c.if-on.false, c.if-start-2.false) (empty_not _ _ _ (sym c.is_zero.ensures ∙ c.if-is_zero.false))
