use mathlib.Core.Path.{◌≡◌}
use Rattle.container.specs.Layout.{format_of}
use Rattle.writer.specs.HoldingMirror.{cursor_at, laid_to}
use Rattle.writer.proofs.cursor.fill_granules.Given as goal

abbrev pub invariant-loop-g : goal.invariant-loop-g
invariant-loop-g l =
    (l.cursor ≡ cursor_at (format_of l.input.format) l.input.grant l.input.tail.now l.input.list.now l.g) × (l.container ≡ laid_to (format_of l.input.format) l.input.grant l.input.tail.now l.input.list.now l.g)
