use mathlib.Core.Path.{◌≡◌}
use lib.ListN.{take}
use Rattle.container.specs.Layout.{format_of}
use Rattle.writer.specs.Laying.{set_all}
use Rattle.writer.proofs.fill.write_header.Given as goal

abbrev pub invariant-loop-i : goal.invariant-loop-i
invariant-loop-i l = l.container ≡ set_all (format_of l.format).place 0 (take l.i l.header) l.initial.container
