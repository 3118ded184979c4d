-- An entry of a log: "each the number 2·ticks + direction and 256 container bytes" (document 01, "The log and the host").
use Rattle.std.specs.Prelude.{ℕ, ◌+◌, ◌%◌, List, length, ltb, Option, Some, None}
use Rattle.lists.specs.Pick.{pick}
use Rattle.record.specs.Number.{read_number}
use Rattle.record.specs.declared.number.Number.{Number}
use Rattle.frame.specs.declared.Framed.{Framed}
use Rattle.frame.specs.declared.Framed.TheVariants.{Broken, Short, Whole}
use Rattle.container.specs.Layout.{container_size}

-- the entry at the front of l by the number there: v is the number and u its bytes
abbrev pub framed_by : List ℕ → Option Number → Framed
framed_by l None = Broken
framed_by l (Some numbers) = pick (ltb (length l) (numbers.used + container_size)) Short (Whole numbers.value (numbers.value % 2) numbers.used)

unfoldable pub framing : List ℕ → Framed
framing l = framed_by l (read_number l)
