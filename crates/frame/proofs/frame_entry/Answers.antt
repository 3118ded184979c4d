use mathlib.Core.Path.{sym, ◌∙◌}
use native.Mathlib.Omega.{arith}
use borrow.Author.Tests.{lt-ltb, le-ltb}
use Rattle.record.proofs.NumberTakes.{number_takes}
use Rattle.frame.specs.Framing.{framing}
use Rattle.frame.proofs.frame_entry.Goals as goal

pub overflow_add-used : goal.overflow_add-used
overflow_add-used c = omega (arith, (number_takes _ _ _ (sym c.read_number.ensures ∙ c.in-Some.is)).1.0)

pub returns-then-bytes-used : goal.returns-then-bytes-used
unfolding framing
returns-then-bytes-used c = rw (← c.read_number.ensures, c.in-Some.is, lt-ltb _ _ c.if-bytes-used.true)

pub returns-in_default : goal.returns-in_default
unfolding framing
returns-in_default c = rw (← c.read_number.ensures, c.in_default.is)

pub returns : goal.returns
unfolding framing
returns c = rw (← c.read_number.ensures, c.in-Some.is, le-ltb _ _ c.if-bytes-used.false)
