use Rattle.std.proofs.Common.{rules, tests, arith}
use Rattle.std.proofs.lemmas.Bool.Decides.{nat_tests}
use Rattle.container.proofs.IdleLaws.{idle_y}
use Rattle.container.proofs.idle.is_idle_y.Goals as goal

pub returns-then-is_zero-4 : goal.returns-then-is_zero-4
returns-then-is_zero-4 c = rw (idle_y c.args.container.now c.requires) (search (rules, tests))

pub returns-else-is_zero-4 : goal.returns-else-is_zero-4
returns-else-is_zero-4 c = rw (idle_y c.args.container.now c.requires) (grind (arith, nat_tests))
