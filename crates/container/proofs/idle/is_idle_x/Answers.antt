use Rattle.std.proofs.Common.{rules, tests, arith}
use Rattle.std.proofs.lemmas.Bool.Decides.{nat_tests}
use Rattle.container.proofs.IdleLaws.{idle_x}
use Rattle.container.proofs.idle.is_idle_x.Goals as goal

pub returns-then-is_zero-2 : goal.returns-then-is_zero-2
returns-then-is_zero-2 c = rw (idle_x c.args.container.now c.requires) (search (rules, tests))

pub returns-else-is_zero-2 : goal.returns-else-is_zero-2
returns-else-is_zero-2 c = rw (idle_x c.args.container.now c.requires) (grind (arith, nat_tests))
