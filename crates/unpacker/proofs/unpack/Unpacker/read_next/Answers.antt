use mathlib.Core.Path.{◌≡◌}
use Rattle.std.proofs.Common.{rules, tests}
use Rattle.unpacker.specs.Stepping.{waiting, running}
use Rattle.unpacker.proofs.unpack.Unpacker.read_next.Goals as goal

pub returns-clause-room : goal.returns-clause-room
returns-clause-room c = let waits : running c.args.self c.args.bytes.now c.args.ended ≡ waiting c.args.self = search (rules, tests) in rw waits
