use native.Mathlib.Omega.{arith}
use borrow.Author.Rules.{rules}
use mathlib.Core.Path.{refl}
use Rattle.unpacker.proofs.TurnLaws.{records_within, container_read}
use Rattle.unpacker.proofs.unpack.Unpacker.read_container.Goals as goal

pub slice_bounds-records-end : goal.slice_bounds-records-end
slice_bounds-records-end c = let h = records_within c.args.self _ _ refl _ c.read-step.ensures.step _ _ c.in-Accepted.is in search rules

pub slice_bounds-write_messages-end : goal.slice_bounds-write_messages-end
slice_bounds-write_messages-end c = let h = records_within c.args.self _ _ refl _ c.read-step.ensures.step _ _ c.in-Accepted.is in search rules

pub returns-in-Accepted : goal.returns-in-Accepted
returns-in-Accepted c = let both = container_read _ _ _ refl _ c.read-step.ensures.step _ _ c.in-Accepted.is _ _ refl c.read-step.ensures.room _ _ _ (omega (arith, c.told-room))
    c.write_messages-printed.ensures.end c.write_messages-printed.ensures.room in record { call = both.0; room = both.1 }
