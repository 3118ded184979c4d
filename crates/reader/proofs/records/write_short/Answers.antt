use Prim.Native.Nat.{◌+◌}
use mathlib.Core.Path.{refl, ◌∙◌}
use native.Mathlib.Omega.{arith}
use lib.ListN.{length, set, length-set}
use Rattle.slices.proofs.CopyLaws.{copied_whole}
use Rattle.reader.proofs.RecordsLaws.{record_written}
use Rattle.reader.proofs.records.write_short.Goals as goal

pub returns : goal.returns
returns c = let size = length c.args.message.now in
    let w = record_written c.args.room.now c.args.at size c.args.message.now _ refl (omega arith) c.requires.1
    (c.copy_into.ensures ∙ copied_whole (c.args.at + 1) c.args.message.now (set c.args.room.now c.args.at size) (simp length-set (omega arith))) in
    record { end = w.end; room = w.room }
