use native.Mathlib.Omega.{arith}
use Rattle.text.specs.Ascii.{bytes_of}
use Rattle.text.specs.Lines.{fault_words, refusal_line}
use Rattle.text.proofs.WriteLaws.{Wrote, wrote, wrote_more, fault_most, line_written, line_refused}
use Rattle.text.proofs.verdict.write_refusal.Goals as goal

pub returns-then-room-lt-MIN_ROOM : goal.returns-then-room-lt-MIN_ROOM
returns-then-room-lt-MIN_ROOM c = let both = line_refused (refusal_line c.args.cause c.args.place) c.args.room.now c.if-room-lt-MIN_ROOM.true in record { length = both.0; room = both.1 }

pub returns : goal.returns
returns c = let word : Wrote c.args.room.now 0 (bytes_of "refused") _ _ =
    wrote _ _ _ _ _ (omega arith) (c.write_word-word.ensures.end, c.write_word-word.ensures.room) in
    let few = fault_most c.args.cause c.args.place in
    let fault : Wrote _ _ (fault_words c.args.cause c.args.place) _ _ =
    wrote _ _ _ _ _ (omega arith) (c.write_fault.ensures.end, c.write_fault.ensures.room) in let both = line_written (refusal_line c.args.cause c.args.place) c.args.room.now _ _ (omega arith)
    (wrote_more (omega arith) word fault) in record { length = both.0; room = both.1 }
