use native.Mathlib.Omega.{arith}
use Rattle.text.specs.Ascii.{bytes_of}
use Rattle.text.specs.Lines.{spaced, newline, fault_words, verdict_line}
use Rattle.text.proofs.DecimalLaws.{spaced_most}
use Rattle.text.proofs.WriteLaws.{Wrote, wrote, wrote_more, fault_most, line_written, line_refused}
use Rattle.text.proofs.verdict.write_verdict.Goals as goal
use Rattle.cause.specs.Checks.{Accepted, Refused}

pub returns-then-room-lt-MIN_ROOM : goal.returns-then-room-lt-MIN_ROOM
returns-then-room-lt-MIN_ROOM c = let both = line_refused (verdict_line c.args.entries c.args.verdict) c.args.room.now c.if-room-lt-MIN_ROOM.true in record { length = both.0; room = both.1 }

pub write_word-requires : goal.write_word-requires
write_word-requires c = let few = spaced_most c.args.entries in
    omega (arith, c.write_word-word.ensures.end, c.write_number-end.ensures.end)

pub write_fault-requires : goal.write_fault-requires
write_fault-requires c = let few = spaced_most c.args.entries in
    omega (arith, c.write_word-word-in-Err.ensures.end, c.write_number-count.ensures.end)

pub returns-in-Ok : goal.returns-in-Ok
returns-in-Ok c = let few = spaced_most c.args.entries in
    let word : Wrote c.args.room.now 0 (bytes_of "accepted") _ _ =
    wrote _ _ _ _ _ (omega arith) (c.write_word-word.ensures.end, c.write_word-word.ensures.room) in
    let count : Wrote _ _ (spaced c.args.entries) _ _ =
    wrote _ _ _ _ _ (omega arith) (c.write_number-end.ensures.end, c.write_number-end.ensures.room) in
    let end : Wrote _ _ newline _ _ =
    wrote _ _ _ _ _ (omega arith) (c.write_word.ensures.end, c.write_word.ensures.room) in
    let both =
    line_written (verdict_line c.args.entries Accepted) c.args.room.now _ _ (omega arith)
    (wrote_more (omega arith) word (wrote_more (omega arith) count end)) in
    rw c.in-Ok.is (record { length = both.0; room = both.1 })

pub returns-in-Err : goal.returns-in-Err
returns-in-Err c = let few = spaced_most c.args.entries in
    let word : Wrote c.args.room.now 0 (bytes_of "refused") _ _ =
    wrote _ _ _ _ _ (omega arith) (c.write_word-word-in-Err.ensures.end, c.write_word-word-in-Err.ensures.room) in
    let count : Wrote _ _ (spaced c.args.entries) _ _ =
    wrote _ _ _ _ _ (omega arith) (c.write_number-count.ensures.end, c.write_number-count.ensures.room) in
    let fault : Wrote _ _ (fault_words c.in-Err.fault.cause c.in-Err.fault.place) _ _ =
    wrote _ _ _ _ _ (omega (arith, fault_most c.in-Err.fault.cause c.in-Err.fault.place)) (c.write_fault.ensures.end, c.write_fault.ensures.room) in
    let both =
    line_written (verdict_line c.args.entries (Refused c.in-Err.fault.cause c.in-Err.fault.place)) c.args.room.now _ _ (omega arith)
    (wrote_more (omega arith) word (wrote_more (omega arith) count fault)) in
    rw c.in-Err.is (record { length = both.0; room = both.1 })
