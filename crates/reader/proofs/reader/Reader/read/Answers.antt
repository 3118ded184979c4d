use Prim.Native.Nat.{ℕ}
use mathlib.Core.Path.{ap, ◌∙◌}
use mathlib.Core.List.{List}
use lib.ListN.{length}
use Rattle.lists.specs.Parts.{put}
use Rattle.container.specs.Layout.{format_of}
use Rattle.container.specs.Grants.{header_grant}
use Rattle.reader.specs.Reading.{next_reader}
use Rattle.reader.proofs.AnswerLaws.{accepted_entry, read_entry, read_narrow, read_state, read_refused, read_done, room_refused, room_done}
use Rattle.reader.proofs.NextLaws.{state_fault, state_fine, records_are}
use Rattle.reader.proofs.reader.Reader.read.Goals as goal

pub returns-in-Err : goal.returns-in-Err
returns-in-Err c = let s = c.args.self in
    let b = c.args.container.now in
    let room = c.args.room.now in
    let e = read_entry s b (length room) _ _ c.in-Err.ensures.refused in
    record { step = read_refused s b (length room) _ _ e c.refuse.result c.refuse.ensures; room = room_refused s b room _ _ e }

pub returns-then-room-lt-ROOM : goal.returns-then-room-lt-ROOM
returns-then-room-lt-ROOM c = let s = c.args.self in
    let b = c.args.container.now in
    let room = c.args.room.now in
    let v = accepted_entry s (length b) c.in-Ok.ensures.valid in
    let e = read_narrow s b (length room) v.0 v.1 c.if-room-lt-ROOM.true in
    record { step = read_refused s b (length room) _ _ e c.refuse-then-room-lt-ROOM.result (c.refuse-then-room-lt-ROOM.ensures ∙ rw c.at.ensures); room = room_refused s b room _ _ e }

pub carry_on-requires : goal.carry_on-requires
carry_on-requires c = let told = c.in-Ok.ensures in
    record { opened = (told.opened.0, told.opened.2); judged = c.in-Ok-judge_container.ensures }

pub returns-in-Err-judge_container : goal.returns-in-Err-judge_container
returns-in-Err-judge_container c = let s = c.args.self in
    let b = c.args.container.now in
    let room = c.args.room.now in
    let told = c.in-Ok.ensures in
    let v = accepted_entry s (length b) told.valid in
    let e = read_state s b (length room) v.0 v.1 c.if-room-lt-ROOM.false ∙ state_fault s told.opened.0 told.opened.1 told.opened.2 c.judge_container.ensures c.in-Err-judge_container.is in
    record { step = read_refused s b (length room) _ _ e c.refuse-in-Err-judge_container.result c.refuse-in-Err-judge_container.ensures; room = room_refused s b room _ _ e }

pub returns-in-Ok-judge_container : goal.returns-in-Ok-judge_container
returns-in-Ok-judge_container c = let s = c.args.self in
    let b = c.args.container.now in
    let room = c.args.room.now in
    let k = c.in-Ok.contents in
    let told = c.in-Ok.ensures in
    let f = told.opened.0 in
    let same = told.opened.1 in
    let v = accepted_entry s (length b) told.valid in
    let e = read_state s b (length room) v.0 v.1 c.if-room-lt-ROOM.false ∙ state_fine s f same told.opened.2 c.judge_container.ensures c.in-Ok-judge_container.is in
    let next = c.carry_on.ensures ∙ ap (next_reader s) same in
    let all = records_are s b f same told.opened.2 in
    record { step = read_done s b (length room) e _ next _ (c.write_endings.ensures.end ∙ ap length all) _ (k.granted ∙ (λ i. header_grant (format_of (f i)) (same i))); room = c.write_endings.ensures.room ∙ ap (λ (x : List ℕ). put 0 x room) all ∙ room_done s b room e }
