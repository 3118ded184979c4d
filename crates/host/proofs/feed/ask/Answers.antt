use mathlib.Core.Path.{sym}
use Rattle.cause.proofs.GivenLaws.{given_fault}
use Rattle.host.proofs.FeedLaws.{refused_numbers, refused_room, three, next_fits, moves, moved_fits, answer_small, accepted_code, accepted_numbers, accepted_room}
use Rattle.host.proofs.feed.ask.Goals as goal

pub returns-in_err-asked-clause-feed : goal.returns-in_err-asked-clause-feed
returns-in_err-asked-clause-feed c = refused_numbers c.args.format c.args.feed.now c.args.responses.now c.args.others.now c.args.room.now _ (given_fault _ _ (sym c.in_err-asked.ensures.feed))

pub returns-in_err-asked-clause-room : goal.returns-in_err-asked-clause-room
returns-in_err-asked-clause-room c = refused_room c.args.format c.args.feed.now c.args.responses.now c.args.others.now c.args.room.now _ (given_fault _ _ (sym c.in_err-asked.ensures.feed))

pub copy_record-bytes-requires : goal.copy_record-bytes-requires
copy_record-bytes-requires c =
    record {
      moves = moves c.args.format c.args.feed.now c.args.responses.now c.args.others.now c.args.room.now _ c.in_ok-asked.ensures.feed _ c.next_step-answer.ensures;
      next_in_bounds = moved_fits c.args.format c.args.feed.now c.args.responses.now c.args.others.now c.args.room.now _ c.in_ok-asked.ensures.feed _ c.next_step-answer.ensures;
    }

pub store_feed-requires : goal.store_feed-requires
store_feed-requires c =
    (three c.args.format c.args.feed.now c.args.responses.now c.args.others.now c.args.room.now _ c.in_ok-asked.ensures.feed, next_fits c.args.format c.args.feed.now c.args.responses.now c.args.others.now c.args.room.now _ c.in_ok-asked.ensures.feed _ c.next_step-answer.ensures c.in_ok-asked.ensures.fits)

pub encode_answer-requires : goal.encode_answer-requires
encode_answer-requires c =
    answer_small c.args.format c.args.feed.now c.args.responses.now c.args.others.now c.args.room.now _ c.in_ok-asked.ensures.feed _ c.next_step-answer.ensures _ c.copy_record-bytes.ensures.bytes

pub returns : goal.returns
returns c =
    record {
      code = accepted_code c.args.format c.args.feed.now c.args.responses.now c.args.others.now c.args.room.now _ c.in_ok-asked.ensures.feed _ c.next_step-answer.ensures _ _ c.copy_record-bytes.ensures.bytes c.encode_answer.ensures;
      feed = accepted_numbers c.args.format c.args.feed.now c.args.responses.now c.args.others.now c.args.room.now _ c.in_ok-asked.ensures.feed _ c.next_step-answer.ensures _ c.store_feed.ensures;
      room = accepted_room c.args.format c.args.feed.now c.args.responses.now c.args.others.now c.args.room.now _ c.in_ok-asked.ensures.feed _ c.next_step-answer.ensures _ c.copy_record-bytes.ensures.room;
    }
