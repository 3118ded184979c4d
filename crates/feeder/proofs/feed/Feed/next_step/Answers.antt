use Rattle.feeder.proofs.StepCases.{valid, step_refused, step_due, step_list}
use Rattle.std.specs.Prelude.{None}
use Rattle.feeder.proofs.feed.Feed.next_step.Goals as goal

pub returns-in-Err : goal.returns-in-Err
returns-in-Err c = step_refused _ _ _ _ _ c.check_call.ensures _ _ c.in-Err.is _ c.refuse.ensures

pub returns-in_default-choose_list : goal.returns-in_default-choose_list
returns-in_default-choose_list c = step_due c.args.format _ _ _ _ c.check_call.ensures c.in_default.is _ c.choose_list.ensures None c.in_default-choose_list.is _ c.hand_nothing.ensures

pub hand_record-requires : goal.hand_record-requires
hand_record-requires c = (valid c.args.format _ _ _ _ c.check_call.ensures c.in_default.is).run

pub returns : goal.returns
returns c =
    step_list c.args.format _ _ _ _ c.check_call.ensures c.in_default.is _ c.choose_list.ensures _ c.in-Some.is
    _ (rw (← c.pick_list-bytes.ensures, ← c.position_in.ensures) c.find_record-found.ensures) _ c.hand_record.ensures
