-- The feeder keeps its promises. Assumes nothing.
use Rattle.feeder.proofs.BelongLaws.{responses_pay}
use Rattle.feeder.proofs.StepLaws.{part_none, part_between, step_moves}
use Rattle.feeder.proofs.RuleLaws.{follows, only}
use Rattle.feeder.proofs.FaultlessLaws.{never_refused, can_ask}
use Rattle.feeder.proofs.DroppedLaws.{dropped}
use Rattle.feeder.proofs.ServiceLaws.{within_five, within_two, who_waited, in_order, beginning}
use Rattle.demands.specs.Service.{Service}

pub service : Service
service = record {
  follows = follows;
  only = only;
  part_none = part_none;
  part_between = part_between;
  one_moves = step_moves;
  responses_pay = responses_pay;
  within_five = within_five;
  within_two = within_two;
  who_waited = who_waited;
  in_order = in_order;
  beginning = beginning;
  never_refused = never_refused;
  can_ask = can_ask;
  dropped = dropped;
}
