-- The marked examples, short examples of each cause, what lies beneath a longer message, two orders of the same containers, and the longest waits in the feeder, by
-- computation. Assumes nothing.
use mathlib.Core.Path.{refl}
use Rattle.record.specs.Number.{number, read_number}
use Rattle.record.specs.Records.{fault_from, list_fault}
use Rattle.placement.specs.Cells.{cells, carry_after, endings, startings}
use Rattle.placement.specs.Checking.{granule_checks, group_checks, container_checks}
use Rattle.reader.specs.Reading.{state_checks, read_checks, next_reader, records, reading}
use Rattle.writer.specs.Plan.{plan, cursor_last}
use Rattle.writer.specs.Laying.{set_all, lay_cells, container_of, filled, owes_after, used_of}
use Rattle.writer.specs.Filling.{call_checks, fill_fault, filling, fill_bytes}
use Rattle.pools.specs.Pools.{capacities_ok, each_granule, paid_to, granted_to, grants_in}
use Rattle.ledger.specs.Audit.{pools_ok, begun, finished, granted, credit_checks, capacity_checks, audit_checks, next_ledger, auditing}
use Rattle.pools.specs.Rows.{row}
use Rattle.feeder.specs.Due.{found_at}
use Rattle.feeder.specs.Feeding as feeder
use Rattle.history.specs.Trace.{start}
use Rattle.history.specs.Link.{direction0, direction1}
use Rattle.history.specs.Interleaving.{SameContainers}
use Rattle.demands.specs.LogTap.{tap_of}
use Rattle.demands.specs.Marked.{Marked}
use Rattle.demands.specs.Pinned.{Pinned}
use Rattle.demands.specs.Beneath.{Beneath}
use Rattle.demands.specs.Service.{Reached}
use Rattle.demands.specs.Interleaving.{starts_between, starts_last, Orders}

pub marked : Marked
unfolding number read_number fault_from list_fault cells carry_after endings startings granule_checks group_checks container_checks state_checks read_checks next_reader records reading plan set_all lay_cells container_of filled call_checks fill_fault fill_bytes capacities_ok each_granule paid_to granted_to grants_in pools_ok begun finished granted credit_checks capacity_checks audit_checks row next_ledger auditing
marked = record {
  m1_x = refl;
  m1_y = refl;
  m2 = refl;
  m3 = refl;
  m3_read = refl;
  m4 = refl;
  m5 = refl;
  m6 = refl;
  m7 = refl;
  m8 = refl;
  m8_refused = refl;
  m9 = refl;
  m9_read = refl;
  m9_broken = refl;
  m10 = refl;
}

-- short examples of each cause
pub pinned : Pinned
unfolding number read_number fault_from list_fault cells carry_after endings startings granule_checks group_checks container_checks state_checks read_checks next_reader records reading plan cursor_last owes_after used_of call_checks fill_fault filling capacities_ok each_granule paid_to granted_to grants_in pools_ok begun finished granted credit_checks capacity_checks audit_checks row next_ledger auditing
pinned = record {
  format = refl;
  short = refl;
  room = refl;
  high_half = refl;
  ninth = refl;
  shared_plane = refl;
  inside = refl;
  type_11 = refl;
  op_5 = refl;
  type_0 = refl;
  link_status_place = refl;
  resp2 = refl;
  crdt_grant_place = refl;
  resp_bit = refl;
  data_bit = refl;
  push_bit = refl;
  activation_0 = refl;
  activation_5 = refl;
  activation_6 = refl;
  grant_half = refl;
  grant_last = refl;
  behind_resp = refl;
  behind_grant = refl;
  empty = refl;
  gap_0 = refl;
  gap_3 = refl;
  second_misc = refl;
  many = refl;
  beside = refl;
  grant = refl;
  direction = refl;
  plane_3 = refl;
  plane_3_g3 = refl;
  plane_3_shared = refl;
  data_no_push = refl;
  push_no_push = refl;
  push_shared = refl;
  push_one_plane = refl;
  grant_plane = refl;
  crdt_plane = refl;
  grant_dat_0 = refl;
  grant_dat_1 = refl;
  message_first = refl;
  header_first = refl;
  own_0 = refl;
  own_1 = refl;
  opposite_0 = refl;
  opposite_1 = refl;
  no_rsp = refl;
  no_snp = refl;
  over_snp = refl;
  over_req = refl;
  over_dat = refl;
  begun_first = refl;
  resp2_on_one = refl;
  resp2_on_two = refl;
  resp_beside = refl;
  two_slots = refl;
  one_slot = refl;
  plane_8 = refl;
  fill_shared = refl;
  broken = refl;
}

-- what lies beneath a longer message
pub beneath : Beneath
unfolding number read_number fault_from list_fault cells carry_after endings startings granule_checks group_checks container_checks state_checks read_checks next_reader records reading plan cursor_last set_all lay_cells container_of filled owes_after used_of call_checks fill_fault filling fill_bytes
beneath = record { under_g5 = refl; under_g5_read = refl; in_x = refl; never_early_fill = refl; under_g11 = refl; under_g11_bytes = refl }

-- the orders in which a start and two grants pass
pub orders : Orders
unfolding cells carry_after endings startings granule_checks group_checks container_checks state_checks next_reader capacities_ok each_granule paid_to granted_to grants_in pools_ok begun finished granted credit_checks capacity_checks audit_checks row next_ledger auditing
orders = record {
  same_containers = same;
  between = record { accepted = (refl, (refl, (refl, tt))); held = refl; opened = refl; carried = refl };
  last = record { accepted = (refl, (refl, (refl, tt))); held = refl; opened = refl; carried = refl };
  first = refl;
}
  where
    same : SameContainers (tap_of start starts_between) (tap_of start starts_last)
    same direction0 = refl
    same direction1 = refl

-- the longest waits in the feeder
pub reached : Reached
unfolding number read_number found_at feeder.call_checks feeder.feeding
reached = record { five = refl; two = refl }
