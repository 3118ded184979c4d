use Prim.Native.Nat.{◌≤◌}
use mathlib.Core.Path.{sym, ◌∙◌}
use lib.ListN.{length}
use Rattle.std.specs.Prelude.{None}
use Rattle.feeder.proofs.StepLaws.{bounds, part_is}
use Rattle.feeder.proofs.feed.Feed.next_record.Goals.{After-position_in-end}
use Rattle.feeder.proofs.feed.Feed.next_record.Goals as goal

inside : (c : After-position_in-end) → (c.position_in-start.result ≤ c.position_in-end.result) × (c.position_in-end.result ≤ length c.pick_list-bytes.result.now)
inside c =
    rw (c.position_in-start.ensures, c.position_in-end.ensures, c.pick_list-bytes.ensures)
    (bounds c.args.format _ _ _ _ c.next_step-answer.ensures _ (sym c.list_served.ensures ∙ c.in-Some.is))

pub slice_bounds-result-count : goal.slice_bounds-result-count
slice_bounds-result-count c = (inside c).0

pub slice_bounds-result-start : goal.slice_bounds-result-start
slice_bounds-result-start c = (inside c).0

pub slice_bounds-result-end : goal.slice_bounds-result-end
slice_bounds-result-end c = (inside c).1

pub returns-in-Some : goal.returns-in-Some
returns-in-Some c =
    rw (c.position_in-start.ensures, c.position_in-end.ensures, c.pick_list-bytes.ensures)
    (part_is _ _ _ _ _ c.next_step-answer.ensures _ (sym c.list_served.ensures ∙ c.in-Some.is))

pub returns-in-None : goal.returns-in-None
returns-in-None c = part_is _ _ _ _ _ c.next_step-answer.ensures None (sym c.list_served.ensures ∙ c.in-None.is)
