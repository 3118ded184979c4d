-- Containers that wait at the tap (document 01: "delays are arbitrary"), as one statement about the definitions.
use Rattle.std.specs.Prelude.{ℕ, List, []}
use Rattle.history.specs.Trace.{Trace, start, ◌▷◌}
use Rattle.history.specs.Link.{Direction, Link}
use Rattle.history.specs.History.{Event, History}
use Rattle.history.specs.Delays.{UnderWay}
use Rattle.demands.specs.Tap.{link_of}
use Rattle.demands.specs.Marked.{with_bytes, receiver_with}

-- a link in format X whose receivers have two buffers of pools 9 and 11, and an idle container
abbrev pub link : Link
link = link_of 0 (receiver_with 2) (receiver_with 2)

abbrev pub idle : List ℕ
idle = with_bytes []

abbrev pub one : Trace (List ℕ)
one = start ▷ idle

abbrev pub two : Trace (List ℕ)
two = one ▷ idle

abbrev pub three : Trace (List ℕ)
three = two ▷ idle

pub record Delayed : Type 0 where
  -- in both directions three containers have left, two of these have passed, and one of these has arrived
  pub under_way_law : (h : Trace (Event (List ℕ))) × History link h × ((d : Direction) → UnderWay d three two one h)
