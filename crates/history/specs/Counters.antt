-- The five counts kept step by step: a counter for each, and each event moves a number from one counter to the next.
use Rattle.std.specs.Prelude.{ℕ, ◌+◌, ◌-◌, ◌&&◌, eqb}
use Rattle.lists.specs.Pick.{pick}
use Rattle.history.specs.Trace.{Trace, start, ◌▷◌}
use Rattle.history.specs.Link.{Direction, same_direction, Link}
use Rattle.history.specs.History.{Event, leaves, passes, arrives, frees, left, arrived, state_after}

-- a counter for each of demand 3's five
pub record Counters : Type 0 where
  pub ungranted : ℕ
  pub returning : ℕ
  pub held_at_sender : ℕ
  pub in_flight : ℕ
  pub buffered : ℕ

-- n ungranted slots become credits that return
abbrev pub grant : ℕ → Counters → Counters
grant n f = record {
  ungranted = f.ungranted - n;
  returning = f.returning + n;
  held_at_sender = f.held_at_sender;
  in_flight = f.in_flight;
  buffered = f.buffered;
}

-- n returning credits reach the sender
abbrev pub hold : ℕ → Counters → Counters
hold n f = record {
  ungranted = f.ungranted;
  returning = f.returning - n;
  held_at_sender = f.held_at_sender + n;
  in_flight = f.in_flight;
  buffered = f.buffered;
}

-- n held credits are paid for messages in flight
abbrev pub pay : ℕ → Counters → Counters
pay n f = record {
  ungranted = f.ungranted;
  returning = f.returning;
  held_at_sender = f.held_at_sender - n;
  in_flight = f.in_flight + n;
  buffered = f.buffered;
}

-- n messages in flight have arrived whole at the receiver
abbrev pub buffer : ℕ → Counters → Counters
buffer n f = record {
  ungranted = f.ungranted;
  returning = f.returning;
  held_at_sender = f.held_at_sender;
  in_flight = f.in_flight - n;
  buffered = f.buffered + n;
}

-- n buffered messages leave their slots ungranted
abbrev pub free : ℕ → Counters → Counters
free n f = record {
  ungranted = f.ungranted + n;
  returning = f.returning;
  held_at_sender = f.held_at_sender;
  in_flight = f.in_flight;
  buffered = f.buffered - n;
}

module _ (K : Link) (d : Direction) (p : ℕ) where
  open K use {Container, grants, begins, finishes, capacity}

  -- what an event after h does to the counters of direction d and pool p
  abbrev pub moved : Trace (Event Container) → Event Container → Counters → Counters
  moved h (leaves e c) f =
      pick (same_direction d e) (pay (begins e (state_after K e (left e h)) c p) f) (grant (grants e (state_after K e (left e h)) c p) f)
  moved h (passes e c) f = f
  moved h (arrives e c) f =
      pick (same_direction d e) (buffer (finishes e (state_after K e (arrived e h)) c p) f)
      (hold (grants e (state_after K e (arrived e h)) c p) f)
  moved h (frees e q) f = pick (same_direction d e && eqb p q) (free 1 f) f

  -- the counters at a moment: at the start all slots are ungranted, and each event moves them
  abbrev pub counters_at : Trace (Event Container) → Counters
  counters_at start = record { ungranted = capacity d p; returning = 0; held_at_sender = 0; in_flight = 0; buffered = 0 }
  counters_at (h ▷ e) = moved h e (counters_at h)
