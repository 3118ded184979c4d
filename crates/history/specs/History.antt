-- Histories of a link: the history paragraph of document 01, "Pools and the audit", each definition below the words that it states. Of pool 9
-- "responses" is read for "messages" (document 02, K3): a Resp2 is two in flight and two buffered, each freed by an event of its own.
use Rattle.std.specs.Prelude.{ℕ, ◌+◌, ◌-◌, ◌≤◌, ◌≡◌, true, ◌&&◌, leb, eqb}
use Rattle.lists.specs.Pick.{pick}
use Rattle.history.specs.Trace.{Trace, start, ◌▷◌, length_of, ◌⊑◌}
use Rattle.history.specs.Link.{Direction, opposite, same_direction, Link}

-- "A history is a list of events, each in one direction: a container leaves, the first before the tap passes it, the first past it
-- arrives, or the receiver frees a slot of one pool."
pub data Event (A : Type 0) : Type 0 where
  leaves passes arrives : Direction → A → Event A
  frees : Direction → ℕ → Event A

-- what passed: "bytes and direction"
pub record Entry (A : Type 0) : Type 0 where
  pub direction : Direction
  pub container : A

module _ {A : Type 0} where
  -- "each in one direction": an item of direction e goes behind those of direction d if the two are one
  abbrev pub append_if : Direction → Direction → A → Trace A → Trace A
  append_if d e x xs = pick (same_direction d e) (xs ▷ x) xs

  -- "a container leaves": those of direction d that have left, in order
  abbrev pub left : Direction → Trace (Event A) → Trace A
  left d start = start
  left d (h ▷ leaves e c) = append_if d e c (left d h)
  left d (h ▷ passes e c) = left d h
  left d (h ▷ arrives e c) = left d h
  left d (h ▷ frees e p) = left d h

  -- "the first before the tap passes it": those of direction d that have passed, in order
  abbrev pub passed : Direction → Trace (Event A) → Trace A
  passed d start = start
  passed d (h ▷ leaves e c) = passed d h
  passed d (h ▷ passes e c) = append_if d e c (passed d h)
  passed d (h ▷ arrives e c) = passed d h
  passed d (h ▷ frees e p) = passed d h

  -- "the first past it arrives": those of direction d that have arrived, in order
  abbrev pub arrived : Direction → Trace (Event A) → Trace A
  arrived d start = start
  arrived d (h ▷ leaves e c) = arrived d h
  arrived d (h ▷ passes e c) = arrived d h
  arrived d (h ▷ arrives e c) = append_if d e c (arrived d h)
  arrived d (h ▷ frees e p) = arrived d h

  -- "the receiver frees a slot of one pool": how often that of direction d has freed one of pool p
  abbrev pub freed : Direction → ℕ → Trace (Event A) → ℕ
  freed d p start = 0
  freed d p (h ▷ leaves e c) = freed d p h
  freed d p (h ▷ passes e c) = freed d p h
  freed d p (h ▷ arrives e c) = freed d p h
  freed d p (h ▷ frees e q) = pick (same_direction d e && eqb p q) (freed d p h + 1) (freed d p h)

  -- "Its tap record is what passed, in order, bytes and direction."
  abbrev pub tap_record : Trace (Event A) → Trace (Entry A)
  tap_record start = start
  tap_record (h ▷ leaves e c) = tap_record h
  tap_record (h ▷ passes e c) = tap_record h ▷ record { direction = e; container = c }
  tap_record (h ▷ arrives e c) = tap_record h
  tap_record (h ▷ frees e p) = tap_record h

module _ (K : Link) where
  open K use {Container, State, fresh, reads, next, grants, begins, finishes, carried, capacity}

  -- a message "goes on in G0 of the next container of its direction": the reader's state behind containers of direction d, in order
  abbrev pub state_after : Direction → Trace Container → State
  state_after d start = fresh
  state_after d (cs ▷ c) = next d (state_after d cs) c

  -- what is counted of a container "for each pool": its grants, the messages that start, or the messages that end
  abbrev pub Measure : Type 0
  Measure = Direction → State → Container → ℕ → ℕ

  -- "granted sums the pool's grants, begun counts the messages that start and pay it, finished those of them that end"
  abbrev pub total : Measure → Direction → Trace Container → ℕ → ℕ
  total f d start p = 0
  total f d (cs ▷ c) p = total f d cs p + f d (state_after d cs) c p

  -- "until that container arrives": the same sum over the containers behind the first n, n being how many have arrived
  abbrev pub total_behind : Measure → ℕ → Direction → Trace Container → ℕ → ℕ
  total_behind f n d start p = 0
  total_behind f n d (cs ▷ c) p = pick (leb n (length_of cs)) (total_behind f n d cs p + f d (state_after d cs) c p) 0

  -- "At the start .. all slots are ungranted", "A leaving container turns ungranted slots into the credits that it grants", "A freed
  -- slot is ungranted"; a grant "pays the opposite direction"
  unfoldable pub ungranted : Direction → ℕ → Trace (Event Container) → ℕ
  ungranted d p h = (capacity d p + freed d p h) - total grants (opposite d) (left (opposite d) h) p

  -- "each credit returns until that container arrives"
  unfoldable pub returning : Direction → ℕ → Trace (Event Container) → ℕ
  returning d p h = total_behind grants (length_of (arrived (opposite d) h)) (opposite d) (left (opposite d) h) p

  -- "then is held until paid", "Each message that starts in it pays held credits"
  unfoldable pub held_at_sender : Direction → ℕ → Trace (Event Container) → ℕ
  held_at_sender d p h = total grants (opposite d) (arrived (opposite d) h) p - total begins d (left d h) p

  -- "is in flight in the pools that it pays until its last container arrives": that container is under way, or has yet to leave
  unfoldable pub in_flight : Direction → ℕ → Trace (Event Container) → ℕ
  in_flight d p h = total_behind finishes (length_of (arrived d h)) d (left d h) p + carried (state_after d (left d h)) p

  -- "then buffered until freed"
  unfoldable pub buffered : Direction → ℕ → Trace (Event Container) → ℕ
  buffered d p h = total finishes d (arrived d h) p - freed d p h

  -- "none is ever below zero": of each of the five, what came in is what is there and what went out, so that no difference is cut off
  abbrev pub Flows : Direction → ℕ → Trace (Event Container) → Type 0
  Flows d p h =
      (capacity d p + freed d p h ≡ ungranted d p h + total grants (opposite d) (left (opposite d) h) p)
      × (total grants (opposite d) (left (opposite d) h) p ≡ returning d p h + total grants (opposite d) (arrived (opposite d) h) p)
      × (total grants (opposite d) (arrived (opposite d) h) p ≡ held_at_sender d p h + total begins d (left d h) p)
      × (total begins d (left d h) p ≡ in_flight d p h + total finishes d (arrived d h) p)
      × (total finishes d (arrived d h) p ≡ buffered d p h + freed d p h)

  -- "An event that lacks its container, slot, credit or message stands in no history of rule-keeping ends"; "Containers keep the rules
  -- above for bytes, heads and placement and these for pools"
  abbrev pub Enabled : Trace (Event Container) → Event Container → Type 0
  Enabled h (leaves d c) =
      (reads d (state_after d (left d h)) c ≡ true)
      × ((p : ℕ) → grants d (state_after d (left d h)) c p ≤ ungranted (opposite d) p h)
      × ((p : ℕ) → begins d (state_after d (left d h)) c p ≤ held_at_sender d p h)
  Enabled h (passes d c) = passed d h ▷ c ⊑ left d h
  Enabled h (arrives d c) = arrived d h ▷ c ⊑ passed d h
  Enabled h (frees d p) = 1 ≤ buffered d p h

  -- "A history is a list of events", "delays are arbitrary", and the link "loses, alters and reorders nothing in either direction"
  abbrev pub History : Trace (Event Container) → Type 0
  History start = Unit {0}
  History (h ▷ e) = History h × Enabled h e

  -- "the tap record of some history of two rule-keeping ends"
  abbrev pub Tapped : Trace (Entry Container) → Type 0
  Tapped t = (h : Trace (Event Container)) × History h × (tap_record h ≡ t)
