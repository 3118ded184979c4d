-- The bounds of a tap record: what its entries granted, began and finished, and what holds of these numbers after every entry.
use Rattle.std.specs.Prelude.{ℕ, ◌+◌, ◌≤◌, ◌≡◌, true}
use Rattle.history.specs.Trace.{Trace, start, ◌▷◌}
use Rattle.history.specs.Link.{Direction, opposite, Link}
use Rattle.history.specs.History.{Entry, append_if, state_after, total}

-- the containers of the entries of direction d, in order
abbrev pub containers_of : {A : Type 0} → Direction → Trace (Entry A) → Trace A
containers_of d start = start
containers_of d (t ▷ x) = append_if d x.direction x.container (containers_of d t)

module _ (K : Link) where
  open K use {Container, reads, grants, begins, finishes, capacity}

  -- the credits that the entries grant to pool p of direction d
  abbrev pub granted : Direction → ℕ → Trace (Entry Container) → ℕ
  granted d p t = total K grants (opposite d) (containers_of (opposite d) t) p

  -- the messages that start in the entries and pay pool p of direction d, of pool 9 the responses
  abbrev pub begun : Direction → ℕ → Trace (Entry Container) → ℕ
  begun d p t = total K begins d (containers_of d t) p

  -- the messages that end in the entries and pay pool p of direction d, of pool 9 the responses
  abbrev pub finished : Direction → ℕ → Trace (Entry Container) → ℕ
  finished d p t = total K finishes d (containers_of d t) p

  -- "for each pool: begun ≤ granted ≤ capacity + finished"
  abbrev pub Within : Trace (Entry Container) → Type 0
  Within t = (d : Direction) (p : ℕ) → (begun d p t ≤ granted d p t) × (granted d p t ≤ capacity d p + finished d p t)

  -- each container reads in the order of its direction, and "after every entry" every pool is within its bounds
  abbrev pub Bounded : Trace (Entry Container) → Type 0
  Bounded start = Unit {0}
  Bounded (t ▷ x) =
      Bounded t
      × (reads x.direction (state_after K x.direction (containers_of x.direction t)) x.container ≡ true)
      × Within (t ▷ x)
