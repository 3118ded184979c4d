-- In every history the counters that each event moves are the five counts. Assumes nothing but the laws of the link.
use Prim.Native.Nat.{ℕ}
use native.Mathlib.Omega.{arith}
use mathlib.Core.Path.{◌≡◌, refl, ◌∙◌, ap}
use mathlib.Core.Bool.{Bool, true, false, ◌&&◌}
use lib.Dec.{eqb}
use Rattle.lists.specs.Pick.{pick}
use Rattle.history.specs.Trace.{Trace, start, ◌▷◌}
use Rattle.history.specs.Link.{Direction, direction0, direction1, same_direction, Link, Lawful}
use Rattle.history.specs.History.{Event, leaves, passes, arrives, frees, ungranted, returning, held_at_sender, in_flight, buffered, History}
use Rattle.history.specs.Counters.{Counters, free, moved, counters_at}
use Rattle.history.proofs.Conservation.{flows_hold}

same_counters : (f g : Counters)
    → (f.ungranted ≡ g.ungranted)
    × (f.returning ≡ g.returning)
    × (f.held_at_sender ≡ g.held_at_sender)
    × (f.in_flight ≡ g.in_flight)
    × (f.buffered ≡ g.buffered)
    → f ≡ g
same_counters f g e = λ i. record {
  ungranted = e.0 i;
  returning = e.1 i;
  held_at_sender = e.2 i;
  in_flight = e.3 i;
  buffered = e.4 i;
}

module _ (K : Link) (L : Lawful K) where
  open K use {Container, grants, begins, finishes, carried, capacity}

  -- the five counts at a moment
  abbrev pub counters_of : Direction → ℕ → Trace (Event Container) → Counters
  counters_of d p h = record {
    ungranted = ungranted K d p h;
    returning = returning K d p h;
    held_at_sender = held_at_sender K d p h;
    in_flight = in_flight K d p h;
    buffered = buffered K d p h;
  }

  free_counts : (d : Direction) (p : ℕ) (h : Trace (Event Container)) (e : Direction) (q : ℕ) → History K (h ▷ frees e q)
      → (b : Bool) → (same_direction d e && eqb p q) ≡ b
      → pick (same_direction d e && eqb p q) (free 1 (counters_of d p h)) (counters_of d p h) ≡ counters_of d p (h ▷ frees e q)
  free_counts d p h e q v true t =
      let a = flows_hold K L h v.0 d p in let b = flows_hold K L (h ▷ frees e q) v d p in let b' = rw t at b in rw t (same_counters _ _ (omega arith))
  free_counts d p h e q v false t =
      let a = flows_hold K L h v.0 d p in let b = flows_hold K L (h ▷ frees e q) v d p in let b' = rw t at b in rw t (same_counters _ _ (omega arith))

  -- an event moves the five counts before it to those behind it
  moved_counts : (d : Direction) (p : ℕ) (h : Trace (Event Container)) (e : Event Container) → History K (h ▷ e)
      → moved K d p h e (counters_of d p h) ≡ counters_of d p (h ▷ e)
  moved_counts direction0 p h (leaves direction0 c) v =
      same_counters _ _ (let a = flows_hold K L h v.0 direction0 p in let b = flows_hold K L (h ▷ leaves direction0 c) v direction0 p in omega arith)
  moved_counts direction0 p h (leaves direction1 c) v =
      same_counters _ _ (let a = flows_hold K L h v.0 direction0 p in let b = flows_hold K L (h ▷ leaves direction1 c) v direction0 p in omega arith)
  moved_counts direction1 p h (leaves direction0 c) v =
      same_counters _ _ (let a = flows_hold K L h v.0 direction1 p in let b = flows_hold K L (h ▷ leaves direction0 c) v direction1 p in omega arith)
  moved_counts direction1 p h (leaves direction1 c) v =
      same_counters _ _ (let a = flows_hold K L h v.0 direction1 p in let b = flows_hold K L (h ▷ leaves direction1 c) v direction1 p in omega arith)
  moved_counts d p h (passes e c) v =
      same_counters _ _ (let a = flows_hold K L h v.0 d p in let b = flows_hold K L (h ▷ passes e c) v d p in omega arith)
  moved_counts direction0 p h (arrives direction0 c) v =
      same_counters _ _ (let a = flows_hold K L h v.0 direction0 p in let b = flows_hold K L (h ▷ arrives direction0 c) v direction0 p in omega arith)
  moved_counts direction0 p h (arrives direction1 c) v =
      same_counters _ _ (let a = flows_hold K L h v.0 direction0 p in let b = flows_hold K L (h ▷ arrives direction1 c) v direction0 p in omega arith)
  moved_counts direction1 p h (arrives direction0 c) v =
      same_counters _ _ (let a = flows_hold K L h v.0 direction1 p in let b = flows_hold K L (h ▷ arrives direction0 c) v direction1 p in omega arith)
  moved_counts direction1 p h (arrives direction1 c) v =
      same_counters _ _ (let a = flows_hold K L h v.0 direction1 p in let b = flows_hold K L (h ▷ arrives direction1 c) v direction1 p in omega arith)
  moved_counts d p h (frees e q) v = free_counts d p h e q v (same_direction d e && eqb p q) refl

  -- kept step by step, or counted over what has left, arrived and been freed: it is the same
  pub counters_are : (d : Direction) (p : ℕ) (h : Trace (Event Container)) → History K h → counters_at K d p h ≡ counters_of d p h
  unfolding ungranted returning held_at_sender in_flight buffered
  counters_are d p start v = same_counters _ _ (let z = L.none_at_first p in omega arith)
  counters_are d p (h ▷ e) v = ap (moved K d p h e) (counters_are d p h v.0) ∙ moved_counts d p h e v
