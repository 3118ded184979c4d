-- Interleavings: two tap records have the same containers within each direction exactly when both interleave the same two traces, and
-- neighbours of different directions may be exchanged. Assumes nothing.
use Prim.Native.Nat.{ℕ, ◌≤◌}
use native.Mathlib.Omega.{arith}
use mathlib.Core.Path.{◌≡◌, refl, sym, ap, ◌∙◌}
use mathlib.Core.Logic.{◌↔◌}
use Rattle.history.specs.Trace.{Trace, start, ◌▷◌}
use Rattle.history.specs.Link.{Direction, direction0, direction1, Link}
use Rattle.history.specs.History.{Entry, append_if}
use Rattle.history.specs.Bounds.{containers_of}
use Rattle.history.specs.Audit.{Ledger, credits_paid, enter}
use Rattle.history.specs.Interleaving.{SameContainers, Interleaves, none, next0, next1}

module _ {A : Type 0} where
  -- the containers of each direction, in order
  of_direction0 : {a b : Trace A} {t : Trace (Entry A)} → Interleaves a b t → containers_of direction0 t ≡ a
  of_direction0 none = refl
  of_direction0 (next0 c i) = ap (λ (a : Trace A). a ▷ c) (of_direction0 i)
  of_direction0 (next1 c i) = of_direction0 i

  of_direction1 : {a b : Trace A} {t : Trace (Entry A)} → Interleaves a b t → containers_of direction1 t ≡ b
  of_direction1 none = refl
  of_direction1 (next0 c i) = of_direction1 i
  of_direction1 (next1 c i) = ap (λ (b : Trace A). b ▷ c) (of_direction1 i)

  of_direction : {a b : Trace A} {t u : Trace (Entry A)} → Interleaves a b t → Interleaves a b u → SameContainers t u
  of_direction i j direction0 = of_direction0 i ∙ sym (of_direction0 j)
  of_direction i j direction1 = of_direction1 i ∙ sym (of_direction1 j)

  -- one entry more
  interleaves_more : {a b : Trace A} {t : Trace (Entry A)} (x : Entry A) → Interleaves a b t
      → Interleaves (append_if direction0 x.direction x.container a) (append_if direction1 x.direction x.container b) (t ▷ x)
  interleaves_more {a} {b} {t} x i = by x.direction
    where
      by : (d : Direction) → Interleaves (append_if direction0 d x.container a) (append_if direction1 d x.container b) (t ▷ record { direction = d; container = x.container })
      by direction0 = next0 x.container i
      by direction1 = next1 x.container i

  -- a tap record interleaves its containers of direction 0 and those of direction 1
  interleaves_own : (t : Trace (Entry A)) → Interleaves (containers_of direction0 t) (containers_of direction1 t) t
  interleaves_own start = none
  interleaves_own (t ▷ x) = interleaves_more x (interleaves_own t)

  pub same_exactly : (t u : Trace (Entry A)) → SameContainers t u ↔ ((a : Trace A) × (b : Trace A) × Interleaves a b t × Interleaves a b u)
  same_exactly t u = (
    λ e. (containers_of direction0 t, containers_of direction1 t, interleaves_own t, rw (e direction0, e direction1) (interleaves_own u)),
    λ i. of_direction i.2 i.3,
  )

-- a container of each direction, c0 before c1 or behind it
module _ (K : Link) (l : Ledger K) (c0 c1 : K.Container) where
  abbrev first0 : Ledger K
  first0 = enter K (enter K l direction0 c0) direction1 c1

  abbrev first1 : Ledger K
  first1 = enter K (enter K l direction1 c1) direction0 c0

  -- the same credits are held, if those that the messages pay are held before both
  pub exchanged_held : ((p : ℕ) → credits_paid K l direction0 c0 p ≤ l.held direction0 p) → ((p : ℕ) → credits_paid K l direction1 c1 p ≤ l.held direction1 p)
      → (d : Direction) (p : ℕ) → first0.held d p ≡ first1.held d p
  exchanged_held h k direction0 p = let q = h p in omega arith
  exchanged_held h k direction1 p = let q = k p in omega arith

  pub exchanged_unfinished : (d : Direction) (p : ℕ) → first0.unfinished d p ≡ first1.unfinished d p
  exchanged_unfinished direction0 p = refl
  exchanged_unfinished direction1 p = refl

  pub exchanged_states : (d : Direction) → first0.states d ≡ first1.states d
  exchanged_states direction0 = refl
  exchanged_states direction1 = refl
