-- One entry more: which bounds it changes. Assumes nothing.
use Prim.Native.Nat.{ℕ, ◌+◌, ◌≤◌}
use native.Mathlib.Omega.{arith}
use Rattle.history.specs.Trace.{Trace, ◌▷◌}
use Rattle.history.specs.Link.{Direction, direction0, direction1, opposite, Link}
use Rattle.history.specs.History.{Entry, state_after, total}
use Rattle.history.specs.Bounds.{containers_of, Within}

module _ (K : Link) (t : Trace (Entry K.Container)) (c : K.Container) where
  open K use {grants, begins, finishes, capacity}

  -- a container in direction e begins messages in the pools of e, and grants to the pools of the opposite direction
  abbrev pub WithinWith : Direction → ℕ → Type 0
  WithinWith e p =
      (total K begins e (containers_of e t) p + begins e (state_after K e (containers_of e t)) c p
      ≤ total K grants (opposite e) (containers_of (opposite e) t) p)
      × (total K grants e (containers_of e t) p + grants e (state_after K e (containers_of e t)) c p
      ≤ capacity (opposite e) p + total K finishes (opposite e) (containers_of (opposite e) t) p)

  pub within_needs : (e : Direction) → Within K (t ▷ record { direction = e; container = c }) → (p : ℕ) → WithinWith e p
  within_needs direction0 w p = ((w direction0 p).0, (w direction1 p).1)
  within_needs direction1 w p = ((w direction1 p).0, (w direction0 p).1)

  pub within_suffices : (e : Direction) → Within K t → ((p : ℕ) → WithinWith e p) → Within K (t ▷ record { direction = e; container = c })
  within_suffices direction0 w n direction0 p = let i = w direction0 p in let j = n p in omega arith
  within_suffices direction0 w n direction1 p = let i = w direction1 p in let j = n p in omega arith
  within_suffices direction1 w n direction0 p = let i = w direction0 p in let j = n p in omega arith
  within_suffices direction1 w n direction1 p = let i = w direction1 p in let j = n p in omega arith
