-- The tap record of every history is within its bounds. Assumes nothing.
use Prim.Native.Nat.{ℕ, ◌+◌, ◌≤◌}
use native.Mathlib.Omega.{arith}
use mathlib.Core.Path.{◌≡◌, refl, ap}
use Rattle.history.specs.Trace.{Trace, start, ◌▷◌, ◌⊑◌, whole, shorter}
use Rattle.history.specs.Link.{Direction, opposite, Link}
use Rattle.history.specs.History.{Event, leaves, passes, arrives, frees, append_if, passed, tap_record, total, History}
use Rattle.history.specs.Bounds.{containers_of, Within, Bounded}
use Rattle.history.specs.Delays.{Readable}
use Rattle.history.proofs.Order.{in_order, total_grows}
use Rattle.history.proofs.Conservation.{out_within_in, left_reads}

-- the containers of a tap record are those that passed
pub containers_passed : {A : Type 0} (d : Direction) (h : Trace (Event A)) → containers_of d (tap_record h) ≡ passed d h
containers_passed d start = refl
containers_passed d (h ▷ leaves e c) = containers_passed d h
containers_passed d (h ▷ passes e c) = ap (append_if d e c) (containers_passed d h)
containers_passed d (h ▷ arrives e c) = containers_passed d h
containers_passed d (h ▷ frees e p) = containers_passed d h

module _ (K : Link) where
  open K use {Container, grants, begins, finishes, capacity}

  -- what has passed is within bounds: more has left than passed, and less has arrived
  pub passed_bounds : (h : Trace (Event Container)) → History K h → (d : Direction) (p : ℕ)
      → (total K begins d (passed d h) p ≤ total K grants (opposite d) (passed (opposite d) h) p)
      × (total K grants (opposite d) (passed (opposite d) h) p ≤ capacity d p + total K finishes d (passed d h) p)
  passed_bounds h v d p =
      let i = out_within_in K h v d p in
      let o = in_order K h v d in
      let o' = in_order K h v (opposite d) in
      let b = total_grows K begins d p o.0 in
      let f = total_grows K finishes d p o.1 in
      let g = total_grows K grants (opposite d) p o'.1 in
      let g' = total_grows K grants (opposite d) p o'.0 in
      omega arith

  tap_within : (h : Trace (Event Container)) → History K h → Within K (tap_record h)
  tap_within h v d p = rw (containers_passed d h, containers_passed (opposite d) h) (let b = passed_bounds h v d p in omega arith)

  beginning_reads : (d : Direction) {a b : Trace Container} → a ⊑ b → Readable K d b → Readable K d a
  beginning_reads d (whole e) r = rw e r
  beginning_reads d (shorter k) r = beginning_reads d k r.0

  pub tap_sound : (h : Trace (Event Container)) → History K h → Bounded K (tap_record h)
  tap_sound start v = tt
  tap_sound (h ▷ leaves e c) v = tap_sound h v.0
  tap_sound (h ▷ passes e c) v = (
    tap_sound h v.0,
    rw (containers_passed e h) (beginning_reads e v.1 (left_reads K h v.0 e)).1,
    tap_within (h ▷ passes e c) v,
  )
  tap_sound (h ▷ arrives e c) v = tap_sound h v.0
  tap_sound (h ▷ frees e p) v = tap_sound h v.0
