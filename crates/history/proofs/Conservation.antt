-- Conservation: in every history, at each moment, for each direction and pool, no count is below zero and the five add up to the
-- receiver's buffers. Assumes nothing but the laws of the link.
use Prim.Native.Nat.{ℕ, ◌+◌, ◌≤◌}
use native.Mathlib.Omega.{arith}
use mathlib.Core.Path.{◌≡◌, refl}
use mathlib.Core.Bool.{true}
use Rattle.history.specs.Trace.{Trace, start, ◌▷◌, ◌⊑◌, whole, shorter}
use Rattle.history.specs.Link.{Direction, direction0, direction1, opposite, Link, Lawful}
use Rattle.history.specs.History.{Event, leaves, passes, arrives, frees, left, arrived, freed, state_after, total, ungranted, returning, held_at_sender, in_flight, buffered, Flows, History}
use Rattle.history.specs.Delays.{Readable}
use Rattle.history.proofs.Order.{in_order, total_grows, total_split, ⊑_trans, append_grows, append_one_direction, freed_by}

module _ (K : Link) where
  open K use {Container, grants, begins, finishes, carried, state_ok, capacity}

  -- no more is granted than there were slots, no more begun than credits arrived, and no more freed than messages arrived
  abbrev pub Bounded : Trace (Event Container) → Direction → ℕ → Type 0
  Bounded h d p =
      (total K grants (opposite d) (left (opposite d) h) p ≤ capacity d p + freed d p h)
      × (total K begins d (left d h) p ≤ total K grants (opposite d) (arrived (opposite d) h) p)
      × (freed d p h ≤ total K finishes d (arrived d h) p)

  pub out_within_in : (h : Trace (Event Container)) → History K h → (d : Direction) (p : ℕ) → Bounded h d p
  unfolding ungranted held_at_sender buffered
  out_within_in start v d p = omega arith
  out_within_in (h ▷ leaves direction0 c) v direction0 p = let i = out_within_in h v.0 direction0 p in let b = v.1.2 p in omega arith
  out_within_in (h ▷ leaves direction0 c) v direction1 p = let i = out_within_in h v.0 direction1 p in let g = v.1.1 p in omega arith
  out_within_in (h ▷ leaves direction1 c) v direction0 p = let i = out_within_in h v.0 direction0 p in let g = v.1.1 p in omega arith
  out_within_in (h ▷ leaves direction1 c) v direction1 p = let i = out_within_in h v.0 direction1 p in let b = v.1.2 p in omega arith
  out_within_in (h ▷ passes e c) v d p = out_within_in h v.0 d p
  out_within_in (h ▷ arrives e c) v d p =
      let i = out_within_in h v.0 d p in
      let g = total_grows K grants (opposite d) p (append_grows (opposite d) e c {a = arrived (opposite d) h} (whole refl)) in
      let f = total_grows K finishes d p (append_grows d e c {a = arrived d h} (whole refl)) in
      omega arith
  out_within_in (h ▷ frees e q) v d p =
      freed_by
      (λ n. (total K grants (opposite d) (left (opposite d) h) p ≤ capacity d p + n)
      × (total K begins d (left d h) p ≤ total K grants (opposite d) (arrived (opposite d) h) p)
      × (n ≤ total K finishes d (arrived d h) p))
      (freed d p h)
      d
      e
      p
      q
      (out_within_in h v.0 d p)
      (λ de pq. let i = out_within_in h v.0 d p in let b : 1 ≤ buffered K d p h = rw (de, pq) v.1 in omega arith)

  pub left_reads : (h : Trace (Event Container)) → History K h → (d : Direction) → Readable K d (left d h)
  left_reads start v d = tt
  left_reads (h ▷ leaves e c) v d =
      append_one_direction (λ d l. Readable K d l) (λ d. left d h) e c (left_reads h v.0 e, v.1.0) (left_reads h v.0 (opposite e)) d
  left_reads (h ▷ passes e c) v d = left_reads h v.0 d
  left_reads (h ▷ arrives e c) v d = left_reads h v.0 d
  left_reads (h ▷ frees e q) v d = left_reads h v.0 d

  -- a history up to a moment is a history
  pub moment_history : {m h : Trace (Event Container)} → m ⊑ h → History K h → History K m
  moment_history (whole e) v = rw e v
  moment_history (shorter k) v = moment_history k v.0

  module _ (L : Lawful K) where
    pub state_valid : (d : Direction) (cs : Trace Container) → Readable K d cs → state_ok d (state_after K d cs) ≡ true
    state_valid d start r = L.fresh_ok d
    state_valid d (cs ▷ c) r = L.next_ok d (state_after K d cs) c (state_valid d cs r.0) r.1

    -- what has begun has finished or is carried
    pub begun_or_carried : (d : Direction) (p : ℕ) (cs : Trace Container) → Readable K d cs
        → total K begins d cs p ≡ total K finishes d cs p + carried (state_after K d cs) p
    begun_or_carried d p start r = let z = L.none_at_first p in omega arith
    begun_or_carried d p (cs ▷ c) r =
        let i = begun_or_carried d p cs r.0 in
        let n = L.none_lost d (state_after K d cs) c p (state_valid d cs r.0) r.1 in
        omega arith

    -- what came into each count is what is there and what went out
    pub flows_hold : (h : Trace (Event Container)) → History K h → (d : Direction) (p : ℕ) → Flows K d p h
    unfolding ungranted returning held_at_sender in_flight buffered
    flows_hold h v d p =
        let i = out_within_in h v d p in
        let o = in_order K h v d in
        let o' = in_order K h v (opposite d) in
        let g = total_split K grants (opposite d) p (⊑_trans o'.1 o'.0) in
        let f = total_split K finishes d p (⊑_trans o.1 o.0) in
        let b = begun_or_carried d p (left d h) (left_reads h v d) in
        omega arith

    -- the five add up to the receiver's buffers
    pub conserved : (h : Trace (Event Container)) → History K h → (d : Direction) (p : ℕ)
        → ungranted K d p h + returning K d p h + held_at_sender K d p h + in_flight K d p h + buffered K d p h ≡ capacity d p
    conserved h v d p = let s = flows_hold h v d p in omega arith
