-- Two lists of calls whose accepted entries have the same containers within each direction end with the same reports and readers.
-- Assumes nothing but the laws of the link.
use Prim.Native.Nat.{ℕ}
use native.Mathlib.Omega.{arith}
use mathlib.Core.Path.{◌≡◌, sym, ◌∙◌, ap}
use Rattle.history.specs.Trace.{Trace}
use Rattle.history.specs.Link.{Direction, opposite, Link, Lawful}
use Rattle.history.specs.History.{Entry, state_after, Measure, total, Tapped}
use Rattle.history.specs.Bounds.{containers_of}
use Rattle.history.specs.Calls.{Call, Auditor, after, accepted}
use Rattle.history.specs.Audit.{Ledger, link_auditor}
use Rattle.history.specs.Interleaving.{SameContainers, SameReports}
use Rattle.history.proofs.Calls.{always_agrees, Simulates, always_related, same_accepted}
use Rattle.history.proofs.Ledger.{Agrees}
use Rattle.history.proofs.Demand.{link_faithful}

module _ (K : Link) where
  open K use {Container, grants, begins, finishes}

  -- ledgers that agree with entries of the same containers
  module _ (t u : Trace (Entry Container)) (l m : Ledger K) (a : Agrees K t l) (b : Agrees K u m) (e : SameContainers t u) where
    same_total : (f : Measure K) (d : Direction) (p : ℕ) → total K f d (containers_of d t) p ≡ total K f d (containers_of d u) p
    same_total f d p = ap (λ (cs : Trace Container). total K f d cs p) (e d)

    pub same_numbers : SameReports (link_auditor K) l m
    same_numbers = record {
      held = λ d p.
          let h = a.held_is d p in
          let h' = b.held_is d p in
          let g = same_total grants (opposite d) p in
          let s = same_total begins d p in
          omega arith;
      unfinished = λ d p.
          let h = a.unfinished_is d p in
          let h' = b.unfinished_is d p in
          let s = same_total begins d p in
          let f = same_total finishes d p in
          omega arith;
    }

    pub same_states : (d : Direction) → l.states d ≡ m.states d
    same_states d = a.state_is d ∙ ap (state_after K d) (e d) ∙ sym (b.state_is d)

  -- an audit that answers and reports as the link's does
  module _ (L : Lawful K) (U : Auditor Container) (Related : U.Ledger → Ledger K → Type 0) (S : Simulates U (link_auditor K) Related)
      (xs ys : Trace (Call Container)) (e : SameContainers (accepted U xs) (accepted U ys)) where
    abbrev T : Auditor Container
    T = link_auditor K

    agree : (zs : Trace (Call Container)) → Agrees K (accepted T zs) (after T zs)
    agree = always_agrees T (Tapped K) (Agrees K) (link_faithful K L)

    same : SameContainers (accepted T xs) (accepted T ys)
    same d = sym (ap (containers_of d) (same_accepted U T Related S xs)) ∙ e d ∙ ap (containers_of d) (same_accepted U T Related S ys)

    pub interleaved : SameReports U (after U xs) (after U ys)
    interleaved =
        let r = always_related U T Related S xs in
        let q = always_related U T Related S ys in
        let n = same_numbers (accepted T xs) (accepted T ys) (after T xs) (after T ys) (agree xs) (agree ys) same in
        record {
          held = λ d p. S.same_held _ _ r d p ∙ n.held d p ∙ sym (S.same_held _ _ q d p);
          unfinished = λ d p. S.same_unfinished _ _ r d p ∙ n.unfinished d p ∙ sym (S.same_unfinished _ _ q d p);
        }

    pub interleaved_states : (d : Direction) → (after T xs).states d ≡ (after T ys).states d
    interleaved_states = same_states (accepted T xs) (accepted T ys) (after T xs) (after T ys) (agree xs) (agree ys) same
