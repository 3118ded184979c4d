-- The running ledger of a link agrees with the counts over the accepted entries. Assumes nothing but the laws of the link.
use Prim.Native.Nat.{ℕ, ◌+◌, ◌≤◌}
use native.Mathlib.Decide.{dec_le}
use native.Mathlib.Omega.{arith}
use mathlib.Core.Path.{◌≡◌, refl, ap}
use mathlib.Core.Logic.{◌↔◌}
use mathlib.Core.Bool.{true}
use Rattle.lists.proofs.Tests.{and_left, and_right, and_both}
use Rattle.history.specs.Trace.{Trace, start, ◌▷◌}
use Rattle.history.specs.Link.{Direction, direction0, direction1, opposite, Link, Lawful}
use Rattle.history.specs.History.{Entry, state_after, total}
use Rattle.history.specs.Bounds.{containers_of, granted, begun, finished, Within, Bounded}
use Rattle.history.specs.Audit.{fits_below, Ledger, direction_ok, ledger_ok, credits_paid, slots_taken, entry_ok, enter}
use Rattle.history.proofs.Below.{below_fits, fits_below_law, equal_below_law}
use Rattle.history.proofs.Conservation.{state_valid, begun_or_carried}
use Rattle.history.proofs.AtOnce.{bounded_read}
use Rattle.history.proofs.OneMore.{WithinWith, within_needs, within_suffices}

module _ (K : Link) where
  open K use {Container, reads, next, grants, begins, finishes, carried, state_ok, pools, capacity}

  pub bounded_within : (t : Trace (Entry Container)) → Bounded K t → Within K t
  bounded_within start b d p = omega arith
  bounded_within (t ▷ x) b d p = b.2 d p

  -- the ledger holds what the entries come to, and the entries are within their bounds
  pub record Agrees (t : Trace (Entry Container)) (l : Ledger K) : Type 0 where
    pub held_is : (d : Direction) (p : ℕ) → l.held d p + begun K d p t ≡ granted K d p t
    pub unfinished_is : (d : Direction) (p : ℕ) → l.unfinished d p + finished K d p t ≡ begun K d p t
    pub state_is : (d : Direction) → l.states d ≡ state_after K d (containers_of d t)
    pub bounded_kept : Bounded K t

  pub granted_opposite : (e : Direction) (p : ℕ) (t : Trace (Entry Container)) → granted K (opposite e) p t ≡ total K grants e (containers_of e t) p
  granted_opposite direction0 p t = refl
  granted_opposite direction1 p t = refl

  module _ (L : Lawful K) (t : Trace (Entry Container)) (l : Ledger K) (a : Agrees t l) where
    -- the container's numbers in the ledger's state and in the state behind the entries
    same_begins : (c : Container) (d : Direction) (p : ℕ) → begins d (l.states d) c p ≡ begins d (state_after K d (containers_of d t)) c p
    same_begins c d p = ap (λ s. begins d s c p) (a.state_is d)

    same_grants : (c : Container) (d : Direction) (p : ℕ) → grants d (l.states d) c p ≡ grants d (state_after K d (containers_of d t)) c p
    same_grants c d p = ap (λ s. grants d s c p) (a.state_is d)

    same_finishes : (c : Container) (d : Direction) (p : ℕ) → finishes d (l.states d) c p ≡ finishes d (state_after K d (containers_of d t)) c p
    same_finishes c d p = ap (λ s. finishes d s c p) (a.state_is d)

    entry_accepted : (d : Direction) (c : Container) → entry_ok K l d c ≡ true → (reads d (l.states d) c ≡ true) × ((p : ℕ) → WithinWith K t c d p)
    entry_accepted d c h =
        let r = and_right (reads d (l.states d) c) _ h in
        let k = and_left (reads d (l.states d) c) _ h in
        let x = and_left (fits_below pools (credits_paid K l d c) (l.held d)) _ r in
        let y = and_right (fits_below pools (credits_paid K l d c) (l.held d)) _ r in
        (k, λ p. go k x y p (dec_le pools p))
      where
        go : reads d (l.states d) c ≡ true → fits_below pools (credits_paid K l d c) (l.held d) ≡ true → fits_below pools (slots_taken K l d c) (capacity (opposite d)) ≡ true
            → (p : ℕ) → Dec (pools ≤ p) → WithinWith K t c d p
        go k x y p (yes q) =
            let w = bounded_within t a.bounded_kept d p in
            let w' = bounded_within t a.bounded_kept (opposite d) p in
            let z = L.no_begin d (l.states d) c p k q in
            let z' = L.no_grant_law d (l.states d) c p k q in
            let g = granted_opposite d p t in
            let m = same_begins c d p in
            let m' = same_grants c d p in
            omega arith
        go k x y p (no q) =
            let i = below_fits pools (credits_paid K l d c) (l.held d) x p (omega arith) in
            let j = below_fits pools (slots_taken K l d c) (capacity (opposite d)) y p (omega arith) in
            let e = a.held_is d p in
            let e' = a.held_is (opposite d) p in
            let u = a.unfinished_is (opposite d) p in
            let g = granted_opposite d p t in
            let m = same_begins c d p in
            let m' = same_grants c d p in
            omega arith

    entry_complete : (d : Direction) (c : Container) → reads d (l.states d) c ≡ true → ((p : ℕ) → WithinWith K t c d p) → entry_ok K l d c ≡ true
    entry_complete d c r n =
        and_both (reads d (l.states d) c) _ r
        (and_both (fits_below pools (credits_paid K l d c) (l.held d)) _
        (fits_below_law pools (credits_paid K l d c) (l.held d)
        (λ p z. let i = n p in let j = a.held_is d p in let m = same_begins c d p in omega arith))
        (fits_below_law pools (slots_taken K l d c) (capacity (opposite d))
        (λ p z. let i = n p in
        let j = a.held_is (opposite d) p in
        let k = a.unfinished_is (opposite d) p in
        let g = granted_opposite d p t in
        let m = same_grants c d p in
        omega arith)))

    -- the test of an entry passes exactly when the entries with it are within their bounds
    pub entry_exactly : (d : Direction) (c : Container) → entry_ok K l d c ≡ true ↔ Bounded K (t ▷ record { direction = d; container = c })
    entry_exactly d c = (
      λ h. let s = entry_accepted d c h in (a.bounded_kept, rw (← a.state_is d) s.0, within_suffices K t c d (bounded_within t a.bounded_kept) s.1),
      λ b. entry_complete d c (rw (a.state_is d) b.1) (within_needs K t c d b.2),
    )

    -- what is carried is what is unfinished
    unfinished_carried : (d : Direction) (p : ℕ) → l.unfinished d p ≡ carried (l.states d) p
    unfinished_carried d p =
        let u = a.unfinished_is d p in
        let b = begun_or_carried K L d p (containers_of d t) (bounded_read K t a.bounded_kept d) in
        rw (a.state_is d) (omega arith)

    ledger_state : (d : Direction) → state_ok d (l.states d) ≡ true
    ledger_state d = rw (a.state_is d) (state_valid K L d (containers_of d t) (bounded_read K t a.bounded_kept d))

    direction_valid : (d : Direction) → direction_ok K l d ≡ true
    direction_valid d =
        and_both (state_ok d (l.states d)) _ (ledger_state d)
        (and_both (fits_below pools (λ p. l.held d p + l.unfinished d p) (capacity d)) _
        (fits_below_law pools (λ p. l.held d p + l.unfinished d p) (capacity d)
        (λ p z. let w = bounded_within t a.bounded_kept d p in let h = a.held_is d p in let u = a.unfinished_is d p in omega arith))
        (equal_below_law pools (l.unfinished d) (carried (l.states d)) (λ p z. unfinished_carried d p)))

    -- a ledger that agrees is valid
    pub ledger_valid : ledger_ok K l ≡ true
    ledger_valid = and_both (direction_ok K l direction0) _ (direction_valid direction0) (direction_valid direction1)

    module _ (c : Container) where
      entered_held : (d e : Direction) (p : ℕ) → WithinWith K t c d p
          → (enter K l d c).held e p + begun K e p (t ▷ record { direction = d; container = c }) ≡ granted K e p (t ▷ record { direction = d; container = c })
      entered_held direction0 direction0 p n = let k = a.held_is direction0 p in let m = same_begins c direction0 p in omega arith
      entered_held direction0 direction1 p n = let k = a.held_is direction1 p in let m = same_grants c direction0 p in omega arith
      entered_held direction1 direction0 p n = let k = a.held_is direction0 p in let m = same_grants c direction1 p in omega arith
      entered_held direction1 direction1 p n = let k = a.held_is direction1 p in let m = same_begins c direction1 p in omega arith

      entered_unfinished : (d e : Direction) (p : ℕ)
          → carried (l.states d) p + begins d (l.states d) c p ≡ finishes d (l.states d) c p + carried (next d (l.states d) c) p
          → (enter K l d c).unfinished e p + finished K e p (t ▷ record { direction = d; container = c }) ≡ begun K e p (t ▷ record { direction = d; container = c })
      entered_unfinished direction0 direction0 p n =
          let k = a.unfinished_is direction0 p in
          let m = same_begins c direction0 p in
          let m' = same_finishes c direction0 p in
          let u = unfinished_carried direction0 p in
          omega arith
      entered_unfinished direction0 direction1 p n = a.unfinished_is direction1 p
      entered_unfinished direction1 direction0 p n = a.unfinished_is direction0 p
      entered_unfinished direction1 direction1 p n =
          let k = a.unfinished_is direction1 p in
          let m = same_begins c direction1 p in
          let m' = same_finishes c direction1 p in
          let u = unfinished_carried direction1 p in
          omega arith

      entered_state : (d e : Direction) → (enter K l d c).states e ≡ state_after K e (containers_of e (t ▷ record { direction = d; container = c }))
      entered_state direction0 direction0 = ap (λ s. next direction0 s c) (a.state_is direction0)
      entered_state direction0 direction1 = a.state_is direction1
      entered_state direction1 direction0 = a.state_is direction0
      entered_state direction1 direction1 = ap (λ s. next direction1 s c) (a.state_is direction1)

      -- the ledger with the entry agrees with the entries and it
      pub entered_agrees : (d : Direction) → Bounded K (t ▷ record { direction = d; container = c })
          → Agrees (t ▷ record { direction = d; container = c }) (enter K l d c)
      entered_agrees d b = record {
        held_is = λ e p. entered_held d e p (within_needs K t c d b.2 p);
        unfinished_is = λ e p. entered_unfinished d e p (L.none_lost d (l.states d) c p (ledger_state d) (rw (a.state_is d) b.1));
        state_is = entered_state d;
        bounded_kept = b;
      }
