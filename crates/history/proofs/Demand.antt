-- Demand 3 holds for every list of calls, of the audit of a link and of every audit that answers and reports as it does. Assumes nothing
-- but the laws of the link.
use mathlib.Core.Path.{◌≡◌, refl, subst}
use mathlib.Core.Logic.{◌↔◌}
use mathlib.Core.Bool.{true, false, ◌&&◌, false≢true}
use mathlib.Core.Option.{Option, none, some}
use Rattle.lists.proofs.Tests.{and_right, and_both}
use Rattle.history.specs.Trace.{Trace, ◌▷◌}
use Rattle.history.specs.Link.{Direction, number_of, direction_of, Link, Lawful}
use Rattle.history.specs.History.{Entry, Tapped}
use Rattle.history.specs.Bounds.{Bounded}
use Rattle.history.specs.Calls.{Call, Auditor, Admits, after}
use Rattle.history.specs.Audit.{Ledger, ledger_ok, entry_ok, audit_entry, link_auditor}
use Rattle.history.specs.Demand.{Closed}
use Rattle.history.proofs.Conservation.{moment_history, flows_hold, conserved}
use Rattle.history.proofs.Sound.{tap_sound}
use Rattle.history.proofs.AtOnce.{tap_complete}
use Rattle.history.proofs.Ledger.{Agrees, ledger_valid, entered_agrees, entry_exactly}
use Rattle.history.proofs.Calls.{direction_is, number_is, Faithful, always_agrees, calls_exactly, Simulates, always_related, same_accepted}

module _ (K : Link) (L : Lawful K) where
  open K use {Container}

  -- entries are the tap record of some history exactly when they are within their bounds
  pub tap_exactly : (t : Trace (Entry Container)) → Tapped K t ↔ Bounded K t
  tap_exactly t = (λ h. subst (Bounded K) h.2 (tap_sound K h.0 h.1), tap_complete K L t)

  module _ (t : Trace (Entry Container)) (l : Ledger K) (a : Agrees K t l) (x : Call Container) where
    accepted_only : (o : Option Direction) → direction_of x.number ≡ o → (audit_entry K l o x.container).accepts ≡ true
        → Admits (Tapped K) t x
    accepted_only none e h = absurd (false≢true h)
    accepted_only (some d) e h =
        let b = (entry_exactly K L t l a d x.container).0 (and_right (ledger_ok K l) (entry_ok K l d x.container) h) in
        (d, number_is x.number d e, (tap_exactly _).1 b)

    entry_passes : (d : Direction) → Tapped K (t ▷ record { direction = d; container = x.container })
        → ledger_ok K l && entry_ok K l d x.container ≡ true
    entry_passes d h =
        and_both (ledger_ok K l) (entry_ok K l d x.container) (ledger_valid K L t l a)
        ((entry_exactly K L t l a d x.container).1 ((tap_exactly _).0 h))

    accepted_if : Admits (Tapped K) t x → (audit_entry K l (direction_of x.number) x.container).accepts ≡ true
    accepted_if w = rw (direction_is x.number w.0 w.1) (entry_passes w.0 w.2)

    entered : (d : Direction) → number_of d ≡ x.number → Tapped K (t ▷ record { direction = d; container = x.container })
        → Agrees K (t ▷ record { direction = d; container = x.container }) (audit_entry K l (direction_of x.number) x.container).ledger
    entered d e h = rw (direction_is x.number d e, entry_passes d h) (entered_agrees K L t l a x.container d ((tap_exactly _).0 h))

    -- a refusal hands back the ledger as it was
    unchanged : (o : Option Direction) → (audit_entry K l o x.container).accepts ≡ false → (audit_entry K l o x.container).ledger ≡ l
    unchanged none h = refl
    unchanged (some d) h = rw h

    refused : (audit_entry K l (direction_of x.number) x.container).accepts ≡ false
        → Agrees K t (audit_entry K l (direction_of x.number) x.container).ledger
    refused h = rw (unchanged (direction_of x.number) h) a

  pub link_faithful : Faithful (link_auditor K) (Tapped K) (Agrees K)
  link_faithful = record {
    at_first = record { held_is = λ d p. refl; unfinished_is = λ d p. refl; state_is = λ d. refl; bounded_kept = tt };
    decides = λ t l a x. (accepted_only t l a x (direction_of x.number) refl, accepted_if t l a x);
    enters = entered;
    refuses = refused;
  }

  -- demand 3 holds of a link's audit
  pub link_closes : (xs : Trace (Call Container)) → Closed K (link_auditor K) xs
  link_closes xs = record {
    accepts_exactly = calls_exactly (link_auditor K) (Tapped K) (Agrees K) link_faithful xs;
    credits = λ now m. (always_agrees (link_auditor K) (Tapped K) (Agrees K) link_faithful now).held_is;
    messages = λ now m. (always_agrees (link_auditor K) (Tapped K) (Agrees K) link_faithful now).unfinished_is;
    counted = λ now b h m v e k. flows_hold K L m (moment_history K k v);
    adds_up = λ now b h m v e k. conserved K L m (moment_history K k v);
  }

  -- demand 3 holds of an audit with ledgers of another kind, if it answers and reports as the link's audit does
  module _ (U : Auditor Container) (Related : U.Ledger → Ledger K → Type 0) (S : Simulates U (link_auditor K) Related) where
    pub audit_closes : (xs : Trace (Call Container)) → Closed K U xs
    audit_closes xs =
        let r = always_related U (link_auditor K) Related S in
        let s = same_accepted U (link_auditor K) Related S in
        let c = link_closes xs in
        record {
          accepts_exactly = λ before x m.
              rw (S.same_answer (after U before) (after (link_auditor K) before) (r before) x, s before) (c.accepts_exactly before x m);
          credits = λ now m d p. rw (S.same_held (after U now) (after (link_auditor K) now) (r now) d p, s now) (c.credits now m d p);
          messages = λ now m d p. rw (S.same_unfinished (after U now) (after (link_auditor K) now) (r now) d p, s now) (c.messages now m d p);
          counted = λ now b h m v e k. flows_hold K L m (moment_history K k v);
          adds_up = λ now b h m v e k. conserved K L m (moment_history K k v);
        }
