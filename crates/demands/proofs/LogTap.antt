-- An accepted log is the tap record of some history, and so is what is accepted before a refusal; a log that is refused by a reading or
-- pool cause is not, with the refused entry. Assumes nothing.
use Prim.Native.Nat.{ℕ, ◌<◌}
use native.Mathlib.Omega.{arith}
use mathlib.Core.Path.{◌≡◌, refl, sym, ap, subst, ◌∙◌}
use mathlib.Core.Bool.{true}
use mathlib.Core.List.{List, [], ◌∷◌, ◌++◌}
use mathlib.Core.Logic.{⊎_elim, inl, inr}
use mathlib.Core.Option.{Option, some}
use lib.ListN.{get_or, drop}
use Rattle.lists.proofs.Tests.{never_both}
use Rattle.cause.specs.Checks.{passes, Refused}
use Rattle.cause.specs.declared.Cause.{Cause}
use Rattle.ledger.specs.Audit.{configured, auditing}
use Rattle.logs.specs.Log.{receiver_at}
use Rattle.ledger.specs.Calls.{AllAccepted, behind, Enters, entry_of}
use Rattle.ledger.specs.Calls as log
use Rattle.logs.specs.LogRules.{ConfigurationFault}
use Rattle.ledger.specs.Calls.Enters.{none, next}
use Rattle.logs.specs.WholeLog.{BegunLog, RefusedLog}
use Rattle.pools.specs.declared.receiver.Receiver.{Receiver}
use Rattle.ledger.specs.declared.ledger.Ledger.{Ledger}
use Rattle.ledger.proofs.ValidLedgerLaws.{configured_exactly}
use Rattle.logs.proofs.WholeLogLaws.{accepted_only, begun_before, refused_only}
use Rattle.history.specs.Trace.{Trace, start, ◌▷◌, whole}
use Rattle.history.specs.Link.{Direction, direction_of, Link}
use Rattle.history.specs.History.{Entry, Tapped}
use Rattle.history.specs.Calls.{Call, Auditor, note, after, accepted, Admits}
use Rattle.history.proofs.Calls.{direction_is}
use Rattle.demands.specs.Tap.{link_of, auditor_of}
use Rattle.demands.specs.LogTap.{tap_of, link_at, LogTapped, LogNotTapped, LogDemand}
use Rattle.demands.proofs.Simulation.{of_number, closed}

-- the entries of a log have a direction
abbrev Sided : List log.Entry → Type 0
Sided [] = Unit {0}
Sided (e ∷ es) = (e.direction < 2) × Sided es

sided_more : (es : List log.Entry) (e : log.Entry) → Sided es → e.direction < 2 → Sided (es ++ (e ∷ []))
sided_more [] e h d = (d, tt)
sided_more (x ∷ es) e h d = (h.0, sided_more es e h.1 d)

last_sided : (es : List log.Entry) (e : log.Entry) → Sided (es ++ (e ∷ [])) → e.direction < 2
last_sided [] e h = h.0
last_sided (x ∷ es) e h = last_sided es e h.1

entries_sided : {l : List ℕ} {es : List log.Entry} {n : ℕ} → Enters l es n → Sided es
entries_sided none = tt
entries_sided {l} (next {es} {n} v u f g h) = sided_more es (entry_of (drop n l) v u) (entries_sided f) (omega arith)

module _ (f : ℕ) (a b : Receiver) (v : configured f a b ≡ true) where
  abbrev K : Link
  K = link_of f a b

  abbrev U : Auditor (List ℕ)
  U = auditor_of f a b

  -- a call that is accepted behind a tap record makes one again
  one_more : (xs : Trace (Call (List ℕ))) (x : Call (List ℕ)) → (U.audit (after U xs) x).accepts ≡ true → Tapped K (note (accepted U xs) (direction_of x.number) x.container)
  one_more xs x e = by (((closed f a b v (xs ▷ x)).accepts_exactly xs x (whole refl)).0 e)
    where
      by : Admits (Tapped K) (accepted U xs) x → Tapped K (note (accepted U xs) (direction_of x.number) x.container)
      by h =
          let q : direction_of x.number ≡ some h.0 = direction_is x.number h.0 h.1 in
          subst (λ (o : Option Direction). Tapped K (note (accepted U xs) o x.container)) (sym q) h.2

  all_more : (xs : Trace (Call (List ℕ))) (es : List log.Entry) → AllAccepted (after U xs) es → Tapped K (accepted U xs) → Tapped K (tap_of (accepted U xs) es)
  all_more xs [] h t = t
  all_more xs (e ∷ es) h t =
      let x : Call (List ℕ) = record { number = e.direction; container = e.container } in
      let q : (U.audit (after U xs) x).accepts ≡ true = ap passes h.0 in
      let r : accepted U (xs ▷ x) ≡ note (accepted U xs) (direction_of e.direction) e.container = rw q in
      subst (λ (t : Trace (Entry (List ℕ))). Tapped K (tap_of t es)) r (all_more (xs ▷ x) es h.1 (subst (Tapped K) (sym r) (one_more xs x q)))

  -- calls that are accepted one after the other, as a list of calls of the audit
  pub ran : (xs : Trace (Call (List ℕ))) (es : List log.Entry) → AllAccepted (after U xs) es
      → (ys : Trace (Call (List ℕ))) × (after U ys ≡ behind (after U xs) es) × (accepted U ys ≡ tap_of (accepted U xs) es)
  ran xs [] h = (xs, refl, refl)
  ran xs (e ∷ es) h =
      let x : Call (List ℕ) = record { number = e.direction; container = e.container } in
      let q : (U.audit (after U xs) x).accepts ≡ true = ap passes h.0 in
      let r : accepted U (xs ▷ x) ≡ note (accepted U xs) (direction_of e.direction) e.container = rw q in
      let t = ran (xs ▷ x) es h.1 in
      (t.0, t.1, t.2 ∙ ap (λ (a : Trace (Entry (List ℕ))). tap_of a es) r)

  -- what is refused behind them makes no tap record
  none_more : (ys : Trace (Call (List ℕ))) (x : Call (List ℕ)) → x.number < 2 → (k : Cause) (p : ℕ) → (auditing (after U ys) x.number x.container).answer ≡ Refused k p
      → Tapped K (note (accepted U ys) (direction_of x.number) x.container) → ⊥
  none_more ys x h k p e t =
      let d = of_number x.number h in
      let q : direction_of x.number ≡ some d.0 = direction_is x.number d.0 d.1 in
      let w : Tapped K (accepted U ys ▷ record { direction = d.0; container = x.container }) = subst (λ (o : Option Direction). Tapped K (note (accepted U ys) o x.container)) q t in
      let y : (U.audit (after U ys) x).accepts ≡ true = ((closed f a b v (ys ▷ x)).accepts_exactly ys x (whole refl)).1 (d.0, d.1, w) in
      never_both (ap passes e) y

module _ {l : List ℕ} {n : ℕ} (a : BegunLog l n) where
  pub valid_by : configured (get_or a.numbers 0 0) (receiver_at a.numbers 1) (receiver_at a.numbers 17) ≡ true
  valid_by = (configured_exactly (get_or a.numbers 0 0) (receiver_at a.numbers 1) (receiver_at a.numbers 17)).1 a.valid

  pub log_tapped : LogTapped a
  log_tapped =
      all_more (get_or a.numbers 0 0) (receiver_at a.numbers 1) (receiver_at a.numbers 17) valid_by start a.calls a.accepted (start, tt, refl)

log_not_tapped : (l : List ℕ) (n : ℕ) (k : Cause) (p : ℕ) (a : RefusedLog l n k p) → LogNotTapped a
log_not_tapped l n k p a t =
    let x = a.begun in
    let f = get_or x.numbers 0 0 in
    let r0 = receiver_at x.numbers 1 in
    let r1 = receiver_at x.numbers 17 in
    let r = ran f r0 r1 (valid_by x) start x.calls x.accepted in
    let y : Call (List ℕ) = record { number = a.next.direction; container = a.next.container } in
    none_more f r0 r1 (valid_by x) r.0 y (last_sided x.calls a.next (entries_sided a.front)) k p
    (ap (λ (s : Ledger). (auditing s a.next.direction a.next.container).answer) r.1 ∙ a.refused)
    (subst (λ (t : Trace (Entry (List ℕ))). Tapped (link_at x.numbers) (note t (direction_of a.next.direction) a.next.container)) (sym r.2) t)

pub log_demand : LogDemand
log_demand = record {
  accepted = λ l n e. let a = accepted_only l n e in (a, log_tapped a.begun);
  before = λ l n k p e. ⊎_elim (λ (f : ConfigurationFault l k p × (n ≡ 0)). inl f) (λ (a : BegunLog l n). inr (a, log_tapped a)) (begun_before l n k p e);
  refused = λ l n k p f e. let a = refused_only l n k p e f in (a, log_not_tapped l n k p a);
}
