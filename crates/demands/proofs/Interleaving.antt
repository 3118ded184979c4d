-- Two records of the same containers end alike, in the code's own ledger. Assumes nothing.
use Prim.Native.Nat.{ℕ, ◌<◌}
use mathlib.Core.Path.{◌≡◌, refl, sym, ap, subst, ◌∙◌}
use mathlib.Core.Bool.{true}
use mathlib.Core.List.{List}
use lib.ListN.{length, get_or}
use Rattle.cause.specs.Checks.{first_fault, when_accepted, Verdict}
use Rattle.reader.specs.declared.reader.Reader.{Reader}
use Rattle.ledger.specs.Audit.{receiver_of, reader_of, held_of, open_of, ledger_ok, configured, audit_checks, next_ledger, auditing, held_after, open_after, reported}
use Rattle.logs.specs.Log.{receiver_at, ledger_of}
use Rattle.ledger.specs.Calls.{behind}
use Rattle.logs.specs.WholeLog.{AcceptedLog}
use Rattle.pools.specs.declared.receiver.Receiver.{Receiver}
use Rattle.ledger.specs.declared.ledger.Ledger.{Ledger}
use Rattle.ledger.proofs.FreshLaws.{fresh_valid}
use Rattle.ledger.proofs.CallLaws.{behind_valid}
use Rattle.ledger.proofs.TableSelf.{length_table, table_equal}
use Rattle.history.specs.Trace.{Trace, start, ◌▷◌}
use Rattle.history.specs.Link.{Direction, direction0, direction1, number_of}
use Rattle.history.specs.Bounds.{containers_of}
use Rattle.history.specs.Calls.{Call, Auditor, after}
use Rattle.history.specs.Audit.{link_auditor}
use Rattle.history.specs.Interleaving.{SameContainers, SameReports}
use Rattle.history.proofs.Calls.{always_related}
use Rattle.history.proofs.Interleaved.{interleaved, interleaved_states}
use Rattle.demands.specs.Tap.{link_of, held_in, open_in, auditor_of}
use Rattle.demands.specs.LogTap.{tap_of}
use Rattle.demands.specs.Interleaving.{SameEnd, SameTraffic, last_ledger, Interleaving}
use Rattle.demands.proofs.TapLaws.{lawful}
use Rattle.demands.proofs.Simulation.{number_below, of_number, reported_held, reported_open, Related, simulates}
use Rattle.demands.proofs.LogTap.{ran, valid_by}
use Rattle.std.specs.Prelude.{Ok, Err}

-- both tables of a ledger have 28 entries
abbrev Long : Ledger → Type 0
Long l = (length l.held ≡ 28) × (length l.opened ≡ 28)

next_long : (l : Ledger) (n : ℕ) (c : List ℕ) → Long l → Long (auditing l n c).ledger
unfolding auditing next_ledger
next_long l n c h = by (first_fault (audit_checks l n c))
  where
    by : (v : Verdict) → Long (when_accepted v (next_ledger l n c) l)
    by (Ok _) = (length_table (held_after l n c), length_table (open_after l n c))
    by (Err fault) = h

ledger_alike : (l m : Ledger) → l.format ≡ m.format → l.receiver0 ≡ m.receiver0 → l.receiver1 ≡ m.receiver1 → SameEnd l m → l ≡ m
ledger_alike l m f a b s = λ i. record {
  format = f i;
  receiver0 = a i;
  receiver1 = b i;
  carry0 = s.carry0 i;
  carry1 = s.carry1 i;
  held = s.held i;
  opened = s.opened i;
}

module _ (f : ℕ) (a b : Receiver) (v : configured f a b ≡ true) where
  abbrev U : Auditor (List ℕ)
  U = auditor_of f a b

  long : (zs : Trace (Call (List ℕ))) → Long (after U zs)
  long start = (refl, refl)
  long (zs ▷ x) = next_long (after U zs) x.number x.container (long zs)

  related : (zs : Trace (Call (List ℕ))) → Related f a b v (after U zs) (after (link_auditor (link_of f a b)) zs)
  related = always_related U (link_auditor (link_of f a b)) (Related f a b v) (simulates f a b v)

  module _ (xs ys : Trace (Call (List ℕ))) (e : SameTraffic f a b xs ys) where
    reports : SameReports U (after U xs) (after U ys)
    reports = interleaved (link_of f a b) (lawful f a b v) U (Related f a b v) (simulates f a b v) xs ys e

    readers : (d : Direction) → reader_of (after U xs) (number_of d) ≡ reader_of (after U ys) (number_of d)
    readers d =
        (related xs).states d ∙ interleaved_states (link_of f a b) (lawful f a b v) U (Related f a b v) (simulates f a b v) xs ys e d
        ∙ sym ((related ys).states d)

    -- an entry of a table, by what is reported of it
    same_held : (d : Direction) (p : ℕ) → p < 14 → held_of (after U xs) (number_of d) p ≡ held_of (after U ys) (number_of d) p
    same_held d p k =
        sym (reported_held (after U xs) (number_of d) p (number_below d) (related xs).valid k) ∙ reports.held d p ∙ reported_held (after U ys) (number_of d) p (number_below d) (related ys).valid k

    same_open : (d : Direction) (p : ℕ) → p < 14 → open_of (after U xs) (number_of d) p ≡ open_of (after U ys) (number_of d) p
    same_open d p k =
        sym (reported_open (after U xs) (number_of d) p (number_below d) (related xs).valid k) ∙ reports.unfinished d p ∙ reported_open (after U ys) (number_of d) p (number_below d) (related ys).valid k

    pub ends_alike : SameEnd (after U xs) (after U ys)
    ends_alike = record {
      held = table_equal (after U xs).held (after U ys).held (long xs).0 (long ys).0
          (λ n p h k. let d = of_number n h in rw (← d.1) (same_held d.0 p k));
      opened = table_equal (after U xs).opened (after U ys).opened (long xs).1 (long ys).1
          (λ n p h k. let d = of_number n h in rw (← d.1) (same_open d.0 p k));
      carry0 = ap (λ (r : Reader). r.carry) (readers direction0);
      carry1 = ap (λ (r : Reader). r.carry) (readers direction1);
    }

    -- nothing else in a ledger depends on its entries
    ledgers_alike : after U xs ≡ after U ys
    ledgers_alike =
        ledger_alike (after U xs) (after U ys) (ap (λ (r : Reader). r.format) (readers direction0)) (receivers direction0) (receivers direction1) ends_alike
      where
        receivers : (d : Direction) → receiver_of (after U xs) (number_of d) ≡ receiver_of (after U ys) (number_of d)
        receivers d = (related xs).receivers d ∙ sym ((related ys).receivers d)

    pub answers_alike : (d : ℕ) (c : List ℕ) → (auditing (after U xs) d c).answer ≡ (auditing (after U ys) d c).answer
    answers_alike d c = ap (λ (l : Ledger). (auditing l d c).answer) ledgers_alike

-- the ledger behind an accepted log is valid
last_valid : (l : List ℕ) (n : ℕ) (x : AcceptedLog l n) → ledger_ok (last_ledger x) ≡ true
last_valid l n x =
    behind_valid (ledger_of x.begun.numbers) x.begun.calls (fresh_valid (get_or x.begun.numbers 0 0) (receiver_at x.begun.numbers 1) (receiver_at x.begun.numbers 17) (valid_by x.begun))

-- the entries of two logs are such lists of calls
module _ (l k : List ℕ) (n m : ℕ) (x : AcceptedLog l n) (y : AcceptedLog k m) (q : x.begun.numbers ≡ y.begun.numbers)
    (e : SameContainers (tap_of start x.begun.calls) (tap_of start y.begun.calls)) where
  logs_alike : SameEnd (last_ledger x) (last_ledger y)
  logs_alike =
      let f = get_or x.begun.numbers 0 0 in
      let a = receiver_at x.begun.numbers 1 in
      let b = receiver_at x.begun.numbers 17 in
      let s = ran f a b (valid_by x.begun) start x.begun.calls x.begun.accepted in
      let t = ran f a b (valid_by x.begun) start y.begun.calls (rw q y.begun.accepted) in
      let c : SameTraffic f a b s.0 t.0 = λ d. ap (containers_of d) s.2 ∙ e d ∙ sym (ap (containers_of d) t.2) in
      let z = t.1 ∙ ap (λ (ns : List ℕ). behind (ledger_of ns) y.begun.calls) q in
      subst (λ (g : Ledger). SameEnd g (last_ledger y)) s.1 (subst (SameEnd (after (auditor_of f a b) s.0)) z (ends_alike f a b (valid_by x.begun) s.0 t.0 c))

  pub reports_alike : (d p : ℕ)
      → (held_in (reported (last_ledger x) d p) ≡ held_in (reported (last_ledger y) d p)) × (open_in (reported (last_ledger x) d p) ≡ open_in (reported (last_ledger y) d p))
  reports_alike d p =
      (rw (last_valid l n x, last_valid k m y, logs_alike.held, logs_alike.opened), rw (last_valid l n x, last_valid k m y, logs_alike.held, logs_alike.opened))

pub interleaving : Interleaving
interleaving = record { same_end = ends_alike; same_answer = answers_alike; same_report = reports_alike }
