-- The bench's audit simulates the audit of its link, so that demand 3 holds of it. Assumes nothing.
use Prim.Native.Nat.{ℕ, zero, suc, ◌+◌, ◌-◌, ◌*◌, ◌≤◌, ◌<◌}
use mathlib.Core.Path.{◌≡◌, refl, sym, ap, subst, ◌∙◌}
use mathlib.Core.Bool.{Bool, true, false, ◌&&◌}
use mathlib.Core.List.{List, []}
use native.Mathlib.Omega.{arith}
use native.Mathlib.Decide.{dec_le}
use lib.ListN.{get_or, replicate}
use borrow.Author.Tests.{lt-ltb, le-ltb}
use Rattle.lists.specs.Pick.{pick}
use Rattle.lists.proofs.ZeroLaws.{zeros_at, zeros_replicate}
use Rattle.lists.proofs.Tests.{never_both, not_true_false, same_test, and_left, and_right, and_both}
use Rattle.cause.specs.Checks.{Pass, first_fault, when_accepted, passes, Verdict}
use Rattle.container.specs.Layout.{format_of}
use Rattle.container.specs.Grants.{header_grant}
use Rattle.message.specs.Charges.{charges}
use Rattle.reader.specs.Reading.{carried, reader_ok, reader_with, next_reader}
use Rattle.reader.specs.declared.reader.Reader.{Reader}
use Rattle.pools.specs.Pools.{receiver_ok, payable, message_checks, grant_checks, charged_to, paid_to, granted_to}
use Rattle.ledger.specs.Audit.{receiver_of, reader_of, held_of, open_of, ledger_ok, configured, fresh_ledger, begun, finished, granted, audit_checks, next_ledger, auditing, reported}
use Rattle.ledger.specs.Audit as audit
use Rattle.pools.specs.declared.receiver.Receiver.{Receiver}
use Rattle.ledger.specs.declared.ledger.Ledger.{Ledger}
use Rattle.ledger.specs.declared.ledger.Report.{Report}
use Rattle.ledger.proofs.ValidLaws.{ValidDirection, ledger_valid, valid_ledger}
use Rattle.ledger.proofs.AcceptedLaws.{AcceptedEntry, accepted_by, entry_checks_accepted, held_own, held_other, open_own, open_other, reader_own, reader_other, receivers_kept, next_ledger_valid}
use Rattle.ledger.proofs.FreshLaws.{fresh_valid}
use Rattle.ledger.proofs.AnswerLaws.{audit_keeps}
use Rattle.history.specs.Link.{Direction, direction0, direction1, number_of, direction_of, opposite, same_direction, Link}
use Rattle.history.specs.Audit.{fits_below, equal_below, direction_ok, credits_paid, slots_taken, entry_ok, enter, audit_entry, link_auditor}
use Rattle.history.specs.Audit as link
use Rattle.history.specs.Trace.{Trace, start, ◌▷◌}
use Rattle.history.specs.Calls.{Call, after}
use Rattle.history.specs.Demand.{Closed}
use Rattle.history.proofs.Below.{below_fits, fits_below_law, below_equal, equal_below_law}
use Rattle.history.proofs.Calls.{Simulates}
use Rattle.history.proofs.Demand.{audit_closes}
use Rattle.ledger.specs.Entries.{cells_in, starts_in, ends_in}
use Rattle.demands.specs.Tap.{grants_from}
use Rattle.demands.specs.Tap.{receiver_for, link_of, held_in, open_in, auditor_of}
use Rattle.demands.proofs.TapLaws.{reads_by, by_reads, passes_accepted, receiver_valid, lawful}
use Rattle.std.specs.Prelude.{Ok, Err}

-- ---- directions and numbers
pub number_below : (d : Direction) → number_of d < 2
number_below direction0 = omega arith
number_below direction1 = omega arith

-- the direction of a number below 2
pub of_number : (n : ℕ) → n < 2 → (d : Direction) × (number_of d ≡ n)
of_number zero h = (direction0, refl)
of_number (suc zero) h = (direction1, refl)
of_number (suc (suc n)) h = absurd (omega arith)

number_opposite : (d : Direction) → number_of (opposite d) ≡ audit.opposite (number_of d)
number_opposite direction0 = refl
number_opposite direction1 = refl

same_own : (d : Direction) → same_direction d d ≡ true
same_own direction0 = refl
same_own direction1 = refl

same_other : (d : Direction) → same_direction (opposite d) d ≡ false
same_other direction0 = refl
same_other direction1 = refl

-- a direction is d or the opposite one
both_directions : (P : Direction → Type 0) (d : Direction) → P d → P (opposite d) → (e : Direction) → P e
both_directions P direction0 a b direction0 = a
both_directions P direction0 a b direction1 = b
both_directions P direction1 a b direction0 = b
both_directions P direction1 a b direction1 = a

-- an audit accepts where no check fails
answer_passes : (l : Ledger) (n : ℕ) (c : List ℕ) → passes (auditing l n c).answer ≡ passes (first_fault (audit_checks l n c))
unfolding auditing
answer_passes l n c = refl

accepted_answer : (l : Ledger) (n : ℕ) (c : List ℕ) → passes (auditing l n c).answer ≡ true → AcceptedEntry l n c
accepted_answer l n c e = accepted_by l n c (passes_accepted (first_fault (audit_checks l n c)) (sym (answer_passes l n c) ∙ e))

answer_accepted : (l : Ledger) (n : ℕ) (c : List ℕ) → AcceptedEntry l n c → passes (auditing l n c).answer ≡ true
answer_accepted l n c a = answer_passes l n c ∙ ap passes (entry_checks_accepted l n c a)

-- the ledger handed back
next_accepted : (l : Ledger) (n : ℕ) (c : List ℕ) → AcceptedEntry l n c → (auditing l n c).ledger ≡ next_ledger l n c
unfolding auditing
next_accepted l n c a = ap (λ (v : Verdict). when_accepted v (next_ledger l n c) l) (entry_checks_accepted l n c a)

next_refused : (l : Ledger) (n : ℕ) (c : List ℕ) → passes (auditing l n c).answer ≡ false → (auditing l n c).ledger ≡ l
unfolding auditing
next_refused l n c e = by (first_fault (audit_checks l n c)) e
  where
    by : (v : Verdict) → passes v ≡ false → when_accepted v (next_ledger l n c) l ≡ l
    by (Ok _) t = absurd (never_both t refl)
    by (Err fault) t = refl

-- what a valid ledger reports within its pools, and any past them
module _ (l : Ledger) (n p : ℕ) (h : n < 2) where
  pub reported_counts : ledger_ok l ≡ true → p < 14 → reported l n p ≡ Ok (record { held = record { 0 = held_of l n p }; opened = record { 0 = open_of l n p } })
  reported_counts v k = rw (lt-ltb n 2 h, lt-ltb p 14 k, v)

  pub reported_held : ledger_ok l ≡ true → p < 14 → held_in (reported l n p) ≡ held_of l n p
  reported_held v k = ap held_in (reported_counts v k)

  pub reported_open : ledger_ok l ≡ true → p < 14 → open_in (reported l n p) ≡ open_of l n p
  reported_open v k = ap open_in (reported_counts v k)

  reported_past : 14 ≤ p → (held_in (reported l n p) ≡ 0) × (open_in (reported l n p) ≡ 0)
  reported_past k = (rw (lt-ltb n 2 h, le-ltb p 14 k), rw (lt-ltb n 2 h, le-ltb p 14 k))

-- ---- the code's ledger beside the link's
module _ (f : ℕ) (a b : Receiver) (v : configured f a b ≡ true) where
  abbrev K : Link
  K = link_of f a b

  -- a valid ledger with the same receivers and readers, and the same reports
  pub record Related (l : Ledger) (m : link.Ledger (link_of f a b)) : Type 0 where
    pub valid : ledger_ok l ≡ true
    pub receivers : (d : Direction) → receiver_of l (number_of d) ≡ receiver_for a b d
    pub states : (d : Direction) → reader_of l (number_of d) ≡ m.states d
    pub held : (d : Direction) (p : ℕ) → held_in (reported l (number_of d) p) ≡ m.held d p
    pub unfinished : (d : Direction) (p : ℕ) → open_in (reported l (number_of d) p) ≡ m.unfinished d p

  module _ (l : Ledger) (m : link.Ledger (link_of f a b)) (r : Related l m) where
    held_is : (d : Direction) (p : ℕ) → p < 14 → held_of l (number_of d) p ≡ m.held d p
    held_is d p h = sym (reported_held l (number_of d) p (number_below d) r.valid h) ∙ r.held d p

    open_is : (d : Direction) (p : ℕ) → p < 14 → open_of l (number_of d) p ≡ m.unfinished d p
    open_is d p h = sym (reported_open l (number_of d) p (number_below d) r.valid h) ∙ r.unfinished d p

    capacity_is : (d : Direction) (p : ℕ) → get_or (receiver_of l (number_of d)).capacities p 0 ≡ K.capacity d p
    capacity_is d p = ap (λ (x : Receiver). get_or x.capacities p 0) (r.receivers d)

    -- a direction is valid in both or in none
    direction_forth : (d : Direction) → ValidDirection l (number_of d) → direction_ok K m d ≡ true
    direction_forth d w =
        and_both (K.state_ok d (m.states d)) (fits_below 14 (λ p. m.held d p + m.unfinished d p) (K.capacity d) && equal_below 14 (m.unfinished d) (K.carried (m.states d)))
        state
        (and_both (fits_below 14 (λ p. m.held d p + m.unfinished d p) (K.capacity d)) (equal_below 14 (m.unfinished d) (K.carried (m.states d)))
        (fits_below_law 14 (λ p. m.held d p + m.unfinished d p) (K.capacity d)
        (λ p h. let x = w.room p h in let y = held_is d p h in let z = open_is d p h in let q = capacity_is d p in omega arith))
        (equal_below_law 14 (m.unfinished d) (K.carried (m.states d))
        (λ p h. sym (open_is d p h) ∙ w.unfinished p h ∙ ap (λ (s : Reader). charged_to p (charges (carried s))) (r.states d))))
      where
        state : K.state_ok d (m.states d) ≡ true
        state =
            subst (λ (s : Reader). K.state_ok d s ≡ true) (r.states d)
            (and_both (reader_ok (reader_of l (number_of d))) (payable (receiver_for a b d) (carried (reader_of l (number_of d)))) w.reader
            (subst (λ (x : Receiver). payable x (carried (reader_of l (number_of d))) ≡ true) (r.receivers d) w.carry))

    direction_back : (d : Direction) → direction_ok K m d ≡ true → ValidDirection l (number_of d)
    direction_back d e =
        let s = and_left (K.state_ok d (m.states d)) behind e in
        let q = and_right (K.state_ok d (m.states d)) behind e in
        let t = subst (λ (x : Reader). K.state_ok d x ≡ true) (sym (r.states d)) s in
        let fourteen = payable (receiver_for a b d) (carried (reader_of l (number_of d))) in
        record {
          receiver = subst (λ (x : Receiver). receiver_ok x ≡ true) (sym (r.receivers d)) (receiver_valid f a b v d);
          reader = and_left (reader_ok (reader_of l (number_of d))) fourteen t;
          carry = subst (λ (x : Receiver). payable x (carried (reader_of l (number_of d))) ≡ true) (sym (r.receivers d)) (and_right (reader_ok (reader_of l (number_of d))) fourteen t);
          unfinished = λ p h. open_is d p h ∙ below_equal 14 (m.unfinished d) (K.carried (m.states d)) (and_right fits same q) p h ∙ ap (λ (s : Reader). charged_to p (charges (carried s))) (sym (r.states d));
          room = λ p h.
              let x = below_fits 14 (λ p. m.held d p + m.unfinished d p) (K.capacity d) (and_left fits same q) p h in
              let y = held_is d p h in let z = open_is d p h in let w = capacity_is d p in omega arith;
        }
      where
        fits : Bool
        fits = fits_below 14 (λ p. m.held d p + m.unfinished d p) (K.capacity d)

        same : Bool
        same = equal_below 14 (m.unfinished d) (K.carried (m.states d))

        behind : Bool
        behind = fits && same

    -- an entry is accepted in both or in none
    module _ (d : Direction) (c : List ℕ) where
      abbrev n : ℕ
      n = number_of d

      abbrev s : Reader
      s = reader_of l n

      reads_forth : AcceptedEntry l n c → K.reads d (m.states d) c ≡ true
      reads_forth x =
          subst (λ (q : Reader). K.reads d q c ≡ true) (r.states d)
          (by_reads (receiver_for a b d) (receiver_for a b (opposite d)) s c
          (record {
            long = x.long;
            state = x.reads;
            messages = subst (λ (q : Receiver). Pass (message_checks q (cells_in s c))) (r.receivers d) x.messages;
            grants = subst (λ (q : Receiver). Pass (grant_checks q (header_grant (format_of s.format) c) (cells_in s c))) (ap (receiver_of l) (sym (number_opposite d)) ∙ r.receivers (opposite d)) x.grants;
          }))

      -- what begins, ends and is granted in a related state
      begins_is : (p : ℕ) → paid_to p (begun l n c) ≡ K.begins d (m.states d) c p
      unfolding begun
      begins_is p = ap (λ (q : Reader). paid_to p (starts_in q c)) (r.states d)

      finishes_is : (p : ℕ) → paid_to p (finished l n c) ≡ K.finishes d (m.states d) c p
      unfolding finished
      finishes_is p = ap (λ (q : Reader). paid_to p (ends_in q c)) (r.states d)

      grants_is : (p : ℕ) → granted_to p (granted l n c) ≡ K.grants d (m.states d) c p
      unfolding begun granted
      grants_is p = ap (λ (q : Reader). granted_to p (grants_from q c)) (r.states d)

      entry_forth : AcceptedEntry l n c → (link.ledger_ok K m && entry_ok K m d c) ≡ true
      entry_forth x =
          let e = number_opposite d in
          and_both (link.ledger_ok K m) (entry_ok K m d c)
          (and_both (direction_ok K m direction0) (direction_ok K m direction1)
          (direction_forth direction0 (ledger_valid l 0 x.ledger (omega arith))) (direction_forth direction1 (ledger_valid l 1 x.ledger (omega arith))))
          (and_both (K.reads d (m.states d) c) (fits_below 14 (credits_paid K m d c) (m.held d) && fits_below 14 (slots_taken K m d c) (K.capacity (opposite d)))
          (reads_forth x)
          (and_both (fits_below 14 (credits_paid K m d c) (m.held d)) (fits_below 14 (slots_taken K m d c) (K.capacity (opposite d)))
          (fits_below_law 14 (credits_paid K m d c) (m.held d) (λ p h. let y = x.covered p h in let z = begins_is p in let w = held_is d p h in omega arith))
          (fits_below_law 14 (slots_taken K m d c) (K.capacity (opposite d))
          (λ p h.
          let y = rw (sym e) at (x.fits p h) in
          let z = grants_is p in
          let w = held_is (opposite d) p h in
          let o = open_is (opposite d) p h in
          let k = capacity_is (opposite d) p in
          omega arith))))

      entry_back : (link.ledger_ok K m && entry_ok K m d c) ≡ true → AcceptedEntry l n c
      unfolding begun granted
      entry_back t =
          let e = number_opposite d in
          let v0 = and_left (link.ledger_ok K m) (entry_ok K m d c) t in
          let v1 = and_right (link.ledger_ok K m) (entry_ok K m d c) t in
          let v2 = and_right (K.reads d (m.states d) c) behind v1 in
          let reading = subst (λ (q : Reader). K.reads d q c ≡ true) (sym (r.states d)) (and_left (K.reads d (m.states d) c) behind v1) in
          let rules = reads_by (receiver_for a b d) (receiver_for a b (opposite d)) s c reading in
          record {
            direction = number_below d;
            ledger = valid_ledger l (direction_back direction0 (and_left (direction_ok K m direction0) (direction_ok K m direction1) v0)) (direction_back direction1 (and_right (direction_ok K m direction0) (direction_ok K m direction1) v0));
            long = rules.long;
            reads = rules.state;
            messages = subst (λ (q : Receiver). Pass (message_checks q (cells_in s c))) (sym (r.receivers d)) rules.messages;
            grants = subst (λ (q : Receiver). Pass (grant_checks q (header_grant (format_of s.format) c) (cells_in s c))) (sym (ap (receiver_of l) (sym e) ∙ r.receivers (opposite d))) rules.grants;
            covered = λ p h.
                let y = below_fits 14 (credits_paid K m d c) (m.held d) (and_left covers room v2) p h in
                let z = begins_is p in let w = held_is d p h in omega arith;
            fits = λ p h.
                let y = below_fits 14 (slots_taken K m d c) (K.capacity (opposite d)) (and_right covers room v2) p h in
                let z = grants_is p in
                let w = held_is (opposite d) p h in
                let o = open_is (opposite d) p h in
                let k = capacity_is (opposite d) p in
                rw (sym e) (omega arith);
          }
        where
          covers : Bool
          covers = fits_below 14 (credits_paid K m d c) (m.held d)

          room : Bool
          room = fits_below 14 (slots_taken K m d c) (K.capacity (opposite d))

          behind : Bool
          behind = covers && room

      -- the ledgers behind an accepted entry
      module _ (x : AcceptedEntry l n c) where
        reads : K.reads d (m.states d) c ≡ true
        reads = reads_forth x

        kept : ledger_ok (next_ledger l n c) ≡ true
        kept = next_ledger_valid l n c x

        -- past the last pool nothing is held and nothing is open
        held_past : (e : Direction) (p : ℕ) → 14 ≤ p → m.held e p ≡ 0
        held_past e p h = sym (r.held e p) ∙ (reported_past l (number_of e) p (number_below e) h).0

        open_past : (e : Direction) (p : ℕ) → 14 ≤ p → m.unfinished e p ≡ 0
        open_past e p h = sym (r.unfinished e p) ∙ (reported_past l (number_of e) p (number_below e) h).1

        held_own_is : (p : ℕ) → held_in (reported (next_ledger l n c) n p) ≡ m.held d p - K.begins d (m.states d) c p
        held_own_is p = go (dec_le 14 p)
          where
            go : Dec (14 ≤ p) → held_in (reported (next_ledger l n c) n p) ≡ m.held d p - K.begins d (m.states d) c p
            go (yes h) = let y = (reported_past (next_ledger l n c) n p (number_below d) h).0 in let z = held_past d p h in omega arith
            go (no h) =
                let k : p < 14 = omega arith in
                let y = held_own l n c x p k in
                let z = held_is d p k in
                let w = begins_is p in
                reported_held (next_ledger l n c) n p (number_below d) kept k ∙ omega arith

        held_other_is : (p : ℕ) → held_in (reported (next_ledger l n c) (number_of (opposite d)) p) ≡ m.held (opposite d) p + K.grants d (m.states d) c p
        held_other_is p = go (dec_le 14 p)
          where
            go : Dec (14 ≤ p) → held_in (reported (next_ledger l n c) (number_of (opposite d)) p) ≡ m.held (opposite d) p + K.grants d (m.states d) c p
            go (yes h) =
                let y = (reported_past (next_ledger l n c) (number_of (opposite d)) p (number_below (opposite d)) h).0 in
                let z = held_past (opposite d) p h in
                let w = (lawful f a b v).no_grant_law d (m.states d) c p reads h in
                omega arith
            go (no h) =
                let k : p < 14 = omega arith in
                let y = rw (sym (number_opposite d)) at (held_other l n c x p k) in
                let z = held_is (opposite d) p k in
                let w = grants_is p in
                reported_held (next_ledger l n c) (number_of (opposite d)) p (number_below (opposite d)) kept k ∙ omega arith

        open_own_is : (p : ℕ) → open_in (reported (next_ledger l n c) n p) ≡ m.unfinished d p + K.begins d (m.states d) c p - K.finishes d (m.states d) c p
        open_own_is p = go (dec_le 14 p)
          where
            go : Dec (14 ≤ p) → open_in (reported (next_ledger l n c) n p) ≡ m.unfinished d p + K.begins d (m.states d) c p - K.finishes d (m.states d) c p
            go (yes h) =
                let y = (reported_past (next_ledger l n c) n p (number_below d) h).1 in
                let z = open_past d p h in
                let w = (lawful f a b v).no_begin d (m.states d) c p reads h in
                omega arith
            go (no h) =
                let k : p < 14 = omega arith in
                let y = open_own l n c x p k in
                let z = open_is d p k in
                let w = begins_is p in
                let u = finishes_is p in
                reported_open (next_ledger l n c) n p (number_below d) kept k ∙ omega arith

        open_other_is : (p : ℕ) → open_in (reported (next_ledger l n c) (number_of (opposite d)) p) ≡ m.unfinished (opposite d) p
        open_other_is p = go (dec_le 14 p)
          where
            go : Dec (14 ≤ p) → open_in (reported (next_ledger l n c) (number_of (opposite d)) p) ≡ m.unfinished (opposite d) p
            go (yes h) = (reported_past (next_ledger l n c) (number_of (opposite d)) p (number_below (opposite d)) h).1 ∙ sym (open_past (opposite d) p h)
            go (no h) =
                let k : p < 14 = omega arith in
                reported_open (next_ledger l n c) (number_of (opposite d)) p (number_below (opposite d)) kept k
                ∙ rw (sym (number_opposite d)) at (open_other l n c x p k) ∙ open_is (opposite d) p k

        entered : Related (next_ledger l n c) (enter K m d c)
        entered = record {
          valid = kept;
          receivers = λ e. receivers_kept l n c (number_of e) ∙ r.receivers e;
          states = both_directions (λ e. reader_of (next_ledger l n c) (number_of e) ≡ (enter K m d c).states e) d
              (rw (same_own d) (reader_own l n c (number_below d) ∙ ap (λ (q : Reader). next_reader q c) (r.states d)))
              (rw (same_other d) (ap (reader_of (next_ledger l n c)) (number_opposite d) ∙ reader_other l n c (number_below d) ∙ ap (reader_of l) (sym (number_opposite d)) ∙ r.states (opposite d)));
          held = both_directions (λ e. (p : ℕ) → held_in (reported (next_ledger l n c) (number_of e) p) ≡ (enter K m d c).held e p) d
              (λ p. rw (same_own d) (held_own_is p)) (λ p. rw (same_other d) (held_other_is p));
          unfinished = both_directions (λ e. (p : ℕ) → open_in (reported (next_ledger l n c) (number_of e) p) ≡ (enter K m d c).unfinished e p) d
              (λ p. rw (same_own d) (open_own_is p)) (λ p. rw (same_other d) (open_other_is p));
        }

      related_by : (t : Bool) → passes (auditing l n c).answer ≡ t → (link.ledger_ok K m && entry_ok K m d c) ≡ passes (auditing l n c).answer
          → Related (auditing l n c).ledger (pick (link.ledger_ok K m && entry_ok K m d c) (enter K m d c) m)
      related_by true e q =
          rw (q ∙ e, next_accepted l n c (accepted_answer l n c e)) (entered (accepted_answer l n c e))
      related_by false e q = rw (q ∙ e, next_refused l n c e) r

    -- a call: the same answer, and related ledgers behind it
    same_answer : (n : ℕ) (c : List ℕ) → passes (auditing l n c).answer ≡ (audit_entry K m (direction_of n) c).accepts
    same_answer zero c =
        same_test (passes (auditing l 0 c).answer) (link.ledger_ok K m && entry_ok K m direction0 c)
        (λ e. entry_forth direction0 c (accepted_answer l 0 c e)) (λ e. answer_accepted l 0 c (entry_back direction0 c e))
    same_answer (suc zero) c =
        same_test (passes (auditing l 1 c).answer) (link.ledger_ok K m && entry_ok K m direction1 c)
        (λ e. entry_forth direction1 c (accepted_answer l 1 c e)) (λ e. answer_accepted l 1 c (entry_back direction1 c e))
    same_answer (suc (suc n)) c =
        not_true_false (passes (auditing l (suc (suc n)) c).answer) (λ e. let h = (accepted_answer l (suc (suc n)) c e).direction in omega arith)

    related_next : (n : ℕ) (c : List ℕ) → Related (auditing l n c).ledger (audit_entry K m (direction_of n) c).ledger
    related_next zero c = related_by direction0 c (passes (auditing l 0 c).answer) refl (sym (same_answer 0 c))
    related_next (suc zero) c = related_by direction1 c (passes (auditing l 1 c).answer) refl (sym (same_answer 1 c))
    related_next (suc (suc n)) c = subst (λ (q : Ledger). Related q m) (sym (next_refused l (suc (suc n)) c (same_answer (suc (suc n)) c))) r

  related_first : Related (fresh_ledger f a b) (link.fresh_ledger K)
  related_first = record {
    valid = fresh_valid f a b v;
    receivers = both_directions (λ e. receiver_of (fresh_ledger f a b) (number_of e) ≡ receiver_for a b e) direction0 refl refl;
    states = both_directions (λ e. reader_of (fresh_ledger f a b) (number_of e) ≡ reader_with f []) direction0 refl refl;
    held = λ d p. (zero_by d p (dec_le 14 p)).0;
    unfinished = λ d p. (zero_by d p (dec_le 14 p)).1;
  }
    where
      zero_at : (i : ℕ) → get_or {A = ℕ} (replicate 28 0) i 0 ≡ 0
      zero_at i = zeros_at (replicate 28 0) (zeros_replicate 28) i

      zero_by : (d : Direction) (p : ℕ) → Dec (14 ≤ p) → (held_in (reported (fresh_ledger f a b) (number_of d) p) ≡ 0) × (open_in (reported (fresh_ledger f a b) (number_of d) p) ≡ 0)
      zero_by d p (yes h) = reported_past (fresh_ledger f a b) (number_of d) p (number_below d) h
      zero_by d p (no h) =
          let k : p < 14 = omega arith in (
            reported_held (fresh_ledger f a b) (number_of d) p (number_below d) (fresh_valid f a b v) k ∙ zero_at (14 * number_of d + p),
            reported_open (fresh_ledger f a b) (number_of d) p (number_below d) (fresh_valid f a b v) k ∙ zero_at (14 * number_of d + p),
          )

  pub simulates : Simulates (auditor_of f a b) (link_auditor K) Related
  simulates = record {
    related_first = related_first;
    same_answer = λ l m r x. same_answer l m r x.number x.container;
    related_next = λ l m r x. related_next l m r x.number x.container;
    same_held = λ l m r d p. r.held d p;
    same_unfinished = λ l m r d p. r.unfinished d p;
  }

-- every ledger of the calls is valid
calls_valid : (f : ℕ) (a b : Receiver) → configured f a b ≡ true → (xs : Trace (Call (List ℕ))) → ledger_ok (after (auditor_of f a b) xs) ≡ true
calls_valid f a b v start = fresh_valid f a b v
calls_valid f a b v (xs ▷ x) = audit_keeps (after (auditor_of f a b) xs) x.number x.container (calls_valid f a b v xs)

-- demand 3 over every list of calls
pub closed : (f : ℕ) (a b : Receiver) → configured f a b ≡ true → (xs : Trace (Call (List ℕ))) → Closed (link_of f a b) (auditor_of f a b) xs
closed f a b v xs = audit_closes (link_of f a b) (lawful f a b v) (auditor_of f a b) (Related f a b v) (simulates f a b v) xs

-- and no report of theirs is refused
pub reports : (f : ℕ) (a b : Receiver) → configured f a b ≡ true → (xs : Trace (Call (List ℕ))) (d : Direction) (p : ℕ) → p < 14
    → (report : Report) × (reported (after (auditor_of f a b) xs) (number_of d) p ≡ Ok report)
reports f a b v xs d p h = (_, reported_counts (after (auditor_of f a b) xs) (number_of d) p (number_below d) (calls_valid f a b v xs) h)
