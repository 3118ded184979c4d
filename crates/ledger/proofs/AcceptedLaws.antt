-- What an accepted entry has passed, and what it does to the counts. Assumes nothing.
use Prim.Native.Nat.{ℕ, zero, suc, ◌+◌, ◌*◌, ◌≤◌, ◌<◌}
use mathlib.Core.Path.{◌≡◌, refl, sym, ap, ◌∙◌}
use mathlib.Core.Bool.{true, false}
use mathlib.Core.List.{List, ◌++◌}
use native.Mathlib.Omega.{arith}
use lib.ListN.{length, get_or, get_or-append}
use lib.Seq.{get_or-append-add}
use lib.Dec.{eqb, ltb, leb}
use borrow.Author.Tests.{eqb-true, ltb-true, leb-true, eq-eqb, ne_eqb, lt-ltb, le-leb}
use Rattle.lists.proofs.Tests.{and_left, and_right, and_both}
use Rattle.cause.specs.Checks.{Pass, first_fault, Accepted}
use Rattle.cause.specs.declared.Cause.TheVariants.{BegunOverGranted, GrantedOverCapacity}
use Rattle.cause.proofs.EachLaws.{Each, each_passes, passes_each}
use Rattle.cause.proofs.CheckLaws.{accepted_pass, pass_accepted, pass_front, pass_back, pass_append}
use Rattle.container.specs.Layout.{format_of}
use Rattle.container.specs.Grants.{header_grant}
use Rattle.message.specs.Charges.{charges}
use Rattle.reader.specs.Reading.{reader_ok, carried, state_checks, judge_checks, next_reader}
use Rattle.reader.specs.declared.reader.Reader.{Reader}
use Rattle.reader.proofs.CarryLaws.{next_valid}
use Rattle.pools.specs.Pools.{payable, message_checks, grant_checks, charged_to, paid_to, granted_to}
use Rattle.ledger.specs.Entries.{cells_in}
use Rattle.ledger.specs.Audit.{receiver_of, reader_of, held_of, open_of, ledger_ok, opposite, begun, finished, granted, credit_checks, capacity_checks, audit_checks, held_after, open_after, next_ledger}
use Rattle.pools.specs.Rows.{row, table}
use Rattle.ledger.specs.declared.ledger.Ledger.{Ledger}
use Rattle.container.specs.declared.grant.Grant.{Grant}
use Rattle.pools.proofs.RowLaws.{row_at, length_row}
use Rattle.ledger.proofs.ValidLaws.{ValidDirection, ledger_valid, valid_ledger}
use Rattle.ledger.proofs.CarriedLaws.{paid_kept, next_passes}

-- entry p of row e of a table
pub table_at : (f : ℕ → ℕ → ℕ) (e p : ℕ) → e < 2 → p < 14 → get_or (table f) (14 * e + p) 0 ≡ f e p
table_at f zero p h k =
    get_or-append (row (f 0) 14 0) (row (f 1) 14 0) 0 (14 * 0 + p) (rw (length_row (f 0) 14 0) (omega arith))
    ∙ ap (λ (i : ℕ). get_or (row (f 0) 14 0) i 0) (omega arith) ∙ row_at (f 0) p k
table_at f (suc zero) p h k =
    ap (λ (i : ℕ). get_or (table f) i 0) (rw (length_row (f 0) 14 0) (omega arith))
    ∙ get_or-append-add (row (f 0) 14 0) (row (f 1) 14 0) p 0 ∙ row_at (f 1) p k
table_at f (suc (suc e)) p h k = absurd (omega arith)

-- 15 and 16, pool by pool
abbrev needed : Ledger → ℕ → List Grant → ℕ → ℕ
needed s d ns p = held_of s d p + (granted_to p ns + open_of s d p)

pub credit_each : (s : Ledger) (d : ℕ) (ms : List (List ℕ)) → Each (credit_checks s d ms) (λ p. leb (paid_to p ms) (held_of s d p)) BegunOverGranted
unfolding credit_checks
credit_each s d ms = record { none = λ p. refl; more = λ k p. refl }

pub capacity_each : (s : Ledger) (d : ℕ) (ns : List Grant) → Each (capacity_checks s d ns) (λ p. leb (needed s d ns p) (get_or (receiver_of s d).capacities p 0)) GrantedOverCapacity
unfolding capacity_checks
capacity_each s d ns = record { none = λ p. refl; more = λ k p. refl }

abbrev Fits : Ledger → ℕ → List Grant → ℕ → Type 0
Fits s d ns p = needed s d ns p ≤ get_or (receiver_of s d).capacities p 0

-- an entry that has passed every check
pub record AcceptedEntry (s : Ledger) (d : ℕ) (c : List ℕ) : Type 0 where
  pub direction : d < 2
  pub ledger : ledger_ok s ≡ true
  pub long : length c ≡ 256
  pub reads : Pass (state_checks (reader_of s d) c)
  pub messages : Pass (message_checks (receiver_of s d) (cells_in (reader_of s d) c))
  pub grants : Pass (grant_checks (receiver_of s (opposite d)) (header_grant (format_of s.format) c) (cells_in (reader_of s d) c))
  pub covered : (p : ℕ) → p < 14 → paid_to p (begun s d c) ≤ held_of s d p
  pub fits : (p : ℕ) → p < 14 → Fits s (opposite d) (granted s d c) p

module _ (s : Ledger) (d : ℕ) (c : List ℕ) where
  pub accepted_by : first_fault (audit_checks s d c) ≡ Accepted → AcceptedEntry s d c
  unfolding audit_checks
  accepted_by e =
      let h = accepted_pass (audit_checks s d c) e in
      let state = state_checks (reader_of s d) c in
      let messages = message_checks (receiver_of s d) (cells_in (reader_of s d) c) in
      let grants = grant_checks (receiver_of s (opposite d)) (header_grant (format_of s.format) c) (cells_in (reader_of s d) c) in
      let held = credit_checks s d (begun s d c) 14 0 in
      let room = capacity_checks s (opposite d) (granted s d c) 14 0 in
      let a = pass_back state (messages ++ (grants ++ (held ++ room))) h.1.1 in
      let b = pass_back messages (grants ++ (held ++ room)) a in
      let q = pass_back grants (held ++ room) b in
      record {
        direction = ltb-true d 2 (and_left (ltb d 2) (ledger_ok s) h.0);
        ledger = and_right (ltb d 2) (ledger_ok s) h.0;
        long = eqb-true (length c) 256 h.1.0;
        reads = pass_front state (messages ++ (grants ++ (held ++ room))) h.1.1;
        messages = pass_front messages (grants ++ (held ++ room)) a;
        grants = pass_front grants (held ++ room) b;
        covered = λ p i. leb-true (paid_to p (begun s d c)) (held_of s d p) (each_passes (credit_each s d (begun s d c)) 14 0 (pass_front held room q) p (omega arith) (omega arith));
        fits = λ p i. leb-true (needed s (opposite d) (granted s d c) p) (get_or (receiver_of s (opposite d)).capacities p 0) (each_passes (capacity_each s (opposite d) (granted s d c)) 14 0 (pass_back held room q) p (omega arith) (omega arith));
      }

  pub entry_checks_accepted : AcceptedEntry s d c → first_fault (audit_checks s d c) ≡ Accepted
  unfolding audit_checks
  entry_checks_accepted a =
      let state = state_checks (reader_of s d) c in
      let messages = message_checks (receiver_of s d) (cells_in (reader_of s d) c) in
      let grants = grant_checks (receiver_of s (opposite d)) (header_grant (format_of s.format) c) (cells_in (reader_of s d) c) in
      let held = credit_checks s d (begun s d c) 14 0 in
      let room = capacity_checks s (opposite d) (granted s d c) 14 0 in
      let covers : Pass held = passes_each (credit_each s d (begun s d c)) 14 0 (λ p l b. le-leb (paid_to p (begun s d c)) (held_of s d p) (a.covered p (omega arith))) in
      let fits : Pass room = passes_each (capacity_each s (opposite d) (granted s d c)) 14 0 (λ p l b. le-leb (needed s (opposite d) (granted s d c) p) (get_or (receiver_of s (opposite d)).capacities p 0) (a.fits p (omega arith))) in
      let pools : Pass (held ++ room) = pass_append held room covers fits in
      pass_accepted (audit_checks s d c) (
        and_both (ltb d 2) (ledger_ok s) (lt-ltb d 2 a.direction) a.ledger,
        (
          eq-eqb (length c) 256 a.long,
          pass_append state (messages ++ (grants ++ (held ++ room))) a.reads (pass_append messages (grants ++ (held ++ room)) a.messages (pass_append grants (held ++ room) a.grants pools)),
        ),
      )

-- ---- the counts behind an accepted entry
-- the other of two directions
opposite_below : (d : ℕ) → d < 2 → opposite d < 2
opposite_below d h = omega arith

opposite_differs : (d : ℕ) → d < 2 → eqb (opposite d) d ≡ false
opposite_differs d h = ne_eqb (opposite d) d (λ (e : opposite d ≡ d). omega arith)

-- the carry of the entry's direction is the next one, and that of the other is as it was
pub reader_own : (s : Ledger) (d : ℕ) (c : List ℕ) → d < 2 → reader_of (next_ledger s d c) d ≡ next_reader (reader_of s d) c
unfolding next_ledger next_reader
reader_own s zero c h = refl
reader_own s (suc zero) c h = refl
reader_own s (suc (suc d)) c h = absurd (omega arith)

pub reader_other : (s : Ledger) (d : ℕ) (c : List ℕ) → d < 2 → reader_of (next_ledger s d c) (opposite d) ≡ reader_of s (opposite d)
unfolding next_ledger
reader_other s zero c h = refl
reader_other s (suc zero) c h = refl
reader_other s (suc (suc d)) c h = absurd (omega arith)

module _ (s : Ledger) (d : ℕ) (c : List ℕ) where
  -- the numbers of the next ledger, direction by direction
  pub held_next : (e p : ℕ) → e < 2 → p < 14 → held_of (next_ledger s d c) e p ≡ held_after s d c e p
  unfolding next_ledger
  held_next e p h k = table_at (held_after s d c) e p h k

  pub open_next : (e p : ℕ) → e < 2 → p < 14 → open_of (next_ledger s d c) e p ≡ open_after s d c e p
  unfolding next_ledger
  open_next e p h k = table_at (open_after s d c) e p h k

  pub receivers_kept : (e : ℕ) → receiver_of (next_ledger s d c) e ≡ receiver_of s e
  unfolding next_ledger
  receivers_kept e = refl

  module _ (a : AcceptedEntry s d c) where
    here : ValidDirection s d
    here = ledger_valid s d a.ledger a.direction

    there : ValidDirection s (opposite d)
    there = ledger_valid s (opposite d) a.ledger (opposite_below d a.direction)

    -- what was open and what begins is what finishes and what the next carry pays
    kept : (p : ℕ) → p < 14 → open_of s d p + paid_to p (begun s d c) ≡ paid_to p (finished s d c) + charged_to p (charges (carried (next_reader (reader_of s d) c)))
    unfolding begun finished
    kept p h =
        let k = paid_kept (reader_of s d) c here.reader a.long a.reads p in
        let u = here.unfinished p h in
        omega arith

    -- credits held: fewer by what begins, and in the opposite direction more by what is granted
    pub held_own : (p : ℕ) → p < 14 → held_of (next_ledger s d c) d p + paid_to p (begun s d c) ≡ held_of s d p
    held_own p h =
        let b = a.covered p h in
        rw (held_next d p a.direction h, eq-eqb d d refl) (omega arith)

    pub held_other : (p : ℕ) → p < 14 → held_of (next_ledger s d c) (opposite d) p ≡ held_of s (opposite d) p + granted_to p (granted s d c)
    held_other p h = rw (held_next (opposite d) p (opposite_below d a.direction) h, opposite_differs d a.direction)

    -- no more finishes than was open or began
    pub finished_covered : (p : ℕ) → p < 14 → paid_to p (finished s d c) ≤ open_of s d p + paid_to p (begun s d c)
    finished_covered p h = let k = kept p h in omega arith

    -- messages open: more by what begins, fewer by what finishes; in the opposite direction as they were
    pub open_own : (p : ℕ) → p < 14 → open_of (next_ledger s d c) d p + paid_to p (finished s d c) ≡ open_of s d p + paid_to p (begun s d c)
    open_own p h =
        let b = finished_covered p h in
        rw (open_next d p a.direction h, eq-eqb d d refl) (omega arith)

    pub open_other : (p : ℕ) → p < 14 → open_of (next_ledger s d c) (opposite d) p ≡ open_of s (opposite d) p
    open_other p h = rw (open_next (opposite d) p (opposite_below d a.direction) h, opposite_differs d a.direction)

    -- messages open are what the carry pays
    pub open_carried : (p : ℕ) → p < 14 → open_of (next_ledger s d c) d p ≡ charged_to p (charges (carried (next_reader (reader_of s d) c)))
    open_carried p h =
        let k = kept p h in
        let o = open_own p h in
        omega arith

    judged : first_fault (judge_checks (reader_of s d) c) ≡ Accepted
    unfolding judge_checks
    judged = pass_accepted (judge_checks (reader_of s d) c) (here.reader, (eq-eqb (length c) 256 a.long, a.reads))

    passed : payable (receiver_of s d) (carried (next_reader (reader_of s d) c)) ≡ true
    passed = next_passes (reader_of s d) c here.reader a.long a.reads (receiver_of s d) here.carry a.messages

    own_valid : ValidDirection (next_ledger s d c) d
    unfolding next_ledger
    own_valid =
        let e = reader_own s d c a.direction in
        record {
          receiver = here.receiver;
          reader = ap reader_ok e ∙ next_valid (reader_of s d) c judged;
          carry = ap (λ (r : Reader). payable (receiver_of s d) (carried r)) e ∙ passed;
          unfinished = λ p h. open_carried p h ∙ ap (λ (r : Reader). charged_to p (charges (carried r))) (sym e);
          room = λ p h. let o = open_own p h in let q = held_own p h in let r = here.room p h in let f = finished_covered p h in omega arith;
        }

    other_valid : ValidDirection (next_ledger s d c) (opposite d)
    unfolding next_ledger
    other_valid =
        let e = reader_other s d c a.direction in
        record {
          receiver = there.receiver;
          reader = ap reader_ok e ∙ there.reader;
          carry = ap (λ (r : Reader). payable (receiver_of s (opposite d)) (carried r)) e ∙ there.carry;
          unfinished = λ p h. open_other p h ∙ there.unfinished p h ∙ ap (λ (r : Reader). charged_to p (charges (carried r))) (sym e);
          room = λ p h. let o = open_other p h in let q = held_other p h in let f = a.fits p h in omega arith;
        }

-- an accepted entry leaves a valid ledger
pub next_ledger_valid : (s : Ledger) (d : ℕ) (c : List ℕ) → AcceptedEntry s d c → ledger_ok (next_ledger s d c) ≡ true
next_ledger_valid s zero c a = valid_ledger (next_ledger s 0 c) (own_valid s 0 c a) (other_valid s 0 c a)
next_ledger_valid s (suc zero) c a = valid_ledger (next_ledger s 1 c) (other_valid s 1 c a) (own_valid s 1 c a)
next_ledger_valid s (suc (suc d)) c a = absurd (let b = a.direction in omega arith)
