-- An idle entry is accepted, and leaves the ledger as it is. Assumes nothing.
use Prim.Native.Nat.{ℕ, zero, suc, ◌+◌, ◌^◌, ◌<◌}
use mathlib.Core.Path.{◌≡◌, refl, sym, ap, ◌∙◌}
use mathlib.Core.Bool.{Bool, true, false, ◌&&◌}
use mathlib.Core.List.{List, [], ◌∷◌, ◌++◌}
use native.Mathlib.Omega.{arith}
use native.Mathlib.Nat.{zero-div}
use borrow.Author.Tests.{eqb-true, leb-true, ltb-true, eq-eqb, lt-ltb, le-leb}
use lib.ListN.{length, get_or, take, replicate}
use lib.Seq.{ext_get_or}
use lib.Dec.{eqb, ltb, leb}
use Rattle.lists.specs.Pick.{pick}
use Rattle.lists.specs.Parts.{zeros}
use Rattle.lists.proofs.Tests.{and_left, and_right, and_both}
use Rattle.lists.proofs.PickLaws.{pick_both}
use Rattle.lists.proofs.ZeroLaws.{zeros_at, zeros_replicate}
use Rattle.cause.specs.Checks.{Pass, first_fault, Accepted}
use Rattle.cause.specs.declared.Cause.{Cause}
use Rattle.cause.specs.declared.Cause.TheVariants.{MissingPool, MissingGrantPool}
use Rattle.cause.proofs.CheckLaws.{pass_accepted, accepted_pass, pass_append}
use Rattle.cause.proofs.EachLaws.{passes_each}
use Rattle.container.specs.Layout.{Format, format_of, msg_start, bit}
use Rattle.container.specs.Idle.{idle_from, idle}
use Rattle.container.specs.Grants.{grant_of, header_grant}
use Rattle.container.specs.declared.grant.Grant.{Grant}
use Rattle.container.proofs.IdleLaws.{idle_exactly}
use Rattle.placement.specs.Cells.{Cell, cell_at, after, cells, carry_after, endings, startings}
use Rattle.placement.specs.Checking.{granule_checks, group_checks, container_checks}
use Rattle.reader.specs.Reading.{carry_with, carried, state_checks, judge_checks, next_reader}
use Rattle.reader.specs.declared.carry.Carry.{Carry}
use Rattle.reader.specs.declared.reader.Reader.{Reader}
use Rattle.reader.specs.declared.reader.JudgeAnswer.TheVariants as judge
use Rattle.reader.proofs.AnswerLaws.{judge_state, judge_checks_accepted, judged_accepted}
use Rattle.reader.proofs.CarryLaws.{reader_ok_valid}
use Rattle.reader.proofs.LinkLaws.{judging_same}
use Rattle.pools.specs.Pools.{capacities_ok, grantable, start_payable, start_grantable, each_granule, message_checks, grant_checks, grants_in, granted_to, paid_to}
use Rattle.ledger.specs.Entries.{cells_in}
use Rattle.ledger.specs.Audit.{receiver_of, reader_of, held_of, open_of, ledger_ok, opposite, begun, finished, granted, credit_checks, capacity_checks, audit_checks, held_after, open_after, next_ledger, auditing}
use Rattle.ledger.specs.CountingMirror.{idle_entry}
use Rattle.ledger.specs.declared.ledger.Ledger.{Ledger}
use Rattle.ledger.proofs.TableSelf.{table_by}
use Rattle.ledger.proofs.AcceptedLaws.{credit_each, capacity_each}
use Rattle.ledger.proofs.ValidLaws.{ValidDirection, ledger_valid}

-- the container of zeros, and its grant
abbrev blank : List ℕ
blank = replicate 256 0

abbrev no_grant : Grant
no_grant = grant_of 0 0 0 0 0

blank_accepted : (f : ℕ) → f < 2 → first_fault (container_checks (format_of f) blank (cells (format_of f) blank 12 0 [])) ≡ Accepted
unfolding container_checks granule_checks group_checks cells
blank_accepted zero h = refl
blank_accepted (suc zero) h = refl
blank_accepted (suc (suc f)) h = absurd (omega arith)

blank_grant : (f : ℕ) → f < 2 → no_grant ≡ header_grant (format_of f) blank
blank_grant zero h = refl
blank_grant (suc zero) h = refl
blank_grant (suc (suc f)) h = absurd (omega arith)

blank_starts : (f : ℕ) → f < 2 → 0 ≡ msg_start (format_of f) blank
blank_starts zero h = refl
blank_starts (suc zero) h = refl
blank_starts (suc (suc f)) h = absurd (omega arith)

-- nothing starts and nothing is carried: nothing ends and nothing is carried on
module _ (fm : Format) (c : List ℕ) (none : msg_start fm c ≡ 0) where
  no_start : (g : ℕ) → bit (msg_start fm c) g ≡ false
  no_start g = rw (none, zero-div (2 ^ g))

  starts_none : (k g : ℕ) → startings (cells fm c k g []) ≡ []
  unfolding cells startings
  starts_none zero g = refl
  starts_none (suc k) g = rw (no_start g) (starts_none k (g + 1))

  ends_none : (k g : ℕ) → endings fm g (cells fm c k g []) [] ≡ []
  unfolding cells endings
  ends_none zero g = refl
  ends_none (suc k) g = rw (no_start g) (ends_none k (g + 1))

  carry_none : (k g : ℕ) → carry_after fm g (cells fm c k g []) [] ≡ []
  unfolding cells carry_after
  carry_none zero g = refl
  carry_none (suc k) g = rw (no_start g) (carry_none k (g + 1))

  -- a test that holds of every cell in which nothing starts passes at every granule
  granules_idle : (test : Cell → Bool) (k : Cause) → ((e : Cell) → e.starts ≡ false → test e ≡ true) → (i g : ℕ) (m : List ℕ) → Pass (each_granule test k g (cells fm c i g m))
  unfolding cells each_granule
  granules_idle test k h zero g m = tt
  granules_idle test k h (suc i) g m = (h (cell_at fm g c m) (no_start g), granules_idle test k h i (g + 1) (after fm g (cell_at fm g c m) m))

-- a grant of nothing gives no pool anything
none_of : (t : Bool) {n : ℕ} → n ≡ 0 → pick t 0 n ≡ 0
none_of t e = pick_both (λ (x : ℕ). x ≡ 0) t refl e

gives_none : (p : ℕ) → granted_to p (no_grant ∷ []) ≡ 0
unfolding granted_to
gives_none p = ap (λ (n : ℕ). n + 0) (none_of (eqb p 9) (none_of (eqb p 10) (none_of (eqb p 1) (none_of (eqb p 12) refl))))

-- a choice that replaces the one that it was made of by the same
chosen : {A : Type 0} (t : Bool) {x : A} (a b : A) → x ≡ pick t a b → (pick t x a ≡ a) × (pick t b x ≡ b)
chosen true a b e = (e, refl)
chosen false a b e = (refl, e)

module _ (s : Ledger) (d : ℕ) (c : List ℕ) (b : d < 2) (ok : ledger_ok s ≡ true) (n : length c ≡ 256) (e : idle_entry s d c ≡ true) where
  abbrev r : Reader
  r = reader_of s d

  abbrev fm : Format
  fm = format_of s.format

  valid : ValidDirection s d
  valid = ledger_valid s d ok b

  len_none : r.carry.len ≡ 0
  len_none = eqb-true r.carry.len 0 (and_left (eqb r.carry.len 0) (idle fm c) e)

  carried_none : carried r ≡ []
  carried_none = ap (λ (k : ℕ). take k r.carry.bytes) len_none

  -- outside the link header the entry is the container of zeros
  same : (i : ℕ) → i < 256 → fm.link i ≡ false → get_or c i 0 ≡ get_or blank i 0
  same i k t =
      (idle_exactly fm.link c).0 (and_right (eqb (length c) 256) (idle_from fm.link c 0) (and_right (eqb r.carry.len 0) (idle fm c) e)) i (rw n k) t
      ∙ sym (zeros_at blank (zeros_replicate 256) i)

  -- so it passes the reader's checks, grants nothing, and starts nothing
  read : (first_fault (judge_checks r c) ≡ Accepted) × (no_grant ≡ header_grant fm c) × (0 ≡ msg_start fm c) × (next_reader r blank ≡ next_reader r c)
  unfolding state_checks
  read =
      let f = ltb-true s.format 2 (reader_ok_valid r valid.reader).format in
      let m : first_fault (state_checks r blank) ≡ Accepted = rw carried_none (blank_accepted s.format f) in
      judged_accepted r c (record { reader = next_reader r blank; answer = judge.Accepted no_grant 0 })
      (judge_checks_accepted r blank valid.reader refl m (next_reader r blank) refl no_grant (blank_grant s.format f) 0 (blank_starts s.format f)
      ∙ sym (judging_same r c blank n refl same)) no_grant 0 refl

  begun_none : begun s d c ≡ []
  unfolding begun
  begun_none = rw carried_none (starts_none fm c (sym read.2) 12 0)

  finished_none : finished s d c ≡ []
  unfolding finished
  finished_none = rw carried_none (ends_none fm c (sym read.2) 12 0)

  granted_none : granted s d c ≡ no_grant ∷ []
  unfolding granted grants_in
  granted_none = rw begun_none (ap (λ (g : Grant). g ∷ []) (sym read.1))

  -- 15 and 16
  held_pass : Pass (credit_checks s d [] 14 0)
  unfolding paid_to
  held_pass = passes_each (credit_each s d []) 14 0 (λ p l h. le-leb 0 (held_of s d p) (omega arith))

  module _ (v : ValidDirection s (opposite d)) where
    room_pass : Pass (capacity_checks s (opposite d) (no_grant ∷ []) 14 0)
    room_pass =
        passes_each (capacity_each s (opposite d) (no_grant ∷ [])) 14 0
        (λ p l h. rw (gives_none p) (le-leb (held_of s (opposite d) p + (0 + open_of s (opposite d) p)) (get_or (receiver_of s (opposite d)).capacities p 0) (omega (arith, v.room p (omega arith)))))

    grant_pass : grantable (receiver_of s (opposite d)) (header_grant fm c) ≡ true
    grant_pass =
        let o = receiver_of s (opposite d) in
        let h = and_left (leb 1 o.planes) (leb o.planes 8) (and_left (leb 1 o.planes && leb o.planes 8) (capacities_ok o 14 0) v.receiver) in
        ap (grantable o) (sym read.1) ∙ and_both (ltb 0 o.planes) true (lt-ltb 0 o.planes (leb-true 1 o.planes h)) refl

  -- every check passes
  audit_pass : Pass (audit_checks s d c)
  unfolding audit_checks
  audit_pass =
      let v = ledger_valid s (opposite d) ok (omega arith) in
      let es = cells_in r c in
      let messages = message_checks (receiver_of s d) es in
      let grants = grant_checks (receiver_of s (opposite d)) (header_grant fm c) es in
      let held = credit_checks s d [] 14 0 in
      let room = capacity_checks s (opposite d) (no_grant ∷ []) 14 0 in
      let read-pass : Pass (state_checks r c) = accepted_pass (state_checks r c) (sym (judge_state r c valid.reader n) ∙ read.0) in
      let paid : Pass messages = granules_idle fm c (sym read.2) (start_payable (receiver_of s d)) MissingPool (λ e t. rw t) 12 0 (carried r) in
      let given : Pass grants = (grant_pass v, granules_idle fm c (sym read.2) (start_grantable (receiver_of s (opposite d))) MissingGrantPool (λ e t. rw t) 12 0 (carried r)) in (
        and_both (ltb d 2) (ledger_ok s) (lt-ltb d 2 b) ok,
        (
          eq-eqb (length c) 256 n,
          rw (begun_none, granted_none)
              (pass_append (state_checks r c) (messages ++ (grants ++ (held ++ room))) read-pass
              (pass_append messages (grants ++ (held ++ room)) paid
              (pass_append grants (held ++ room) given (pass_append held room held_pass (room_pass v))))),
        ),
      )

  -- no count changes
  held_kept : (i p : ℕ) → held_after s d c i p ≡ held_of s i p
  unfolding paid_to
  held_kept i p = rw (begun_none, granted_none, gives_none p) (pick_both (λ (x : ℕ). x ≡ held_of s i p) (eqb i d) (omega arith) (omega arith))

  open_kept : (i p : ℕ) → open_after s d c i p ≡ open_of s i p
  unfolding paid_to
  open_kept i p = rw (begun_none, finished_none) (pick_both (λ (x : ℕ). x ≡ open_of s i p) (eqb i d) (omega arith) refl)

  module _ (n0 : length s.carry0.bytes ≡ 100) (n1 : length s.carry1.bytes ≡ 100) where
    -- the carry stays as it is
    carry_kept : (next_reader r c).carry ≡ r.carry
    unfolding next_reader
    carry_kept =
        let some : length r.carry.bytes ≡ 100 = pick_both (λ (k : Carry). length k.bytes ≡ 100) (eqb d 0) n0 n1 in
        let rest : zeros r.carry.bytes ≡ true = rw len_none at (reader_ok_valid r valid.reader).rest in
        let bytes : replicate 100 0 ≡ r.carry.bytes =
        ext_get_or 0 (replicate 100 0) r.carry.bytes (sym some) (λ i k. zeros_at (replicate 100 0) (zeros_replicate 100) i ∙ sym (zeros_at r.carry.bytes rest i)) in
        let m : carry_after fm 0 (cells fm c 12 0 (carried r)) (carried r) ≡ [] = rw carried_none (carry_none fm c (sym read.2) 12 0) in
        ap carry_with m ∙ (λ i. record { bytes = bytes i; len = sym len_none i })

    module _ (nh : length s.held ≡ 28) (nw : length s.opened ≡ 28) where
      ledger_kept : next_ledger s d c ≡ s
      unfolding next_ledger
      ledger_kept =
          let carry = chosen (eqb d 0) s.carry0 s.carry1 carry_kept in
          let held = table_by (held_after s d c) s.held nh (λ e p h k. held_kept e p) in
          let opened = table_by (open_after s d c) s.opened nw (λ e p h k. open_kept e p) in
          λ i. record {
            format = s.format;
            receiver0 = s.receiver0;
            receiver1 = s.receiver1;
            carry0 = carry.0 i;
            carry1 = carry.1 i;
            held = held i;
            opened = opened i;
          }

pub idle_accepted : (s : Ledger) (d : ℕ) (c : List ℕ) → d < 2 → ledger_ok s ≡ true → length s.carry0.bytes ≡ 100 → length s.carry1.bytes ≡ 100
    → length s.held ≡ 28 → length s.opened ≡ 28 → idle_entry s d c ≡ true → auditing s d c ≡ record { ledger = s; answer = Accepted }
unfolding auditing
idle_accepted s d c b ok n0 n1 nh nw e =
    let n = eqb-true (length c) 256 (and_left (eqb (length c) 256) (idle_from (format_of s.format).link c 0) (and_right (eqb (reader_of s d).carry.len 0) (idle (format_of s.format) c) e)) in
    rw (pass_accepted (audit_checks s d c) (audit_pass s d c b ok n e), ledger_kept s d c b ok n e n0 n1 nh nw)
