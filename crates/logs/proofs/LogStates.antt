-- An entry of a log leaves a valid ledger, and what a valid state of the log says. Assumes nothing.
use Prim.Native.Nat.{ℕ, ◌+◌, ◌*◌, ◌%◌, ◌≤◌}
use mathlib.Core.Path.{◌≡◌, refl, sym, ap, ◌∙◌}
use native.Mathlib.Omega.{arith}
use mathlib.Core.Bool.{Bool, true, false, ◌&&◌}
use mathlib.Core.List.{List}
use lib.ListN.{length, take, drop}
use lib.Dec.{ltb, leb, eqb}
use borrow.Author.Tests.{leb-true, le-leb, eqb-false, eq-eqb, ne_eqb}
use Rattle.lists.specs.Pick.{pick}
use Rattle.lists.proofs.Tests.{never_both, not_true_false, and_left, and_right}
use Rattle.lists.proofs.PickLaws.{pick_both}
use Rattle.record.specs.Number.{read_number}
use Rattle.record.specs.declared.number.Number.{Number}
use Rattle.ledger.specs.Audit.{ledger_ok, auditing}
use Rattle.logs.specs.Log.{Next, over, onward, next_of, framed, judged}
use Rattle.logs.specs.Stream.{max_entries, Running, valid_state}
use Rattle.logs.specs.ConcludingMirror.{counts_ok}
use Rattle.ledger.specs.declared.ledger.Ledger.{Ledger}
use Rattle.logs.specs.declared.log.LogReader.{LogReader}
use Rattle.ledger.proofs.AnswerLaws.{audit_keeps}
use Rattle.cause.specs.Checks.{Verdict}
use Rattle.std.specs.Prelude.{Ok, Err, Option, Some, None}

-- ---- an entry

abbrev pub Keeps : Next → Type 0
Keeps (over v) = Unit {0}
Keeps (onward next u) = ledger_ok next ≡ true

keeps_judged : (e u : ℕ) (next : Ledger) (a : Verdict) → ledger_ok next ≡ true → Keeps (judged e u next a)
keeps_judged e u next (Err fault) h = tt
keeps_judged e u next (Ok _) h = h

keeps_framed : (s : Ledger) (e o : ℕ) (l : List ℕ) (r : Option Number) → ledger_ok s ≡ true → Keeps (framed s e o l r)
keeps_framed s e o l None h = tt
keeps_framed s e o l (Some number) h =
    pick_both Keeps (ltb (length l) (number.used + 256)) tt
    (keeps_judged e (number.used + 256) (auditing s (number.value % 2) (take 256 (drop number.used l))).ledger (auditing s (number.value % 2) (take 256 (drop number.used l))).answer
    (audit_keeps s (number.value % 2) (take 256 (drop number.used l)) h))

pub next_keeps : (s : Ledger) (e o : ℕ) (l : List ℕ) → ledger_ok s ≡ true → Keeps (next_of s e o l)
unfolding next_of
next_keeps s e o l h = keeps_framed s e o l (read_number l) h

-- ---- a state

-- the test of a state behind the configuration
abbrev counted : LogReader → Bool
counted s = leb s.entries max_entries && (leb (33 + 257 * s.entries) s.offset && (leb s.offset (165 + 261 * s.entries) && ledger_ok s.ledger))

valid_begun : (s : LogReader) → (s.offset ≡ 0 → ⊥) → valid_state s ≡ counted s
unfolding valid_state
valid_begun s g = ap (λ (t : Bool). pick t (eqb s.entries 0) (counted s)) (ne_eqb s.offset 0 g)

-- where its counts are in their bounds, a state is valid by its ledger
pub valid_last : (s : LogReader) → (s.offset ≡ 0 → ⊥) → s.entries ≤ max_entries → 33 + 257 * s.entries ≤ s.offset → s.offset ≤ 165 + 261 * s.entries
    → valid_state s ≡ ledger_ok s.ledger
valid_last s g few far near =
    valid_begun s g
    ∙ rw (le-leb s.entries max_entries few, le-leb (33 + 257 * s.entries) s.offset far, le-leb s.offset (165 + 261 * s.entries) near)

-- something is used behind the configuration
pub running_begun : (s : LogReader) → Running s → s.offset ≡ 0 → ⊥
running_begun s r z = omega (arith, r.far)

pub running_valid : (s : LogReader) → Running s → valid_state s ≡ true
running_valid s r = valid_last s (running_begun s r) r.few r.far r.near ∙ r.kept

pub valid_running : (s : LogReader) → valid_state s ≡ true → (s.offset ≡ 0 → ⊥) → Running s
valid_running s v g =
    let all : counted s ≡ true = sym (valid_begun s g) ∙ v in
    let few = leb s.entries max_entries in
    let far = leb (33 + 257 * s.entries) s.offset in
    let near = leb s.offset (165 + 261 * s.entries) in
    let behind = and_right few (far && (near && ledger_ok s.ledger)) all in
    let last = and_right far (near && ledger_ok s.ledger) behind in
    record {
      few = leb-true s.entries max_entries (and_left few (far && (near && ledger_ok s.ledger)) all);
      far = leb-true (33 + 257 * s.entries) s.offset (and_left far (near && ledger_ok s.ledger) behind);
      near = leb-true s.offset (165 + 261 * s.entries) (and_left near (ledger_ok s.ledger) last);
      kept = and_right near (ledger_ok s.ledger) last;
    }

-- ---- the numbers of a state

abbrev limits : LogReader → Bool
limits s = leb s.entries max_entries && (leb (33 + 257 * s.entries) s.offset && leb s.offset (165 + 261 * s.entries))

module _ (s : LogReader) where
  numbers_by : (t : Bool) → eqb s.offset 0 ≡ t → counts_ok s ≡ pick t (eqb s.entries 0) (limits s)
  numbers_by t e = ap (λ (x : Bool). pick x (eqb s.entries 0) (limits s)) e

  valid_by : (t : Bool) → eqb s.offset 0 ≡ t → valid_state s ≡ pick t (eqb s.entries 0) (counted s)
  unfolding valid_state
  valid_by t e = ap (λ (x : Bool). pick x (eqb s.entries 0) (counted s)) e

  -- before the configuration they alone make a state valid
  pub numbers_start : s.offset ≡ 0 → valid_state s ≡ counts_ok s
  numbers_start z = valid_by true (eq-eqb s.offset 0 z) ∙ sym (numbers_by true (eq-eqb s.offset 0 z))

  -- behind it they are in their bounds
  pub numbers_within : counts_ok s ≡ true → (s.offset ≡ 0 → ⊥) → (s.entries ≤ max_entries) × (33 + 257 * s.entries ≤ s.offset) × (s.offset ≤ 165 + 261 * s.entries)
  numbers_within h g =
      let all : limits s ≡ true = sym (numbers_by false (ne_eqb s.offset 0 g)) ∙ h in
      let few = leb s.entries max_entries in
      let far = leb (33 + 257 * s.entries) s.offset in
      let near = leb s.offset (165 + 261 * s.entries) in
      let rest = and_right few (far && near) all in (
        leb-true s.entries max_entries (and_left few (far && near) all),
        leb-true (33 + 257 * s.entries) s.offset (and_left far near rest),
        leb-true s.offset (165 + 261 * s.entries) (and_right far near rest),
      )

  numbers_valid : valid_state s ≡ true → (t : Bool) → eqb s.offset 0 ≡ t → counts_ok s ≡ true
  numbers_valid v true e = numbers_by true e ∙ sym (valid_by true e) ∙ v
  numbers_valid v false e =
      let r : Running s = valid_running s v (eqb-false s.offset 0 e) in
      numbers_by false e ∙ rw (le-leb s.entries max_entries r.few, le-leb (33 + 257 * s.entries) s.offset r.far, le-leb s.offset (165 + 261 * s.entries) r.near)

  -- without them no state is valid
  pub numbers_bad : counts_ok s ≡ false → valid_state s ≡ false
  numbers_bad h = not_true_false (valid_state s) (λ v. never_both h (numbers_valid v (eqb s.offset 0) refl))
