-- The entries of a call are those of a run over them, by the rules of both. Assumes nothing.
use Prim.Native.Nat.{ℕ, ◌+◌, ◌-◌, ◌*◌, ◌≤◌, ◌<◌}
use mathlib.Core.Path.{◌≡◌, refl, sym, ap, subst, ◌∙◌}
use mathlib.Core.Bool.{Bool, true, false}
use mathlib.Core.List.{List}
use mathlib.Core.Logic.{◌⊎◌, inl, inr, ⊎_elim}
use native.Mathlib.Omega.{arith}
use lib.ListN.{length, drop, length-drop}
use lib.Seq.{drop-drop}
use lib.Dec.{leb}
use borrow.Author.Tests.{lt-leb, le-leb, leb-true, leb-false, eq-eqb, ne_eqb}
use Rattle.lists.specs.Pick.{pick}
use Rattle.lists.proofs.Order.{lt_or_le}
use Rattle.lists.proofs.PickLaws.{pick_both}
use Rattle.cause.specs.declared.Cause.TheVariants.{BrokenRecord, TooLong, InvalidState}
use Rattle.record.specs.Number.{read_number}
use Rattle.record.specs.declared.number.Number.{Number}
use Rattle.record.proofs.NumberTakes.{number_takes}
use Rattle.ledger.specs.Audit.{ledger_ok, auditing}
use Rattle.ledger.specs.Calls.{behind, entry_of, NoEntry}
use Rattle.ledger.specs.Run.{halted, running, run_over}
use Rattle.ledger.specs.RunRules.{RunRule, invalid, all, refused}
use Rattle.ledger.specs.declared.ledger.Ledger.{Ledger}
use Rattle.ledger.specs.declared.entries.Run.{Run}
use Rattle.ledger.proofs.ValidLedgerLaws.{ledger_exactly}
use Rattle.ledger.proofs.RunLaws.{Bounded, over_bounded}
use Rattle.ledger.proofs.RunRuleLaws.{run_follows}
use Rattle.logs.specs.Stream.{max_entries, stopped_at, read_from, Outcome, More, Over}
use Rattle.logs.specs.ConcludingMirror.{concluding, read_on}
use Rattle.logs.specs.LogRules.{Enough, Says, Goes}
use Rattle.logs.specs.LogRules.Says.{accepts, long, broken, cut, refuses, asks}
use Rattle.logs.specs.declared.log.LogVerdict.TheVariants.{Accepted, Refused}
use Rattle.logs.specs.declared.log.LogReader.{LogReader}
use Rattle.logs.specs.declared.log.Consumed.{Consumed}
use Rattle.logs.proofs.LogRuleLaws.{goes_only, enough_or}
use Rattle.cause.specs.Checks as verdict
use Rattle.cause.specs.Checks.{Verdict}
use Rattle.std.specs.Prelude.{Ok, Err, Option, Some, None}

-- ---- what is said where no whole entry is left

module _ (s : Ledger) (e o : ℕ) (l : List ℕ) (ended : Bool) where
  abbrev Said : Outcome → Type 0
  Said r = Says s e o l ended r

  -- no byte is left
  none_left : length l ≡ 0 → (t : Bool) → ended ≡ t → Said (pick t (Over (Accepted e)) More)
  none_left z true end = accepts z end
  none_left z false more = asks more (inr z) (omega arith) (λ v u g. omega arith)

  -- an entry begins, and is not whole
  broken_left : 0 < length l → e < max_entries → Enough l ended → NoEntry l → (r : Option Number) → read_number l ≡ r → Said (Over (Refused e BrokenRecord o))
  broken_left some few enough lacks None g = broken some few enough g
  broken_left some few enough lacks (Some number) g =
      let short = lacks number.value number.used g in
      let five = (number_takes l number.value number.used g).1.0 in
      ⊎_elim (λ (end : ended ≡ true). cut number.value number.used few end g short) (λ (long : 261 ≤ length l). absurd (omega arith)) enough

  abbrev enough : Bool
  enough = pick ended true (leb 261 (length l))

  some_left : 0 < length l → e < max_entries → NoEntry l → Said (pick enough (Over (Refused e BrokenRecord o)) More)
  some_left some few lacks =
      enough_or l ended
      (λ (h : Enough l ended).
      let yes : enough ≡ true = ⊎_elim (λ (end : ended ≡ true). rw end) (λ (long : 261 ≤ length l). rw (le-leb 261 (length l) long) (pick_both (λ (t : Bool). t ≡ true) ended refl refl)) h in
      rw yes (broken_left some few h lacks (read_number l) refl))
      (λ (more : ended ≡ false) (short : length l < 261).
      let not_yet : enough ≡ false = rw (more, lt-leb 261 (length l) short) in
      rw not_yet (asks more (inl few) short lacks))

  -- one byte of one entry too many, or of one that is not whole
  limit_left : 0 < length l → (e ≡ max_entries) ⊎ NoEntry l → (t : Bool) → leb max_entries e ≡ t → Said (pick t (Over (Refused e TooLong 0)) (pick enough (Over (Refused e BrokenRecord o)) More))
  limit_left some h true full = long some (leb-true max_entries e full)
  limit_left some h false t =
      let few = leb-false max_entries e t in
      ⊎_elim (λ (full : e ≡ max_entries). absurd (omega arith)) (λ (lacks : NoEntry l). some_left some few lacks) h

  pub concludes : (e ≡ max_entries) ⊎ NoEntry l → Said (concluding e o (length l) ended)
  concludes h =
      ⊎_elim
      (λ (z : length l < 1).
      let nil : length l ≡ 0 = omega arith in
      rw (eq-eqb (length l) 0 nil) (none_left nil ended refl))
      (λ (some : 1 ≤ length l). rw (ne_eqb (length l) 0 (λ z. omega arith)) (limit_left some h (leb max_entries e) refl))
      (lt_or_le (length l) 1)

-- ---- a call by its run

-- what the answer of a run comes to
abbrev pub said_by : Verdict → ℕ → ℕ → ℕ → Bool → Outcome
said_by (Err fault) e o left ended = Over (Refused e fault.cause fault.place)
said_by (Ok _) e o left ended = concluding e o left ended

module _ (b : List ℕ) (at : ℕ) (ended : Bool) (s : LogReader) where
  -- the state behind a run, and the call
  abbrev pub state_by : Run → LogReader
  state_by r = record { ledger = r.ledger; entries = s.entries + r.accepted; offset = s.offset + r.used }

  abbrev pub call_by : Run → Consumed
  call_by r = stopped_at (at + r.used) (state_by r) (said_by r.answer (s.entries + r.accepted) (s.offset + r.used) (length (drop (at + r.used) b)) ended)

  run_goes : (r : Run) → s.entries ≤ max_entries → RunRule s.ledger (max_entries - s.entries) (drop at b) r → ledger_ok s.ledger ≡ true → Goes s b at ended (call_by r)
  run_goes r few (invalid bad) ok = absurd (bad ((ledger_exactly s.ledger).0 ok))
  run_goes r few (all es n h low how) ok =
      let here = drop-drop n at b in
      record {
        calls = es;
        bytes = n;
        front = h.front;
        few = omega arith;
        accepted = h.accepted;
        reader = refl;
        used = refl;
        says = concludes (behind s.ledger es) (s.entries + length es) (s.offset + n) (drop (at + n) b) ended
            (⊎_elim (λ (full : length es ≡ max_entries - s.entries). inl (omega arith)) (λ (lacks : NoEntry (drop n (drop at b))). inr (subst NoEntry here lacks)) how);
      }
  run_goes r few (refused es n v u k p h low g q a) ok =
      let here = drop-drop n at b in
      record {
        calls = es;
        bytes = n;
        front = h.front;
        few = omega arith;
        accepted = h.accepted;
        reader = refl;
        used = refl;
        says = refuses v u k p (omega arith) (ap read_number (sym here) ∙ g) (subst (λ (l : List ℕ). u + 256 ≤ length l) here q)
            (ap (λ (l : List ℕ). (auditing (behind s.ledger es) (entry_of l v u).direction (entry_of l v u).container).answer) (sym here) ∙ a);
      }

  -- a run from a ledger that is not valid
  nothing : (n : ℕ) → n + 0 ≡ n
  nothing n = omega arith

  call_none : call_by (halted s.ledger 0 0 (verdict.Refused InvalidState 0)) ≡ stopped_at at s (Over (Refused s.entries InvalidState 0))
  call_none = λ i. record {
    reader = record { ledger = s.ledger; entries = nothing s.entries i; offset = nothing s.offset i };
    used = nothing at i;
    outcome = Over (Refused (nothing s.entries i) InvalidState 0);
  }

  run_valid : s.entries ≤ max_entries → (t : Bool) → ledger_ok s.ledger ≡ t
      → call_by (pick t (running (max_entries - s.entries) s.ledger 0 0 (drop at b)) (halted s.ledger 0 0 (verdict.Refused InvalidState 0)))
      ≡ pick t (read_from (max_entries - s.entries) ended b at s) (stopped_at at s (Over (Refused s.entries InvalidState 0)))
  run_valid few true ok =
      let follows = rw ok at (run_follows s.ledger (max_entries - s.entries) (drop at b)) in
      goes_only ended b at s (call_by (running (max_entries - s.entries) s.ledger 0 0 (drop at b))) (run_goes (running (max_entries - s.entries) s.ledger 0 0 (drop at b)) few follows ok)
  run_valid few false bad = call_none

  -- the entries of a call are those of the run
  pub call_run : (r : Run) → s.entries ≤ max_entries → r ≡ run_over s.ledger (max_entries - s.entries) (drop at b) → call_by r ≡ read_on s b at ended
  call_run r few e = ap call_by e ∙ run_valid few (ledger_ok s.ledger) refl

  -- what it uses and accepts is within the bytes at hand and the limits of a log
  pub run_room : (r : Run) → r ≡ run_over s.ledger (max_entries - s.entries) (drop at b) → s.entries ≤ max_entries → s.offset ≤ 165 + 261 * s.entries → at ≤ length b
      → (at + r.used ≤ length b) × (s.entries + r.accepted ≤ max_entries) × (s.offset + r.used ≤ 165 + 261 * max_entries)
  run_room r e few near fit =
      let w : Bounded (max_entries - s.entries) 0 0 (drop at b) r = rw e (over_bounded s.ledger (max_entries - s.entries) (drop at b)) in
      let inside = w.inside in
      let high = w.limit in
      let close = w.near in
      (omega (arith, length-drop at b), omega arith, omega arith)
