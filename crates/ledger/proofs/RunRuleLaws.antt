-- What a run over entries gives is what its rules say, and nothing else is. Assumes nothing.
use Prim.Native.Nat.{ℕ, zero, suc, ◌+◌, ◌%◌, ◌≤◌, ◌<◌}
use mathlib.Core.Path.{◌≡◌, refl, sym, ap, subst, ◌∙◌}
use mathlib.Core.Bool.{Bool, true, false}
use mathlib.Core.List.{List, [], ◌∷◌, ◌++◌}
use mathlib.Core.Logic.{inl, inr, ⊎_elim}
use native.Mathlib.Omega.{arith}
use lib.ListN.{length, take, drop, length-append}
use lib.Seq.{drop-drop}
use Rattle.lists.specs.Pick.{pick}
use Rattle.lists.proofs.Tests.{cases, never_both, not_true_false}
use Rattle.cause.specs.declared.Cause.TheVariants.{InvalidState}
use Rattle.record.specs.Number.{read_number, Value}
use Rattle.frame.specs.Framing.{framing}
use Rattle.frame.specs.declared.Framed.{Framed}
use Rattle.frame.specs.declared.Framed.TheVariants.{Whole}
use Rattle.frame.proofs.FrameLaws.{frame_whole, whole_entry, Front, broken, short, whole, front_of}
use Rattle.ledger.specs.Audit.{ledger_ok, auditing}
use Rattle.ledger.specs.Calls.{Entry, AllAccepted, behind, entry_of, Enters, NoEntry}
use Rattle.ledger.specs.Calls.Enters.{none, next}
use Rattle.ledger.specs.Run.{running, run_over}
use Rattle.ledger.specs.RunRules.{Entered, stopped, RunRule, invalid, all, refused}
use Rattle.ledger.specs.declared.ledger.Ledger.{Ledger}
use Rattle.ledger.specs.declared.ledger.Step.{Step}
use Rattle.ledger.specs.declared.entries.Run.{Run}
use Rattle.ledger.proofs.ValidLedgerLaws.{ledger_exactly}
use Rattle.ledger.proofs.CallLaws.{accepted_front, accepted_back, accepted_more, behind_append}
use Rattle.ledger.proofs.RunLaws.{step_at, Running, running_none, running_full, running_ends, running_refused, running_more}
use Rattle.cause.specs.Checks.{Verdict, Accepted, Refused}
use Rattle.record.proofs.NumberLaws.{value_same}
use Rattle.std.specs.Prelude.{Ok, Err}

-- where no whole entry is at the front, none is framed
none_framed : (l : List ℕ) → NoEntry l → (v d u : ℕ) → framing l ≡ Whole v d u → ⊥
none_framed l h v d u e =
    let w = whole_entry l v d u e in
    let short = h v u w.read in
    omega (arith, w.within)

-- at the front is a whole entry or none
data Next (l : List ℕ) : Type 0 where
  some : (v u : ℕ) → read_number l ≡ Value v u → u + 256 ≤ length l → Next l
  nothing : NoEntry l → Next l

next_by : (l : List ℕ) {f : Framed} → Front l f → Next l
next_by l (broken e) = nothing (λ v u q. absurd (let z : ◌≡◌ {A = ℕ} 0 1 = cc in omega arith))
next_by l (short x y e h) = nothing (λ v u q. let same = (value_same _ _ _ _ (sym e ∙ q)).1 in subst (λ (i : ℕ). length l < i + 256) same h)
next_by l (whole v u e h) = some v u e h

module _ (s : Ledger) (limit : ℕ) (l : List ℕ) where
  -- the entry at byte n, and its audit behind entries
  abbrev entry : ℕ → ℕ → ℕ → Entry
  entry n v u = entry_of (drop n l) v u

  abbrev here : List Entry → ℕ → ℕ → ℕ → Step
  here es n v u = auditing (behind s es) (entry n v u).direction (entry n v u).container

  here_is : (es : List Entry) (n v u : ℕ) → here es n v u ≡ step_at (behind s es) n l (v % 2) u
  here_is es n v u = ap (λ (x : List ℕ). auditing (behind s es) (v % 2) (take 256 x)) (drop-drop u n l)

  one_more : (es : List Entry) (n v u : ℕ) → Running s limit l (behind s es) (length es) n → length es < limit → read_number (drop n l) ≡ Value v u → u + 256 ≤ length (drop n l)
      → (here es n v u).answer ≡ Accepted
      → Running s limit l (behind s (es ++ (entry n v u ∷ []))) (length (es ++ (entry n v u ∷ []))) (n + (u + 256))
  one_more es n v u r few e h a =
      rw (behind_append s es (entry n v u ∷ []), length-append es (entry n v u ∷ []))
      (running_more s limit l (behind s es) (length es) n r few v (v % 2) u (frame_whole (drop n l) v u e h) (here es n v u) (here_is es n v u) a)

  -- the run has come to where accepted entries end
  enters_run : {es : List Entry} {n : ℕ} → Enters l es n → ledger_ok s ≡ true → length es ≤ limit → AllAccepted s es → Running s limit l (behind s es) (length es) n
  enters_run none ok few a = running_none s limit l ok
  enters_run (next {es} {n} v u f e h) ok few a =
      let one : length (es ++ (entry n v u ∷ [])) ≡ length es + 1 = length-append es (entry n v u ∷ []) in
      one_more es n v u (enters_run f ok (omega arith) (accepted_front s es (entry n v u ∷ []) a)) (omega arith) e h (accepted_back s es (entry n v u ∷ []) a).0

  entered_run : {es : List Entry} {n : ℕ} → Entered s l es n → length es ≤ limit → Running s limit l (behind s es) (length es) n
  entered_run h few = enters_run h.front ((ledger_exactly s).1 h.valid) few h.accepted

  run_by_cases : (t : Bool) → ledger_ok s ≡ t → run_over s limit l ≡ pick t (running limit s 0 0 l) (stopped s [] 0 (Refused InvalidState 0))
  run_by_cases t e = ap (λ (x : Bool). pick x (running limit s 0 0 l) (stopped s [] 0 (Refused InvalidState 0))) e

  entered_whole : {es : List Entry} {n : ℕ} → Entered s l es n → run_over s limit l ≡ running limit s 0 0 l
  entered_whole h = run_by_cases true ((ledger_exactly s).1 h.valid)

  -- what the rules say is what it gives
  pub run_only : (r : Run) → RunRule s limit l r → r ≡ run_over s limit l
  run_only r (invalid bad) = sym (run_by_cases false (not_true_false (ledger_ok s) (λ t. bad ((ledger_exactly s).0 t))))
  run_only r (all es n h few (inl full)) =
      running_full s limit l (behind s es) (length es) n (entered_run h few) (omega arith) ∙ sym (entered_whole h)
  run_only r (all es n h few (inr lacks)) =
      running_ends s limit l (behind s es) (length es) n (entered_run h few) (none_framed (drop n l) lacks) ∙ sym (entered_whole h)
  run_only r (refused es n v u k p h few e g a) =
      running_refused s limit l (behind s es) (length es) n (entered_run h (omega arith)) few v (v % 2) u (frame_whole (drop n l) v u e g) (here es n v u) (here_is es n v u) k p a
      ∙ sym (entered_whole h)

  rule_is : {r : Run} → RunRule s limit l r → RunRule s limit l (run_over s limit l)
  rule_is {r} h = subst (RunRule s limit l) (run_only r h) h

  by_answer : (es : List Entry) (n v u : ℕ) → Entered s l es n → length es < limit → read_number (drop n l) ≡ Value v u → u + 256 ≤ length (drop n l)
      → (Entered s l (es ++ (entry n v u ∷ [])) (n + (u + 256)) → RunRule s limit l (run_over s limit l))
      → (a : Verdict) → (here es n v u).answer ≡ a → RunRule s limit l (run_over s limit l)
  by_answer es n v u h few e g go (Err fault) a = rule_is (refused es n v u fault.cause fault.place h few e g a)
  by_answer es n v u h few e g go (Ok _) a =
      go (record { valid = h.valid; front = next v u h.front e g; accepted = accepted_more s es (entry n v u) h.accepted a })

  by_next : (es : List Entry) (n : ℕ) → Entered s l es n → length es < limit
      → ((v u : ℕ) → Entered s l (es ++ (entry n v u ∷ [])) (n + (u + 256)) → RunRule s limit l (run_over s limit l))
      → Next (drop n l) → RunRule s limit l (run_over s limit l)
  by_next es n h few go (nothing lacks) = rule_is (all es n h (omega arith) (inr lacks))
  by_next es n h few go (some v u e g) = by_answer es n v u h few e g (go v u) (here es n v u).answer refl

  -- the rules say what it gives: at most j more entries behind those that end at byte n
  rule_from : (j : ℕ) (es : List Entry) (n : ℕ) → length es + j ≡ limit → Entered s l es n → RunRule s limit l (run_over s limit l)
  rule_from zero es n few h = rule_is (all es n h (omega arith) (inl (omega arith)))
  rule_from (suc j) es n few h =
      by_next es n h (omega arith)
      (λ v u g.
      let one : length (es ++ (entry n v u ∷ [])) ≡ length es + 1 = length-append es (entry n v u ∷ []) in
      rule_from j (es ++ (entry n v u ∷ [])) (n + (u + 256)) (omega arith) g)
      (next_by (drop n l) (front_of (drop n l)))

  pub run_follows : RunRule s limit l (run_over s limit l)
  run_follows =
      ⊎_elim
      (λ (good : ledger_ok s ≡ true). rule_from limit [] 0 (omega arith) (record { valid = (ledger_exactly s).0 good; front = none; accepted = tt }))
      (λ (bad : ledger_ok s ≡ false). rule_is (invalid (λ v. never_both bad ((ledger_exactly s).1 v))))
      (cases (ledger_ok s))
