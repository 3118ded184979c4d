-- The answer and the part are those of the rules, and of no others. Assumes nothing.
use Prim.Native.Nat.{ℕ, ◌+◌, ◌-◌, ◌≤◌, ◌<◌}
use mathlib.Core.Path.{◌≡◌, refl, sym, ap, ◌∙◌, subst}
use mathlib.Core.List.{List, []}
use mathlib.Core.Logic.{⊎_elim}
use native.Mathlib.Omega.{arith}
use lib.ListN.{length}
use lib.Dec.{leb}
use borrow.Author.Tests.{lt-ltb, le-ltb, le-leb, lt-leb}
use Rattle.lists.specs.Parts.{part, IsBytes}
use Rattle.lists.proofs.Order.{lt_or_le}
use Rattle.lists.proofs.Tests.{not_true_false, or_true}
use Rattle.cause.specs.Checks.{first_fault, Verdict, Accepted, Refused}
use Rattle.cause.specs.declared.Cause.TheVariants.{BrokenRecord, TooLong, InvalidState}
use Rattle.feeder.specs.Due.{Neither, due_of, found_at}
use Rattle.feeder.specs.Feeding.{feed_ok, call_checks, refusing, run_after, response_step, other_step, empty_step, step_of, step_by, list_served, passed, feeding, fed_part}
use Rattle.feeder.specs.Rules.{Valid, Short, Due, RunsOn, Rule, not_valid, too_long, hands_response, hands_other, both_empty, response_broken, other_broken}
use Rattle.feeder.specs.declared.found.Waiting.{Waiting}
use Rattle.feeder.specs.declared.found.Waiting.TheVariants.{Responses, Others}
use Rattle.feeder.specs.declared.feed.Feed.{Feed}
use Rattle.feeder.specs.declared.feed.Answer.TheVariants.{Handed}
use Rattle.feeder.specs.declared.feed.Step.{Step}
use Rattle.feeder.proofs.StepCases.{call_invalid, call_responses, call_others, call_accepted, feed_valid, valid_feed, by_outcome}
use Rattle.feeder.proofs.RecordCases.{found_record, record_found, none_stands, none_found}
use Rattle.std.specs.Prelude.{Some, None, Option}

-- ---- the list due

module _ (R O : List ℕ) (s : Feed) where
  pub due_is : (w : Option Waiting) → Due w R O s → due_of (length R) (length O) s ≡ w
  due_is (Some Responses) d =
      ⊎_elim (λ (h : s.other < length O). rw (lt-ltb s.other (length O) h, lt-leb 4 s.run (d.1 h), lt-ltb s.response (length R) d.0))
      (λ (h : length O ≤ s.other). rw (le-ltb s.other (length O) h, lt-ltb s.response (length R) d.0)) (lt_or_le s.other (length O))
  due_is (Some Others) d =
      ⊎_elim (λ (h : s.response < length R). let e = d.1 h in rw (lt-ltb s.other (length O) d.0, le-leb 4 s.run (omega arith)))
      (λ (h : length R ≤ s.response). rw (lt-ltb s.other (length O) d.0, le-ltb s.response (length R) h, or_true (leb 4 s.run))) (lt_or_le s.response (length R))
  due_is None d = rw (le-ltb s.other (length O) d.1, le-ltb s.response (length R) d.0)

  pub due_known : s.run ≤ 4 → Due (due_of (length R) (length O) s) R O s
  due_known h =
      ⊎_elim (λ (b : s.other < length O). other_waits b) (λ (b : length O ≤ s.other). other_empty b) (lt_or_le s.other (length O))
    where
      known : (w : Option Waiting) → Due w R O s → Due (due_of (length R) (length O) s) R O s
      known w d = subst (λ (v : Option Waiting). Due v R O s) (sym (due_is w d)) d

      other_waits : s.other < length O → Due (due_of (length R) (length O) s) R O s
      other_waits b =
          ⊎_elim
          (λ (a : s.response < length R).
          ⊎_elim (λ (r : s.run < 4). known (Some Responses) (a, λ x. r)) (λ (r : 4 ≤ s.run). known (Some Others) (b, λ x. omega arith)) (lt_or_le s.run 4))
          (λ (a : length R ≤ s.response). known (Some Others) (b, λ x. absurd (omega arith))) (lt_or_le s.response (length R))

      other_empty : length O ≤ s.other → Due (due_of (length R) (length O) s) R O s
      other_empty b =
          ⊎_elim (λ (a : s.response < length R). known (Some Responses) (a, λ x. absurd (omega arith))) (λ (a : length R ≤ s.response). known Neither (a, b))
          (lt_or_le s.response (length R))

-- ---- the run

runs_on : (O : List ℕ) (s : Feed) → RunsOn O s (run_after (length O) s)
runs_on O s = (λ h. rw (lt-ltb s.other (length O) h), λ h. rw (le-ltb s.other (length O) h))

run_is : (O : List ℕ) (s : Feed) (n : ℕ) → RunsOn O s n → n ≡ run_after (length O) s
run_is O s n r =
    ⊎_elim (λ (h : s.other < length O). r.0 h ∙ sym ((runs_on O s).0 h)) (λ (h : length O ≤ s.other). r.1 h ∙ sym ((runs_on O s).1 h))
    (lt_or_le s.other (length O))

-- ---- the steps

module _ (f : ℕ) (R O : List ℕ) (s : Feed) where
  abbrev verdict : Verdict
  verdict = first_fault (call_checks f (length R) (length O) s)

  invalid : (Valid f R O s → ⊥) → Refused InvalidState 0 ≡ verdict
  invalid h = call_invalid f (length R) (length O) s (not_true_false (feed_ok f (length R) (length O) s) (λ e. h (feed_valid f R O s e)))

  long : Valid f R O s → (Short R O → ⊥) → Refused TooLong 0 ≡ verdict
  long v h =
      let ok = valid_feed f R O s v in
      ⊎_elim
      (λ (a : length R < 4097).
      ⊎_elim (λ (b : length O < 4097). absurd (h (omega arith, omega arith))) (λ (b : 4097 ≤ length O). call_others f (length R) (length O) s ok (omega arith) (omega arith)) (lt_or_le (length O) 4097))
      (λ (a : 4097 ≤ length R). call_responses f (length R) (length O) s ok (omega arith)) (lt_or_le (length R) 4097)

  sound : Valid f R O s → Short R O → Accepted ≡ verdict
  sound v h = call_accepted f (length R) (length O) s (valid_feed f R O s v) h.0 h.1

  step_by_verdict : (v : Verdict) → v ≡ verdict → step_by v s (step_of (due_of (length R) (length O) s) R O s) ≡ feeding f R O s
  unfolding feeding
  step_by_verdict v e = rw e

  step_by_list : Valid f R O s → Short R O → (w : Option Waiting) → Due w R O s → step_of w R O s ≡ feeding f R O s
  step_by_list v h w d = ap (λ (x : Option Waiting). step_of x R O s) (sym (due_is R O s w d)) ∙ step_by_verdict Accepted (sound v h)

  -- a step and the part that it hands out
  part_by : (t : Step) → t ≡ feeding f R O s → passed R O s t (list_served t.answer) ≡ fed_part f R O s
  unfolding fed_part
  part_by t e = rw e

  -- ---- the answer follows the rules

  module _ (v : Valid f R O s) (h : Short R O) where
    follows_response : IsBytes R → Due (Some Responses) R O s → (x : Option ℕ) → found_at Responses R s.response ≡ x
        → Rule f R O s (response_step (length O) s x) (passed R O s (response_step (length O) s x) (list_served (response_step (length O) s x).answer))
    follows_response b d None q = response_broken v h d (none_stands Responses R s.response q)
    follows_response b d (Some end) q =
        let r = found_record Responses R s.response b v.response end q in
        subst
        (λ (k : ℕ). Rule f R O s (record { feed = record { response = k; other = s.other; run = run_after (length O) s }; answer = Handed Responses }) (part s.response (end - s.response) R))
        r.after (hands_response v h d (part s.response (end - s.response) R) r.stands (run_after (length O) s) (runs_on O s))

    follows_other : IsBytes O → Due (Some Others) R O s → (x : Option ℕ) → found_at Others O s.other ≡ x
        → Rule f R O s (other_step s x) (passed R O s (other_step s x) (list_served (other_step s x).answer))
    follows_other b d None q = other_broken v h d (none_stands Others O s.other q)
    follows_other b d (Some end) q =
        let r = found_record Others O s.other b v.other end q in
        subst
        (λ (k : ℕ). Rule f R O s (record { feed = record { response = s.response; other = k; run = 0 }; answer = Handed Others }) (part s.other (end - s.other) O))
        r.after (hands_other v h d (part s.other (end - s.other) O) r.stands)

    follows_due : IsBytes R → IsBytes O → (w : Option Waiting) → Due w R O s → Rule f R O s (step_of w R O s) (passed R O s (step_of w R O s) (list_served (step_of w R O s).answer))
    follows_due b c (Some Responses) d = follows_response b d (found_at Responses R s.response) refl
    follows_due b c (Some Others) d = follows_other c d (found_at Others O s.other) refl
    follows_due b c None d = both_empty v h d

  pub follows : IsBytes R → IsBytes O → Rule f R O s (feeding f R O s) (fed_part f R O s)
  unfolding fed_part
  follows b c =
      by_outcome f R O s (λ t. Rule f R O s t (passed R O s t (list_served t.answer))) not_valid too_long
      (λ v h. follows_due v h b c (due_of (length R) (length O) s) (due_known R O s v.run))

  -- ---- the rules give no other answer

  abbrev Same : Step → List ℕ → Type 0
  Same t p = (t ≡ feeding f R O s) × (p ≡ fed_part f R O s)

  same : (t : Step) (p : List ℕ) → t ≡ feeding f R O s → p ≡ passed R O s t (list_served t.answer) → Same t p
  same t p e q = (e, q ∙ part_by t e)

  size_behind : (a k : ℕ) → (a + k) - a ≡ k
  size_behind a k = omega arith

  pub only : IsBytes R → IsBytes O → (t : Step) (p : List ℕ) → Rule f R O s t p → Same t p
  only b c _ _ (not_valid n) = same (refusing s Neither InvalidState 0) [] (step_by_verdict (Refused InvalidState 0) (invalid n)) refl
  only b c _ _ (too_long v n) = same (refusing s Neither TooLong 0) [] (step_by_verdict (Refused TooLong 0) (long v n)) refl
  only b c _ _ (hands_response v h d p r n k) =
      same (record { feed = record { response = s.response + length p; other = s.other; run = n }; answer = Handed Responses }) p
      (rw (run_is O s n k) (ap (response_step (length O) s) (sym (record_found Responses R s.response p r)) ∙ step_by_list v h (Some Responses) d))
      (rw (size_behind s.response (length p)) (sym r.stands))
  only b c _ _ (hands_other v h d p r) =
      same (record { feed = record { response = s.response; other = s.other + length p; run = 0 }; answer = Handed Others }) p
      (ap (other_step s) (sym (record_found Others O s.other p r)) ∙ step_by_list v h (Some Others) d)
      (rw (size_behind s.other (length p)) (sym r.stands))
  only b c _ _ (both_empty v h d) = same (empty_step s) [] (step_by_list v h None d) refl
  only b c _ _ (response_broken v h d n) =
      same (refusing s (Some Responses) BrokenRecord s.response) []
      (ap (response_step (length O) s) (sym (none_found Responses R s.response b v.response n)) ∙ step_by_list v h (Some Responses) d) refl
  only b c _ _ (other_broken v h d n) =
      same (refusing s (Some Others) BrokenRecord s.other) []
      (ap (other_step s) (sym (none_found Others O s.other c v.other n)) ∙ step_by_list v h (Some Others) d) refl
