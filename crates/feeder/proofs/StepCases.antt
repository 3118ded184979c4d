-- An ask, case by case, as the code makes it. Assumes nothing.
use Prim.Native.Nat.{ℕ, ◌≤◌, ◌<◌}
use mathlib.Core.Path.{◌≡◌, refl, sym, ap, ◌∙◌, subst}
use mathlib.Core.Bool.{true, false, ◌&&◌}
use mathlib.Core.List.{List}
use mathlib.Core.Logic.{⊎_elim}
use native.Mathlib.Omega.{arith}
use lib.ListN.{length}
use lib.Dec.{ltb, leb}
use borrow.Author.Tests.{lt-ltb, le-leb, lt-leb, leb-true, ltb-true}
use Rattle.lists.proofs.Order.{lt_or_le}
use Rattle.lists.proofs.Tests.{cases, never_both, and_left, and_right}
use Rattle.cause.specs.Checks.{first_fault, Verdict, Accepted, Refused}
use Rattle.cause.specs.declared.Cause.{Cause}
use Rattle.cause.specs.declared.Cause.TheVariants.{BrokenRecord, TooLong, InvalidState}
use Rattle.cause.proofs.CheckLaws.{accepted_pass}
use Rattle.feeder.specs.Due.{Neither, list_of, position_of, due_of, found_at}
use Rattle.feeder.specs.Feeding.{feed_ok, call_checks, refusing, response_step, other_step, due_step, empty_step, step_of, step_by, feeding}
use Rattle.feeder.specs.Rules.{Valid, Short}
use Rattle.feeder.specs.declared.found.Waiting.{Waiting}
use Rattle.feeder.specs.declared.found.Waiting.TheVariants.{Responses, Others}
use Rattle.feeder.specs.declared.feed.Feed.{Feed}
use Rattle.feeder.specs.declared.feed.Step.{Step}
use Rattle.std.specs.Prelude.{Some, None, Option}

-- ---- the checks of an ask

module _ (f r o : ℕ) (s : Feed) where
  pub call_invalid : feed_ok f r o s ≡ false → Refused InvalidState 0 ≡ first_fault (call_checks f r o s)
  unfolding call_checks
  call_invalid e = rw e

  module _ (e : feed_ok f r o s ≡ true) where
    pub call_responses : 4096 < r → Refused TooLong 0 ≡ first_fault (call_checks f r o s)
    unfolding call_checks
    call_responses h = rw (e, lt-leb r 4096 h)

    module _ (h : r ≤ 4096) where
      pub call_others : 4096 < o → Refused TooLong 0 ≡ first_fault (call_checks f r o s)
      unfolding call_checks
      call_others k = rw (e, le-leb r 4096 h, lt-leb o 4096 k)

      pub call_accepted : o ≤ 4096 → Accepted ≡ first_fault (call_checks f r o s)
      unfolding call_checks
      call_accepted k = rw (e, le-leb r 4096 h, le-leb o 4096 k)

-- what a valid feed and a sound verdict say
module _ (f : ℕ) (R O : List ℕ) (s : Feed) where
  pub feed_valid : feed_ok f (length R) (length O) s ≡ true → Valid f R O s
  feed_valid e =
      let a = and_right (ltb f 2) (leb s.response (length R) && (leb s.other (length O) && leb s.run 4)) e in
      let b = and_right (leb s.response (length R)) (leb s.other (length O) && leb s.run 4) a in
      record {
        format = ltb-true f 2 (and_left (ltb f 2) (leb s.response (length R) && (leb s.other (length O) && leb s.run 4)) e);
        response = leb-true s.response (length R) (and_left (leb s.response (length R)) (leb s.other (length O) && leb s.run 4) a);
        other = leb-true s.other (length O) (and_left (leb s.other (length O)) (leb s.run 4) b);
        run = leb-true s.run 4 (and_right (leb s.other (length O)) (leb s.run 4) b);
      }

  pub valid_feed : Valid f R O s → feed_ok f (length R) (length O) s ≡ true
  valid_feed v =
      rw (lt-ltb f 2 v.format, le-leb s.response (length R) v.response, le-leb s.other (length O) v.other, le-leb s.run 4 v.run)

  pub checks_accepted_valid : first_fault (call_checks f (length R) (length O) s) ≡ Accepted → Valid f R O s
  unfolding call_checks
  checks_accepted_valid e = feed_valid (accepted_pass (call_checks f (length R) (length O) s) e).0

-- ---- the step, by verdict and list due

module _ (f : ℕ) (R O : List ℕ) (s : Feed) (v : Verdict) (ev : v ≡ first_fault (call_checks f (length R) (length O) s)) where
  pub step_refused : (c : Cause) (p : ℕ) → v ≡ Refused c p → (t : Step) → t ≡ refusing s Neither c p → t ≡ feeding f R O s
  unfolding feeding
  step_refused c p e t et = et ∙ rw (← ev, e)

  module _ (e : v ≡ Accepted) where
    pub valid : Valid f R O s
    valid = checks_accepted_valid f R O s (sym ev ∙ e)

    module _ (d : Option Waiting) (ed : d ≡ due_of (length R) (length O) s) where
      pub step_due : (w : Option Waiting) → d ≡ w → (t : Step) → t ≡ step_of w R O s → t ≡ feeding f R O s
      unfolding feeding
      step_due w q t et = et ∙ rw (← ev, e, ← ed, q)

      pub step_list : (w : Waiting) → d ≡ Some w → (x : Option ℕ) → x ≡ found_at w (list_of w R O) (position_of w s) → (t : Step) → t ≡ due_step w (length O) s x → t ≡ feeding f R O s
      step_list Responses q x ex t et = step_due (Some Responses) q t (et ∙ ap (response_step (length O) s) ex)
      step_list Others q x ex t et = step_due (Some Others) q t (et ∙ ap (other_step s) ex)

-- ---- the outcomes of an ask

module _ (f : ℕ) (R O : List ℕ) (s : Feed) where
  abbrev verdict : Verdict
  verdict = first_fault (call_checks f (length R) (length O) s)

  abbrev given_step : Step
  given_step = step_of (due_of (length R) (length O) s) R O s

  -- what holds of a refusal by 19, of one by 18 and of what the list due gives holds of the answer
  pub by_outcome : (P : Step → Type 0) → ((Valid f R O s → ⊥) → P (refusing s Neither InvalidState 0))
      → (Valid f R O s → (Short R O → ⊥) → P (refusing s Neither TooLong 0)) → (Valid f R O s → Short R O → P given_step) → P (feeding f R O s)
  unfolding feeding
  by_outcome P invalid long due = ⊎_elim good bad (cases (feed_ok f (length R) (length O) s))
    where
      known : (v : Verdict) → v ≡ verdict → P (step_by v s given_step) → P (step_by verdict s given_step)
      known v e x = subst (λ (k : Verdict). P (step_by k s given_step)) e x

      bad : feed_ok f (length R) (length O) s ≡ false → P (step_by verdict s given_step)
      bad e = known (Refused InvalidState 0) (call_invalid f (length R) (length O) s e) (invalid (λ v. never_both e (valid_feed f R O s v)))

      good : feed_ok f (length R) (length O) s ≡ true → P (step_by verdict s given_step)
      good e = ⊎_elim responses_short responses_long (lt_or_le (length R) 4097)
        where
          v : Valid f R O s
          v = feed_valid f R O s e

          responses_long : 4097 ≤ length R → P (step_by verdict s given_step)
          responses_long a = known (Refused TooLong 0) (call_responses f (length R) (length O) s e (omega arith)) (long v (λ h. let k = h.0 in omega arith))

          responses_short : length R < 4097 → P (step_by verdict s given_step)
          responses_short a =
              ⊎_elim (λ (b : length O < 4097). known Accepted (call_accepted f (length R) (length O) s e (omega arith) (omega arith)) (due v (omega arith, omega arith)))
              (λ (b : 4097 ≤ length O).
              known (Refused TooLong 0) (call_others f (length R) (length O) s e (omega arith) (omega arith)) (long v (λ h. let k = h.1 in omega arith)))
              (lt_or_le (length O) 4097)

  -- what holds of a broken record, of one handed out of each list and of none holds of what the list due gives
  pub by_found : (P : Step → Type 0) → P (refusing s (Some Responses) BrokenRecord s.response) → P (refusing s (Some Others) BrokenRecord s.other)
      → ((end : ℕ) → found_at Responses R s.response ≡ Some end → P (response_step (length O) s (Some end)))
      → ((end : ℕ) → found_at Others O s.other ≡ Some end → P (other_step s (Some end))) → P (empty_step s) → (w : Option Waiting) → P (step_of w R O s)
  by_found P broken-response broken-other response other empty (Some Responses) = by (found_at Responses R s.response) refl
    where
      by : (x : Option ℕ) → found_at Responses R s.response ≡ x → P (response_step (length O) s x)
      by None e = broken-response
      by (Some end) e = response end e
  by_found P broken-response broken-other response other empty (Some Others) = by (found_at Others O s.other) refl
    where
      by : (x : Option ℕ) → found_at Others O s.other ≡ x → P (other_step s x)
      by None e = broken-other
      by (Some end) e = other end e
  by_found P broken-response broken-other response other empty None = empty
