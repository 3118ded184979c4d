-- A reading and a judging refuse with the first of the faults of the checks. Assumes nothing.
use Prim.Native.Nat.{ℕ}
use mathlib.Core.Path.{◌≡◌, refl, subst}
use mathlib.Core.List.{List}
use mathlib.Core.Logic.{inl, inr, ◌↔◌}
use native.Mathlib.Omega.{arith}
use lib.ListN.{length}
use borrow.Author.Tests.{lt-leb, ne_eqb, leb-false, eqb-false}
use Rattle.cause.specs.Checks.{first_fault, Verdict, Accepted, Refused}
use Rattle.cause.specs.declared.Cause.{Cause}
use Rattle.container.specs.Layout.{Format, format_of, msg_start}
use Rattle.container.specs.Grants.{header_grant}
use Rattle.container.specs.declared.grant.Grant.{Grant}
use Rattle.reader.specs.Reading.{carried, state_checks, judge_checks, read_checks, records, answer_of, reading, judge_answer_of, judging}
use Rattle.reader.specs.declared.reader.Reader.{Reader}
use Rattle.reader.specs.declared.reader.Answer.TheVariants as answer
use Rattle.reader.specs.declared.reader.JudgeAnswer.TheVariants as judge
use Rattle.reader.proofs.AnswerLaws.{read_answer_refused, judge_answer_refused, judge_answer_accepted}
use Rattle.cause.proofs.NamedLaws.{turn_of}
use Rattle.reader.proofs.CellFaults.{ReadCells}
use Rattle.cause.proofs.FirstLaws.{Fails, First, None, Lists, rises_from, listed_first, listed_none}
use Rattle.cause.proofs.RankedLaws.{ranked, tests_ranked, fails_as, Ranked, chain}
use Rattle.placement.proofs.ContainerFaults.{container_sites, container_complete, container_rises, container_sound}
use Rattle.std.specs.Prelude.{Ok, Err}

module _ (s : Reader) (c : List ℕ) where
  abbrev fm : Format
  fm = format_of s.format

  abbrev m : List ℕ
  m = carried s

  module _ (n : ℕ) where
    read_complete : (k : Cause) (p : ℕ) → ReadCells s c n k p → Fails (turn_of k p) k p (ranked (read_checks s c n))
    unfolding read_checks state_checks
    read_complete k p (ReadCells.invalid e) = inl (refl, fails_as _ _ _ e)
    read_complete k p (ReadCells.size d) = inr (inl (refl, fails_as _ _ _ (ne_eqb (length c) 256 d)))
    read_complete k p (ReadCells.small h) = inr (inr (inl (refl, fails_as _ _ _ (lt-leb 352 n h))))
    read_complete k p (ReadCells.container f) = inr (inr (inr (container_complete fm m c _ _ f)))

    read_lists : Lists (Ranked (ReadCells s c n)) (read_checks s c n)
    unfolding read_checks state_checks
    read_lists = record {
      sites = ranked (read_checks s c n);
      last = 500;
      same = tests_ranked (read_checks s c n);
      rises = (omega arith, (omega arith, (omega arith, container_rises fm m c)));
      sounds = (
        λ t. (refl, ReadCells.invalid t),
        (
          λ t. (refl, ReadCells.size (eqb-false (length c) 256 t)),
          (λ t. (refl, ReadCells.small (leb-false 352 n t)), container_sound fm m c (Ranked (ReadCells s c n)) (λ k p f. (refl, ReadCells.container f))),
        ),
      );
      complete = λ r k p f. subst (λ (t : ℕ). Fails t k p (ranked (read_checks s c n))) f.0 (read_complete k p f.1);
    }

    refused_as : (v : Verdict) (a : ℕ) (g : Grant) (k : Cause) (p : ℕ) → (answer_of v a g ≡ answer.Refused k p) ↔ (v ≡ Refused k p)
    refused_as v a g k p = (read_answer_refused v a g k p, λ e. rw e)

    done_as : (v : Verdict) (a : ℕ) (g : Grant) → (answer_of v a g ≡ answer.Accepted a g) ↔ (v ≡ Accepted)
    done_as (Ok _) a g = (λ e. refl, λ e. refl)
    done_as (Err fault) a g = (λ e. let z : ◌≡◌ {A = ℕ} 0 1 = cc in absurd (omega arith), λ e. let z : ◌≡◌ {A = ℕ} 0 1 = cc in absurd (omega arith))

    -- a reading refuses with a cause and a place exactly where it is the first fault
    pub read_first : (k : Cause) (p : ℕ) → ((reading s c n).answer ≡ answer.Refused k p) ↔ First (Ranked (ReadCells s c n)) k p
    unfolding reading
    read_first k p =
        chain (refused_as (first_fault (read_checks s c n)) (length (records s c)) (header_grant fm c) k p)
        (listed_first read_lists k p)

    -- and accepts exactly where there is none
    pub read_none : ((reading s c n).answer ≡ answer.Accepted (length (records s c)) (header_grant fm c)) ↔ None (Ranked (ReadCells s c n))
    unfolding reading
    read_none =
        chain (done_as (first_fault (read_checks s c n)) (length (records s c)) (header_grant fm c))
        (listed_none read_lists)

  judge_complete : (k : Cause) (p : ℕ) → ReadCells s c 352 k p → Fails (turn_of k p) k p (ranked (judge_checks s c))
  unfolding judge_checks state_checks
  judge_complete k p (ReadCells.invalid e) = inl (refl, fails_as _ _ _ e)
  judge_complete k p (ReadCells.size d) = inr (inl (refl, fails_as _ _ _ (ne_eqb (length c) 256 d)))
  judge_complete k p (ReadCells.small h) = absurd (omega arith)
  judge_complete k p (ReadCells.container f) = inr (inr (container_complete fm m c _ _ f))

  judge_lists : Lists (Ranked (ReadCells s c 352)) (judge_checks s c)
  unfolding judge_checks state_checks
  judge_lists = record {
    sites = ranked (judge_checks s c);
    last = 500;
    same = tests_ranked (judge_checks s c);
    rises = (omega arith, (omega arith, rises_from 3 4 (container_sites fm m c) 500 (omega arith) (container_rises fm m c)));
    sounds = (
      λ t. (refl, ReadCells.invalid t),
      (λ t. (refl, ReadCells.size (eqb-false (length c) 256 t)), container_sound fm m c (Ranked (ReadCells s c 352)) (λ k p f. (refl, ReadCells.container f))),
    );
    complete = λ r k p f. subst (λ (t : ℕ). Fails t k p (ranked (judge_checks s c))) f.0 (judge_complete k p f.1);
  }

  judged_as : (v : Verdict) (g : Grant) (w : ℕ) (k : Cause) (p : ℕ) → (judge_answer_of v g w ≡ judge.Refused k p) ↔ (v ≡ Refused k p)
  judged_as v g w k p = (judge_answer_refused v g w k p, λ e. rw e)

  accepted_as : (v : Verdict) (g : Grant) (w : ℕ) → (judge_answer_of v g w ≡ judge.Accepted g w) ↔ (v ≡ Accepted)
  accepted_as v g w = (λ e. (judge_answer_accepted v g w g w e).0, λ e. rw e)

  pub judge_first : (k : Cause) (p : ℕ) → ((judging s c).answer ≡ judge.Refused k p) ↔ First (Ranked (ReadCells s c 352)) k p
  unfolding judging
  judge_first k p =
      chain (judged_as (first_fault (judge_checks s c)) (header_grant fm c) (msg_start fm c) k p)
      (listed_first judge_lists k p)

  pub judge_none : ((judging s c).answer ≡ judge.Accepted (header_grant fm c) (msg_start fm c)) ↔ None (Ranked (ReadCells s c 352))
  unfolding judging
  judge_none =
      chain (accepted_as (first_fault (judge_checks s c)) (header_grant fm c) (msg_start fm c))
      (listed_none judge_lists)
