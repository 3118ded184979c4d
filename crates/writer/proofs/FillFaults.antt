-- A fill refuses with the first of the faults of the checks, and so does the check of a list. Assumes nothing; a list is of bytes.
use Prim.Native.Nat.{ℕ, suc, ◌+◌, ◌-◌, ◌≤◌, ◌<◌}
use mathlib.Core.Path.{◌≡◌, refl, sym, ap, ◌∙◌, subst}
use mathlib.Core.Bool.{true, false, ◌&&◌}
use mathlib.Core.List.{List, [], ◌∷◌, ◌++◌, append_assoc}
use mathlib.Core.Logic.{◌⊎◌, inl, inr, ⊎_elim, ◌↔◌}
use native.Mathlib.Omega.{arith}
use lib.ListN.{length, take, drop, length-append, length-take, length-drop, take-append-drop}
use lib.Seq.{drop-drop, drop_at, drop-append_seam}
use lib.Dec.{eqb, ltb, leb}
use borrow.Author.Tests.{le-ltb, lt-leb, ne_eqb, ltb-false, leb-false, eqb-false}
use Rattle.lists.specs.Parts.{part, IsBytes}
use Rattle.lists.proofs.Tests.{cases, T_true, true_t}
use Rattle.lists.proofs.PartLaws.{bytes_drop}
use Rattle.cause.specs.Checks.{Check, check, first_fault, or_else, Verdict, Accepted, Refused}
use Rattle.cause.proofs.CheckLaws.{first_append}
use Rattle.cause.specs.declared.Cause.{Cause}
use Rattle.cause.specs.declared.Cause.TheVariants.{BrokenRecord}
use Rattle.container.specs.Layout.{format_of}
use Rattle.container.specs.Grants.{plane_allowed}
use Rattle.container.specs.declared.grant.Grant.{Grant}
use Rattle.message.specs.Heads.{is_message}
use Rattle.record.specs.Number.{number, read_number}
use Rattle.record.specs.Records.{record_of, records_of, AllMessages, cut, first_of, message_of, fault_from, list_fault}
use Rattle.record.specs.declared.number.Number.{Number}
use Rattle.record.specs.declared.list.First as list
use Rattle.record.specs.declared.list.First.TheVariants.{Empty, Bad, Whole}
use Rattle.record.proofs.RecordLaws.{first_splits, first_written, fault_next, fault_bad, fault_start, list_broken}
use Rattle.writer.specs.Laying.{used_of}
use Rattle.writer.specs.Filling.{tail_of, call_checks, fill_fault, answer_of, filling}
use Rattle.writer.specs.declared.writer.Writer.{Writer}
use Rattle.writer.specs.declared.writer.Answer.TheVariants as answer
use Rattle.writer.proofs.AnswerLaws.{fill_answer_refused, fill_answer_accepted}
use Rattle.cause.proofs.NamedLaws.{turn_of}
use Rattle.writer.proofs.FillCells.{ListCells, FillCells, long, broken}
use Rattle.cause.proofs.FirstLaws.{Fails, Rises, rises_from, Sounds, First, None as NoFault, Lists, listed_first, listed_none}
use Rattle.cause.proofs.RankedLaws.{ranked, tests_ranked, fails_as, Ranked, chain}
use Rattle.lists.proofs.FailLaws.{guard_fails, fail_guard, and_fails, fail_left, fail_right, not_zero, zero_not}
use Rattle.std.specs.Prelude.{Ok, Err, Option, Some, None}

-- ---- a broken record

no_empty : (l : List ℕ) (r : Option Number) → cut l r ≡ Empty → ⊥
no_empty l None e = let z : ◌≡◌ {A = ℕ} 0 1 = cc in omega arith
no_empty l (Some number) e = ⊎_elim yes no (cases (leb (number.used + number.value) (length l) && is_message (part number.used number.value l)))
  where
    yes : (leb (number.used + number.value) (length l) && is_message (part number.used number.value l)) ≡ true → ⊥
    yes t = let f : Whole number.used (number.used + number.value) ≡ Empty = rw t at e in let z : ◌≡◌ {A = ℕ} 0 1 = cc in omega arith

    no : (leb (number.used + number.value) (length l) && is_message (part number.used number.value l)) ≡ false → ⊥
    no t = let f : Bad ≡ Empty = rw t at e in let z : ◌≡◌ {A = ℕ} 0 1 = cc in omega arith

-- nothing that is no record is read as one
bad_first : (l : List ℕ) → IsBytes l → 0 < length l → ((m more : List ℕ) → is_message m ≡ true → l ≡ record_of m ++ more → ⊥) → first_of l ≡ Bad
bad_first [] h some never = absurd (omega arith)
bad_first (b ∷ l) h some never = by (first_of (b ∷ l)) refl
  where
    by : (f : list.First) → first_of (b ∷ l) ≡ f → first_of (b ∷ l) ≡ Bad
    by Empty e = absurd (no_empty (b ∷ l) (read_number (b ∷ l)) e)
    by Bad e = e
    by (Whole start end) e =
        let w = first_splits (b ∷ l) h start end e in
        absurd (never (message_of (b ∷ l) start end) (drop end (b ∷ l)) w.message w.front)

-- what is broken is no record
first_bad : (l : List ℕ) → first_of l ≡ Bad → (m more : List ℕ) → is_message m ≡ true → l ≡ record_of m ++ more → ⊥
first_bad l e m more h f =
    let w : first_of l ≡ Whole (length (number (length m))) (length (number (length m)) + length m) = ap first_of f ∙ first_written m more h in
    let z : ◌≡◌ {A = ℕ} 0 1 = cc in omega arith

some_bad : (l : List ℕ) → first_of l ≡ Bad → 0 < length l
some_bad [] e = let z : ◌≡◌ {A = ℕ} 0 1 = cc in absurd (omega arith)
some_bad (b ∷ l) e = omega arith

-- behind records of messages, what is broken is found
found_broken : (ms : List (List ℕ)) (l : List ℕ) (at : ℕ) (rest : List ℕ) → AllMessages ms → drop at l ≡ records_of ms ++ rest → first_of rest ≡ Bad
    → fault_from (suc (length l - at)) l at ≡ Refused BrokenRecord (at + length (records_of ms))
found_broken [] l at rest a e b = fault_bad l at (ap first_of e ∙ b) ∙ ap (Refused BrokenRecord) (omega arith)
found_broken (m ∷ ms) l at rest a e b =
    let u : ℕ = length (number (length m)) in
    let f : drop at l ≡ record_of m ++ (records_of ms ++ rest) = e ∙ append_assoc (record_of m) (records_of ms) rest in
    let first : first_of (drop at l) ≡ Whole u (u + length m) = ap first_of f ∙ first_written m (records_of ms ++ rest) a.0 in
    let behind : drop (at + (u + length m)) l ≡ records_of ms ++ rest =
    sym (drop-drop (u + length m) at l) ∙ ap (drop (u + length m)) f
    ∙ drop_at (record_of m) (records_of ms ++ rest) (u + length m) (length-append (number (length m)) m) in
    let n : length (record_of m ++ records_of ms) ≡ (u + length m) + length (records_of ms) = length-append (record_of m) (records_of ms) ∙ ap (λ (x : ℕ). x + length (records_of ms)) (length-append (number (length m)) m) in
    fault_next l at u (u + length m) first ∙ found_broken ms l (at + (u + length m)) rest a.1 behind b ∙ ap (Refused BrokenRecord) (omega arith)

-- a verdict as a list of checks
abbrev only : Verdict → List Check
only (Ok _) = []
only (Err fault) = check false fault.cause fault.place ∷ []

only_first : (v : Verdict) → first_fault (only v) ≡ v
only_first (Ok _) = refl
only_first (Err fault) = refl

-- ---- the check of a list
module _ (l : List ℕ) (h : IsBytes l) where
  -- what it finds is a broken record
  broken_fault : (k : Cause) (p : ℕ) → list_fault l ≡ Refused k p → (k ≡ BrokenRecord) × ListCells l BrokenRecord p
  broken_fault k p e =
      let b = list_broken l k p h e in
      let r = b.1 in
      let some = some_bad (drop p l) b.2 in
      let ld = length-drop p l in
      let lt = length-take p l in
      let place : length (records_of r.messages) ≡ p = ap length (sym r.joined) ∙ short (omega arith) in
      let split : l ≡ records_of r.messages ++ drop p l = sym (take-append-drop p l) ∙ ap (λ (x : List ℕ). x ++ drop p l) r.joined in
      (b.0, subst (ListCells l BrokenRecord) place (broken r.messages (drop p l) r.all split some (first_bad (drop p l) b.2)))
    where
      short : p ≤ length l → length (take p l) ≡ p
      short g = let lt = length-take p l in omega arith

  fault_broken : (ms : List (List ℕ)) (rest : List ℕ) → AllMessages ms → l ≡ records_of ms ++ rest → 0 < length rest
      → ((m more : List ℕ) → is_message m ≡ true → rest ≡ record_of m ++ more → ⊥) → list_fault l ≡ Refused BrokenRecord (length (records_of ms))
  fault_broken ms rest a e some never =
      fault_start l ∙ found_broken ms l 0 rest a e (bad_first rest bytes some never) ∙ ap (Refused BrokenRecord) (omega arith)
    where
      bytes : IsBytes rest
      bytes = subst IsBytes (ap (drop (length (records_of ms))) e ∙ drop-append_seam (records_of ms) rest) (bytes_drop l (length (records_of ms)) h)

  list_sounds : (R : ℕ → Cause → ℕ → Type 0) → ((k : Cause) (p : ℕ) → ListCells l k p → R (turn_of k p) k p) → (v : Verdict) → list_fault l ≡ v → Sounds R (ranked (only v))
  list_sounds R has (Ok _) e = tt
  list_sounds R has (Err fault) e = (λ t. let b = broken_fault fault.cause fault.place e in has fault.cause fault.place (subst (λ (x : Cause). ListCells l x fault.place) (sym b.0) b.1), tt)

  abbrev last : Verdict → ℕ
  last (Ok _) = 800
  last (Err fault) = suc (turn_of fault.cause fault.place)

  list_rises : (v : Verdict) → list_fault l ≡ v → Rises 800 (ranked (only v)) (last v)
  list_rises (Ok _) e = omega arith
  list_rises (Err fault) e = let b = (broken_fault fault.cause fault.place e).0 in let r : turn_of fault.cause fault.place ≡ 800 + fault.place = ap (λ (x : Cause). turn_of x fault.place) b in (omega arith, omega arith)

  list_complete : (k : Cause) (p : ℕ) → ListCells l k p → Fails (turn_of k p) k p (ranked (only (list_fault l)))
  list_complete k p (broken ms rest a e some never) = fails (list_fault l) (length (records_of ms)) (fault_broken ms rest a e some never)
    where
      fails : (v : Verdict) (p : ℕ) → v ≡ Refused BrokenRecord p → Fails (turn_of BrokenRecord p) BrokenRecord p (ranked (only v))
      fails v p e = subst (λ (x : Verdict). Fails (turn_of BrokenRecord p) BrokenRecord p (ranked (only x))) (sym e) (inl (refl, refl))

  list_lists : Lists (Ranked (ListCells l)) (only (list_fault l))
  list_lists = record {
    sites = ranked (only (list_fault l));
    last = last (list_fault l);
    same = tests_ranked (only (list_fault l));
    rises = rises_from 0 800 (ranked (only (list_fault l))) (last (list_fault l)) (omega arith) (list_rises (list_fault l) refl);
    sounds = list_sounds (Ranked (ListCells l)) (λ k p f. (refl, f)) (list_fault l) refl;
    complete = λ r k p f. subst (λ (t : ℕ). Fails t k p (ranked (only (list_fault l)))) f.0 (list_complete k p f.1);
  }

  found_as : (v : Verdict) → (list_fault l ≡ v) ↔ (first_fault (only (list_fault l)) ≡ v)
  found_as v = (λ e. only_first (list_fault l) ∙ e, λ e. sym (only_first (list_fault l)) ∙ e)

  -- the check of a list finds a cause and a place exactly where it is the first fault
  pub list_first : (k : Cause) (p : ℕ) → (list_fault l ≡ Refused k p) ↔ First (Ranked (ListCells l)) k p
  list_first k p = chain (found_as (Refused k p)) (listed_first list_lists k p)

  -- and nothing exactly where there is none
  pub list_none : (list_fault l ≡ Accepted) ↔ NoFault (Ranked (ListCells l))
  list_none = chain (found_as Accepted) (listed_none list_lists)

-- ---- a fill
module _ (w : Writer) (l : List ℕ) (n : Grant) (size : ℕ) (h : IsBytes l) where
  abbrev Of : Cause → ℕ → Type 0
  Of = FillCells w l n size

  abbrev calls : List Check
  calls = call_checks w (length l) n size

  fill_checks : fill_fault w l n size ≡ first_fault (calls ++ only (list_fault l))
  unfolding fill_fault
  fill_checks = ap (or_else (first_fault calls)) (sym (only_first (list_fault l))) ∙ sym (first_append calls (only (list_fault l)))

  form_fault : (ltb n.rp 8 && plane_allowed n) ≡ false → ((n.shc ≡ true) × (0 < n.rp)) ⊎ (7 < n.rp)
  form_fault e = ⊎_elim (λ a. inr (ltb-false n.rp 8 a)) (λ b. let g = guard_fails n.shc (eqb n.rp 0) b in inl (T_true n.shc g.0, not_zero n.rp g.1)) (and_fails (ltb n.rp 8) (plane_allowed n) e)

  fault_form : ((n.shc ≡ true) × (0 < n.rp)) ⊎ (7 < n.rp) → (ltb n.rp 8 && plane_allowed n) ≡ false
  fault_form (inl f) = fail_right (ltb n.rp 8) (plane_allowed n) (fail_guard n.shc (eqb n.rp 0) (true_t n.shc f.0) (zero_not n.rp f.1))
  fault_form (inr g) = fail_left (ltb n.rp 8) (plane_allowed n) (le-ltb n.rp 8 g)

  fill_complete : (k : Cause) (p : ℕ) → Of k p → Fails (turn_of k p) k p (ranked (calls ++ only (list_fault l)))
  unfolding call_checks
  fill_complete k p (FillCells.invalid e) = inl (refl, fails_as _ _ _ e)
  fill_complete k p (FillCells.size e) = inr (inl (refl, fails_as _ _ _ (ne_eqb size 256 e)))
  fill_complete k p (long g) = inr (inr (inl (refl, fails_as _ _ _ (lt-leb (length l) 4096 g))))
  fill_complete k p (FillCells.form g) = inr (inr (inr (inl (refl, fails_as _ _ _ (fault_form g)))))
  fill_complete k p (FillCells.list f) = inr (inr (inr (inr (list_complete l h _ _ f))))

  fill_lists : Lists (Ranked Of) (calls ++ only (list_fault l))
  unfolding call_checks
  fill_lists = record {
    sites = ranked (calls ++ only (list_fault l));
    last = last l h (list_fault l);
    same = tests_ranked (calls ++ only (list_fault l));
    rises = (omega arith, (omega arith, (omega arith, (omega arith, rises_from 7 800 (ranked (only (list_fault l))) (last l h (list_fault l)) (omega arith) (list_rises l h (list_fault l) refl)))));
    sounds = (
      λ t. (refl, FillCells.invalid t),
      (
        λ t. (refl, FillCells.size (eqb-false size 256 t)),
        (λ t. (refl, long (leb-false (length l) 4096 t)), (λ t. (refl, FillCells.form (form_fault t)), list_sounds l h (Ranked Of) (λ k p f. (refl, FillCells.list f)) (list_fault l) refl)),
      ),
    );
    complete = λ r k p f. subst (λ (t : ℕ). Fails t k p (ranked (calls ++ only (list_fault l)))) f.0 (fill_complete k p f.1);
  }

  refused_as : (v : Verdict) (a : ℕ) (k : Cause) (p : ℕ) → (answer_of v a ≡ answer.Refused k p) ↔ (v ≡ Refused k p)
  refused_as v a k p = (fill_answer_refused v a k p, λ e. rw e)

  filled_as : (v : Verdict) (a : ℕ) → (answer_of v a ≡ answer.Accepted a) ↔ (v ≡ Accepted)
  filled_as v a = (λ e. (fill_answer_accepted v a a e).0, λ e. rw e)

  by_checks : (v : Verdict) → (fill_fault w l n size ≡ v) ↔ (first_fault (calls ++ only (list_fault l)) ≡ v)
  by_checks v = (λ e. sym fill_checks ∙ e, λ e. fill_checks ∙ e)

  -- a fill refuses with a cause and a place exactly where it is the first fault
  pub fill_first : (k : Cause) (p : ℕ) → ((filling w l n size).answer ≡ answer.Refused k p) ↔ First (Ranked Of) k p
  unfolding filling
  fill_first k p =
      chain (refused_as (fill_fault w l n size) (used_of (format_of w.format) n (tail_of w) l) k p)
      (chain (by_checks (Refused k p)) (listed_first fill_lists k p))

  -- and fills exactly where there is none
  pub fill_none : ((filling w l n size).answer ≡ answer.Accepted (used_of (format_of w.format) n (tail_of w) l)) ↔ NoFault (Ranked Of)
  unfolding filling
  fill_none =
      chain (filled_as (fill_fault w l n size) (used_of (format_of w.format) n (tail_of w) l))
      (chain (by_checks Accepted) (listed_none fill_lists))
