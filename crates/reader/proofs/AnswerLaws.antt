-- Answers by verdicts: what a refusal and an acceptance say of the checks, and what the checks say of them. Assumes nothing.
use Prim.Native.Nat.{ℕ, ◌≤◌, ◌<◌}
use mathlib.Core.Path.{◌≡◌, refl, sym, ap, ◌∙◌}
use mathlib.Core.Bool.{true}
use mathlib.Core.List.{List, ◌∷◌}
use native.Mathlib.Omega.{arith}
use lib.ListN.{length}
use lib.Dec.{eqb, leb}
use borrow.Author.Tests.{le-leb, lt-leb, eq-eqb, eqb-true}
use Rattle.lists.specs.Parts.{put}
use Rattle.cause.specs.Checks.{check, first_fault, when_accepted, or_else, Verdict, Accepted, Refused}
use Rattle.cause.specs.declared.Cause.{Cause}
use Rattle.cause.specs.declared.Cause.TheVariants.{RoomTooSmall}
use Rattle.cause.proofs.CheckLaws.{first_append, accepted_pass}
use Rattle.container.specs.Layout.{format_of, msg_start}
use Rattle.container.specs.Grants.{header_grant}
use Rattle.container.specs.declared.grant.Grant.{Grant}
use Rattle.reader.specs.Reading.{reader_ok, entry_checks, state_checks, judge_checks, read_checks, next_reader, records, answer_of, reading, read_room, judge_answer_of, judging}
use Rattle.reader.specs.declared.reader.Reader.{Reader}
use Rattle.reader.specs.declared.reader.Answer.TheVariants as answer
use Rattle.reader.specs.declared.reader.Step.{Step}
use Rattle.reader.specs.declared.reader.JudgeAnswer.TheVariants as judge
use Rattle.reader.specs.declared.reader.Judged.{Judged}
use Rattle.std.specs.Prelude.{Ok, Err}

-- ---- from an answer to its verdict

pub read_answer_refused : (v : Verdict) (n : ℕ) (g : Grant) (k : Cause) (p : ℕ) → answer_of v n g ≡ answer.Refused k p → v ≡ Refused k p
read_answer_refused (Ok _) n g k p e = let z : ◌≡◌ {A = ℕ} 0 1 = cc in absurd (omega arith)
read_answer_refused (Err fault) n g k p e = let same : fault.cause ≡ k = cc in let there : fault.place ≡ p = cc in λ i. Refused (same i) (there i)

pub judge_answer_refused : (v : Verdict) (g : Grant) (w : ℕ) (k : Cause) (p : ℕ) → judge_answer_of v g w ≡ judge.Refused k p → v ≡ Refused k p
judge_answer_refused (Ok _) g w k p e = let z : ◌≡◌ {A = ℕ} 0 1 = cc in absurd (omega arith)
judge_answer_refused (Err fault) g w k p e = let same : fault.cause ≡ k = cc in let there : fault.place ≡ p = cc in λ i. Refused (same i) (there i)

pub judge_answer_accepted : (v : Verdict) (g : Grant) (w : ℕ) (h : Grant) (x : ℕ) → judge_answer_of v g w ≡ judge.Accepted h x → (v ≡ Accepted) × (h ≡ g) × (x ≡ w)
judge_answer_accepted (Ok _) g w h x e = (refl, cc, cc)
judge_answer_accepted (Err fault) g w h x e = let z : ◌≡◌ {A = ℕ} 0 1 = cc in absurd (omega arith)

-- ---- the entry

module _ (s : Reader) (n : ℕ) where
  pub entry_accepted : reader_ok s ≡ true → eqb n 256 ≡ true → Accepted ≡ first_fault (entry_checks s n)
  entry_accepted e f = rw (e, f)

  -- what a sound entry says
  pub accepted_entry : first_fault (entry_checks s n) ≡ Accepted → (reader_ok s ≡ true) × (n ≡ 256)
  accepted_entry e = let p = accepted_pass (entry_checks s n) e in (p.0, eqb-true n 256 p.1.0)

-- ---- judging

module _ (s : Reader) (c : List ℕ) where
  judge_split : first_fault (judge_checks s c) ≡ or_else (first_fault (entry_checks s (length c))) (first_fault (state_checks s c))
  unfolding judge_checks
  judge_split = first_append (entry_checks s (length c)) (state_checks s c)

  judged_by : (v : Verdict) → first_fault (judge_checks s c) ≡ v
      → ◌≡◌ {A = Judged} (record { reader = when_accepted v (next_reader s c) s; answer = judge_answer_of v (header_grant (format_of s.format) c) (msg_start (format_of s.format) c) }) (judging s c)
  unfolding judging
  judged_by v e = λ i. record { reader = when_accepted (sym e i) (next_reader s c) s; answer = judge_answer_of (sym e i) (header_grant (format_of s.format) c) (msg_start (format_of s.format) c) }

  pub judge_entry_refused : (k : Cause) (p : ℕ) → first_fault (entry_checks s (length c)) ≡ Refused k p → ◌≡◌ {A = Judged} (record { reader = s; answer = judge.Refused k p }) (judging s c)
  judge_entry_refused k p e = judged_by (Refused k p) (judge_split ∙ rw e)

  module _ (valid : reader_ok s ≡ true) (len : length c ≡ 256) where
    pub judge_state : first_fault (judge_checks s c) ≡ first_fault (state_checks s c)
    judge_state = judge_split ∙ rw (← entry_accepted s (length c) valid (eq-eqb (length c) 256 len))

    pub judge_checks_refused : (k : Cause) (p : ℕ) → first_fault (state_checks s c) ≡ Refused k p → ◌≡◌ {A = Judged} (record { reader = s; answer = judge.Refused k p }) (judging s c)
    judge_checks_refused k p e = judged_by (Refused k p) (judge_state ∙ e)

    pub judge_checks_accepted : first_fault (state_checks s c) ≡ Accepted → (r : Reader) → r ≡ next_reader s c → (g : Grant) → g ≡ header_grant (format_of s.format) c → (w : ℕ) → w ≡ msg_start (format_of s.format) c
        → ◌≡◌ {A = Judged} (record { reader = r; answer = judge.Accepted g w }) (judging s c)
    judge_checks_accepted e r er g eg w ew = (λ i. record { reader = er i; answer = judge.Accepted (eg i) (ew i) }) ∙ judged_by Accepted (judge_state ∙ e)

-- ---- reading

module _ (s : Reader) (c : List ℕ) (n : ℕ) where
  read_split : first_fault (read_checks s c n) ≡ or_else (first_fault (entry_checks s (length c))) (first_fault (check (leb 352 n) RoomTooSmall 0 ∷ state_checks s c))
  unfolding read_checks
  read_split = first_append (entry_checks s (length c)) (check (leb 352 n) RoomTooSmall 0 ∷ state_checks s c)

  pub read_entry : (k : Cause) (p : ℕ) → first_fault (entry_checks s (length c)) ≡ Refused k p → first_fault (read_checks s c n) ≡ Refused k p
  read_entry k p e = read_split ∙ rw e

  module _ (valid : reader_ok s ≡ true) (len : length c ≡ 256) where
    entry_fine : first_fault (entry_checks s (length c)) ≡ Accepted
    entry_fine = sym (entry_accepted s (length c) valid (eq-eqb (length c) 256 len))

    pub read_narrow : n < 352 → first_fault (read_checks s c n) ≡ Refused RoomTooSmall 0
    read_narrow h = read_split ∙ rw (entry_fine, lt-leb 352 n h)

    pub read_state : 352 ≤ n → first_fault (read_checks s c n) ≡ first_fault (state_checks s c)
    read_state h = read_split ∙ rw (entry_fine, le-leb 352 n h)

  -- a reading by its verdict
  read_by : (v : Verdict) → first_fault (read_checks s c n) ≡ v
      → ◌≡◌ {A = Step} (record { reader = when_accepted v (next_reader s c) s; answer = answer_of v (length (records s c)) (header_grant (format_of s.format) c) }) (reading s c n)
  unfolding reading
  read_by v e = λ i. record { reader = when_accepted (sym e i) (next_reader s c) s; answer = answer_of (sym e i) (length (records s c)) (header_grant (format_of s.format) c) }

  pub read_refused : (k : Cause) (p : ℕ) → first_fault (read_checks s c n) ≡ Refused k p → (r : Step) → r ≡ record { reader = s; answer = answer.Refused k p } → r ≡ reading s c n
  read_refused k p e r q = q ∙ read_by (Refused k p) e

  pub read_done : first_fault (read_checks s c n) ≡ Accepted → (r : Reader) → r ≡ next_reader s c → (l : ℕ) → l ≡ length (records s c) → (g : Grant) → g ≡ header_grant (format_of s.format) c
      → ◌≡◌ {A = Step} (record { reader = r; answer = answer.Accepted l g }) (reading s c n)
  read_done e r er l el g eg = (λ i. record { reader = er i; answer = answer.Accepted (el i) (eg i) }) ∙ read_by Accepted e

-- the room by the verdict
pub room_refused : (s : Reader) (c room : List ℕ) (k : Cause) (p : ℕ) → first_fault (read_checks s c (length room)) ≡ Refused k p → room ≡ read_room s c room
unfolding read_room
room_refused s c room k p e = rw e

pub room_done : (s : Reader) (c room : List ℕ) → first_fault (read_checks s c (length room)) ≡ Accepted → put 0 (records s c) room ≡ read_room s c room
unfolding read_room
room_done s c room e = rw e

-- ---- from what a judging gave to the verdict of its checks

module _ (s : Reader) (c : List ℕ) (r : Judged) (e : r ≡ judging s c) where
  pub judged_refused : (k : Cause) (p : ℕ) → r.answer ≡ judge.Refused k p → first_fault (judge_checks s c) ≡ Refused k p
  unfolding judging
  judged_refused k p q =
      judge_answer_refused (first_fault (judge_checks s c)) (header_grant (format_of s.format) c) (msg_start (format_of s.format) c) k p (sym (ap (λ (x : Judged). x.answer) e) ∙ q)

  pub judged_accepted : (g : Grant) (w : ℕ) → r.answer ≡ judge.Accepted g w
      → (first_fault (judge_checks s c) ≡ Accepted) × (g ≡ header_grant (format_of s.format) c) × (w ≡ msg_start (format_of s.format) c) × (r.reader ≡ next_reader s c)
  unfolding judging
  judged_accepted g w q =
      let a = judge_answer_accepted (first_fault (judge_checks s c)) (header_grant (format_of s.format) c) (msg_start (format_of s.format) c) g w (sym (ap (λ (x : Judged). x.answer) e) ∙ q) in
      (a.0, a.1, a.2, ap (λ (x : Judged). x.reader) e ∙ ap (λ (v : Verdict). when_accepted v (next_reader s c) s) a.0)
