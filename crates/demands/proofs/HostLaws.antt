-- The entries for C answer as the table says, and a refusal leaves every byte lent as it was. Assumes nothing.
use Prim.Native.Nat.{ℕ, ◌+◌, ◌*◌, ◌≤◌, ◌<◌}
use mathlib.Core.Path.{◌≡◌, refl, sym, ap, subst, ◌∙◌}
use mathlib.Core.Bool.{Bool, true, false, ◌&&◌}
use mathlib.Core.List.{List, []}
use mathlib.Core.Logic.{◌⊎◌, inl, inr, ⊎_elim, ◌↔◌}
use native.Mathlib.Omega.{arith}
use lib.ListN.{length, get_or}
use lib.Dec.{eqb, ltb}
use borrow.Author.Tests.{eq-eqb, eqb-true, eqb-false, lt-ltb, ltb-true, ltb-false}
use Rattle.lists.specs.Parts.{IsBytes}
use Rattle.lists.specs.Pick.{pick}
use Rattle.lists.proofs.Tests.{cases, never_both, not_true_false, and_left, and_right, and_both, and_false}
use Rattle.cause.proofs.FaultLaws.{refused_by, refused_at}
use Rattle.cause.specs.Causes.{cause_number}
use Rattle.cause.specs.Checks.{first_fault, when_accepted, Verdict, Refused}
use Rattle.cause.specs.declared.Cause.{Cause}
use Rattle.cause.specs.declared.Cause.TheVariants.{InvalidState}
use Rattle.cause.proofs.CauseLaws.{same_number, number_some}
use Rattle.container.specs.declared.grant.Grant.{Grant}
use Rattle.reader.specs.Reading.{reader_with, read_checks, judge_checks, reading, read_room, judging}
use Rattle.reader.specs.Reading as reads
use Rattle.reader.specs.declared.reader.Answer as reader
use Rattle.reader.specs.declared.reader.Answer.TheVariants as read
use Rattle.reader.specs.declared.reader.JudgeAnswer.{JudgeAnswer}
use Rattle.reader.specs.declared.reader.JudgeAnswer.TheVariants as judge
use Rattle.reader.proofs.PlaceLaws.{refused_place, judged_place}
use Rattle.ledger.specs.Audit.{ledger_ok, configured, reported}
use Rattle.ledger.specs.Run.{halted}
use Rattle.ledger.specs.RunRules.{RunRule}
use Rattle.ledger.specs.ValidLedger.{ValidLedger}
use Rattle.pools.specs.declared.receiver.Receiver.{Receiver}
use Rattle.ledger.proofs.RunRuleLaws.{run_follows}
use Rattle.ledger.proofs.ValidLedgerLaws.{configured_exactly, ledger_exactly}
use Rattle.writer.specs.Filling.{fill_bytes}
use Rattle.writer.specs.declared.writer.Answer as writer
use Rattle.writer.specs.declared.writer.Answer.TheVariants as fill
use Rattle.writer.specs.declared.writer.Writer.{Writer}
use Rattle.feeder.specs.Feeding.{fed_part}
use Rattle.feeder.specs.declared.found.Waiting.{Waiting}
use Rattle.feeder.specs.declared.feed.Answer as feeder
use Rattle.feeder.specs.declared.feed.Answer.TheVariants as ask
use Rattle.host.specs.Check.{check_code, check_room}
use Rattle.host.specs.Check as check
use Rattle.host.specs.Feed.{feed_from, asking, Told, feed_code, feed_numbers, feed_room}
use Rattle.host.proofs.FeedLaws.{code_told, refused_untouched}
use Rattle.probe.specs.Judge.{judge_code}
use Rattle.probe.specs.Judge as judged
use Rattle.probe.specs.Fill.{grant_from, writer_from, answer_code, Small, sized, asked, fill_code, fill_tail, fill_container}
use Rattle.probe.proofs.FillLaws.{step_small}
use Rattle.audit_probe.specs.Audit.{max_run, receiver_from, numbers_ok, run_from, report_from}
use Rattle.reader.specs.Faults.{ReadFault, JudgeFault}
use Rattle.writer.specs.Faults.{FillFault}
use Rattle.cause.specs.Order.{Named, None}
use Rattle.demands.specs.Hosts.{Tells, CallFault, Configures, ledger_from, Hosts}
use Rattle.reader.proofs.ReadTable.{read_refused, read_accepted, judge_refused, judge_accepted}
use Rattle.writer.proofs.FillTable.{fill_refused}
use Rattle.cause.proofs.VerdictLaws.{verdict_refused}
use Rattle.demands.proofs.Refusals.{untouched}
use Rattle.std.specs.Prelude.{Ok, Err, Option}

-- ---- codes of cause·65,536 + place

-- a code of a cause and a small place tells just these
tells_own : (j : Cause) (q : ℕ) → q < 65_536 → Tells 65_536 (cause_number j * 65_536 + q) j q
tells_own j q h = (omega arith, omega arith)

tells_one : (j k : Cause) (q p : ℕ) → q < 65_536 → Tells 65_536 (cause_number j * 65_536 + q) k p → (j ≡ k) × (q ≡ p)
tells_one j k q p h t =
    let a = t.0 in
    let b = t.1 in
    let n : cause_number j ≡ cause_number k = omega arith in
    (same_number j k n, omega arith)

tells_none : (k : Cause) (p : ℕ) → Tells 65_536 0 k p → ⊥
tells_none k p t = let n = number_some k in let z = t.0 in omega arith

-- ---- `c2c_check`

read_told : (a : reader.Answer) → ((j : Cause) (q : ℕ) → a ≡ read.Refused j q → q < 65_536) → (k : Cause) (p : ℕ)
    → Tells 65_536 (check.code_of a) k p ↔ (a ≡ read.Refused k p)
read_told (read.Accepted n g) h k p = (λ t. absurd (tells_none k p t), λ e. let z : ◌≡◌ {A = ℕ} 0 1 = cc in absurd (omega arith))
read_told (read.Refused j q) h k p = (
  λ t. let w = tells_one j k q p (h j q refl) t in ap (λ (i : Cause). read.Refused i q) w.0 ∙ ap (read.Refused k) w.1,
  λ e.
      let x : j ≡ k = cc in
      let y : q ≡ p = cc in
      subst (λ (i : Cause). Tells 65_536 (cause_number j * 65_536 + q) i p) x (subst (Tells 65_536 (cause_number j * 65_536 + q) j) y (tells_own j q (h j q refl))),
)

check_refused : (f : ℕ) (c : List ℕ) (room : ℕ) (k : Cause) (p : ℕ) → Tells 65_536 (check_code f c room) k p ↔ Named (ReadFault (reader_with f []) c room) k p
unfolding check_code
check_refused f c room k p =
    let t = read_told (reading (reader_with f []) c room).answer (λ j q e. let l = refused_place (reader_with f []) c room j q e in omega arith) k p in
    let r = read_refused (reader_with f []) c room k p in
    (λ x. r.0 (t.0 x), λ n. t.1 (r.1 n))

read_zero : (v : Verdict) (n : ℕ) (g : Grant) → check.code_of (reads.answer_of v n g) ≡ 0 → reads.answer_of v n g ≡ read.Accepted n g
read_zero (Ok _) n g e = refl
read_zero (Err fault) n g e = let m = number_some fault.cause in absurd (omega arith)

check_accepted : (f : ℕ) (c : List ℕ) (room : ℕ) → (check_code f c room ≡ 0) ↔ None (ReadFault (reader_with f []) c room)
unfolding check_code reading
check_accepted f c room =
    let r = read_accepted (reader_with f []) c room in
    (λ e. r.0 (read_zero (first_fault (read_checks (reader_with f []) c room)) _ _ e), λ n. ap check.code_of (r.1 n))

read_room_law : (v : Verdict) (n : ℕ) (g : Grant) (a b : List ℕ) → (check.code_of (reads.answer_of v n g) ≡ 0 → ⊥) → when_accepted v a b ≡ b
read_room_law (Ok _) n g a b h = absurd (h refl)
read_room_law (Err fault) n g a b h = refl

check_memory : (f : ℕ) (c room : List ℕ) → (check_code f c (length room) ≡ 0 → ⊥) → check_room f c room ≡ room
unfolding check_code check_room reading read_room
check_memory f c room h = read_room_law (first_fault (read_checks (reader_with f []) c (length room))) _ _ _ _ h

-- ---- `c2c_judge`

judge_told : (a : JudgeAnswer) → ((j : Cause) (q : ℕ) → a ≡ judge.Refused j q → q < 65_536) → (k : Cause) (p : ℕ)
    → Tells 65_536 (judged.code_of a) k p ↔ (a ≡ judge.Refused k p)
judge_told (judge.Accepted g s) h k p = (λ t. absurd (tells_none k p t), λ e. let z : ◌≡◌ {A = ℕ} 0 1 = cc in absurd (omega arith))
judge_told (judge.Refused j q) h k p = (
  λ t. let w = tells_one j k q p (h j q refl) t in ap (λ (i : Cause). judge.Refused i q) w.0 ∙ ap (judge.Refused k) w.1,
  λ e.
      let x : j ≡ k = cc in
      let y : q ≡ p = cc in
      subst (λ (i : Cause). Tells 65_536 (cause_number j * 65_536 + q) i p) x (subst (Tells 65_536 (cause_number j * 65_536 + q) j) y (tells_own j q (h j q refl))),
)

judging_refused : (f : ℕ) (c : List ℕ) (k : Cause) (p : ℕ) → Tells 65_536 (judge_code f c) k p ↔ Named (JudgeFault (reader_with f []) c) k p
unfolding judge_code
judging_refused f c k p =
    let t = judge_told (judging (reader_with f []) c).answer (λ j q e. let l = judged_place (reader_with f []) c j q e in omega arith) k p in
    let r = judge_refused (reader_with f []) c k p in
    (λ x. r.0 (t.0 x), λ n. t.1 (r.1 n))

judge_zero : (v : Verdict) (g : Grant) (s : ℕ) → judged.code_of (reads.judge_answer_of v g s) ≡ 0 → reads.judge_answer_of v g s ≡ judge.Accepted g s
judge_zero (Ok _) g s e = refl
judge_zero (Err fault) g s e = let m = number_some fault.cause in absurd (omega arith)

judging_accepted : (f : ℕ) (c : List ℕ) → (judge_code f c ≡ 0) ↔ None (JudgeFault (reader_with f []) c)
unfolding judge_code judging
judging_accepted f c =
    let r = judge_accepted (reader_with f []) c in
    (λ e. r.0 (judge_zero (first_fault (judge_checks (reader_with f []) c)) _ _ e), λ n. ap judged.code_of (r.1 n))

-- ---- `c2c_fill`

-- two families that are the same name the same
named_same : (F G : ℕ → ℕ → Type 0) → ((j q : ℕ) → F j q → G j q) → ((j q : ℕ) → G j q → F j q) → (k : Cause) (p : ℕ) → Named F k p → Named G k p
named_same F G to from k p n = (to (cause_number k) p n.0, λ j q g l. n.1 j q (from j q g) l)

module _ (f n : ℕ) (t b l : List ℕ) where
  -- what the test of sizes says
  right : sized t b ≡ true → (length t ≡ 100) × (length b ≡ 6) × (get_or b 0 0 < 2)
  right e =
      let r = and_right (eqb (length t) 100) (eqb (length b) 6 && ltb (get_or b 0 0) 2) e in (
        eqb-true (length t) 100 (and_left (eqb (length t) 100) (eqb (length b) 6 && ltb (get_or b 0 0) 2) e),
        eqb-true (length b) 6 (and_left (eqb (length b) 6) (ltb (get_or b 0 0) 2) r),
        ltb-true (get_or b 0 0) 2 (and_right (eqb (length b) 6) (ltb (get_or b 0 0) 2) r),
      )

  sizes_right : length t ≡ 100 → length b ≡ 6 → get_or b 0 0 < 2 → sized t b ≡ true
  sizes_right x y z =
      and_both (eqb (length t) 100) (eqb (length b) 6 && ltb (get_or b 0 0) 2) (eq-eqb (length t) 100 x)
      (and_both (eqb (length b) 6) (ltb (get_or b 0 0) 2) (eq-eqb (length b) 6 y) (lt-ltb (get_or b 0 0) 2 z))

  never_sizes : sized t b ≡ true → (length t ≡ 100 → ⊥) ⊎ (length b ≡ 6 → ⊥) ⊎ (2 ≤ get_or b 0 0) → ⊥
  never_sizes e (inl x) = x (right e).0
  never_sizes e (inr (inl y)) = y (right e).1
  never_sizes e (inr (inr z)) = let h = (right e).2 in omega arith

  module _ (bytes : ℕ) where
    abbrev F : ℕ → ℕ → Type 0
    F = FillFault (writer_from f n t) l (grant_from b) bytes

    abbrev G : ℕ → ℕ → Type 0
    G = CallFault f n t b l bytes

    to_call : sized t b ≡ true → (j q : ℕ) → F j q → G j q
    to_call e j q x = let r = right e in CallFault.fill r.0 r.1 r.2 x

    from_call : sized t b ≡ true → (j q : ℕ) → G j q → F j q
    from_call e j q (CallFault.sizes w) = absurd (never_sizes e w)
    from_call e j q (CallFault.fill x y z w) = w

    answer_told : (a : writer.Answer) (len : ℕ) → Small a len → (k : Cause) (p : ℕ) → Tells 4_294_967_296 (answer_code a len) k p ↔ (a ≡ fill.Refused k p)
    answer_told (fill.Accepted u) len h k p = (
      λ x. let m = number_some k in let y = x.0 in let c = h.0 in let d = h.1 in absurd (omega arith),
      λ e. let z : ◌≡◌ {A = ℕ} 0 1 = cc in absurd (omega arith),
    )
    answer_told (fill.Refused j q) len h k p = (
      λ x.
          let c = x.0 in
          let d = x.1 in
          let same : cause_number j ≡ cause_number k = omega arith in
          let place : q ≡ p = omega arith in
          ap (λ (i : Cause). fill.Refused i q) (same_number j k same) ∙ ap (fill.Refused k) place,
      λ e.
          let x : j ≡ k = cc in
          let y : q ≡ p = cc in
          subst (λ (i : Cause). Tells 4_294_967_296 (cause_number j * 4_294_967_296 + q) i p) x
          (subst (Tells 4_294_967_296 (cause_number j * 4_294_967_296 + q) j) y (omega arith, omega arith)),
    )

    small : sized t b ≡ true → Small (asked f n t b l bytes).answer (asked f n t b l bytes).writer.len
    small e = step_small (writer_from f n t) l (grant_from b) bytes (right e).0 (asked f n t b l bytes) refl

    code_sized : sized t b ≡ true → fill_code f n t b l bytes ≡ answer_code (asked f n t b l bytes).answer (asked f n t b l bytes).writer.len
    unfolding fill_code
    code_sized e = rw e

    code_unsized : sized t b ≡ false → fill_code f n t b l bytes ≡ 19 * 4_294_967_296
    unfolding fill_code
    code_unsized e = rw e

    unsized_row : sized t b ≡ false → G 19 0
    unsized_row e =
        ⊎_elim (λ (x : eqb (length t) 100 ≡ true). ⊎_elim (λ (y : eqb (length b) 6 ≡ true). ⊎_elim
        (λ (z : ltb (get_or b 0 0) 2 ≡ true). absurd (never_both e (sizes_right (eqb-true (length t) 100 x) (eqb-true (length b) 6 y) (ltb-true (get_or b 0 0) 2 z))))
        (λ (z : ltb (get_or b 0 0) 2 ≡ false). CallFault.sizes (inr (inr (ltb-false (get_or b 0 0) 2 z)))) (cases (ltb (get_or b 0 0) 2)))
        (λ (y : eqb (length b) 6 ≡ false). CallFault.sizes (inr (inl (eqb-false (length b) 6 y)))) (cases (eqb (length b) 6)))
        (λ (x : eqb (length t) 100 ≡ false). CallFault.sizes (inl (eqb-false (length t) 100 x))) (cases (eqb (length t) 100))

    row_unsized : sized t b ≡ false → (j q : ℕ) → G j q → (j ≡ 19) × (q ≡ 0) × (◌≡◌ {A = Bool} false false)
    row_unsized e j q (CallFault.sizes w) = (refl, refl, refl)
    row_unsized e j q (CallFault.fill x y z w) = absurd (never_both e (sizes_right x y z))

    nineteen : (k : Cause) (p : ℕ) → Tells 4_294_967_296 (19 * 4_294_967_296) k p ↔ (Refused InvalidState 0 ≡ Refused k p)
    nineteen k p = (
      λ x.
          let c = x.0 in
          let d = x.1 in
          let same : cause_number InvalidState ≡ cause_number k = omega arith in
          let place : 0 ≡ p = omega arith in
          ap (λ (i : Cause). Refused i 0) (same_number InvalidState k same) ∙ ap (Refused k) place,
      λ e.
          let x = refused_by _ _ _ _ e in
          let y = refused_at _ _ _ _ e in
          subst (λ (i : Cause). Tells 4_294_967_296 (19 * 4_294_967_296) i p) x (subst (Tells 4_294_967_296 (19 * 4_294_967_296) InvalidState) y (omega arith, omega arith)),
    )

    filling_refused : IsBytes l → (k : Cause) (p : ℕ) → Tells 4_294_967_296 (fill_code f n t b l bytes) k p ↔ Named G k p
    filling_refused hb k p = ⊎_elim whole other (cases (sized t b))
      where
        whole : sized t b ≡ true → Tells 4_294_967_296 (fill_code f n t b l bytes) k p ↔ Named G k p
        whole e =
            let a = answer_told (asked f n t b l bytes).answer (asked f n t b l bytes).writer.len (small e) k p in
            let r = fill_refused (writer_from f n t) l (grant_from b) bytes hb k p in (
              λ x. named_same F G (to_call e) (from_call e) k p (r.0 (a.0 (subst (λ (i : ℕ). Tells 4_294_967_296 i k p) (code_sized e) x))),
              λ m. subst (λ (i : ℕ). Tells 4_294_967_296 i k p) (sym (code_sized e)) (a.1 (r.1 (named_same G F (from_call e) (to_call e) k p m))),
            )

        other : sized t b ≡ false → Tells 4_294_967_296 (fill_code f n t b l bytes) k p ↔ Named G k p
        other e =
            let a = nineteen k p in
            let r = verdict_refused false G (λ z. unsized_row e) (row_unsized e) k p in (
              λ x. r.0 (a.0 (subst (λ (i : ℕ). Tells 4_294_967_296 i k p) (code_unsized e) x)),
              λ m. subst (λ (i : ℕ). Tells 4_294_967_296 i k p) (sym (code_unsized e)) (a.1 (r.1 m)),
            )

  -- a refused fill writes nothing
  module _ (c : List ℕ) where
    kept_by : (a : writer.Answer) (len : ℕ) → (asked f n t b l (length c)).answer ≡ a → Small a len → 4_294_967_296 ≤ answer_code a len
        → ((asked f n t b l (length c)).writer.tail ≡ t) × (fill_bytes (writer_from f n t) l (grant_from b) c ≡ c)
    kept_by (fill.Accepted u) len e h m = let x = h.0 in let y = h.1 in absurd (omega arith)
    kept_by (fill.Refused k p) len e h m =
        (ap (λ (w : Writer). w.tail) (untouched.fill_state (writer_from f n t) l (grant_from b) c k p e), untouched.fill_memory (writer_from f n t) l (grant_from b) c k p e)

    filling_memory : 4_294_967_296 ≤ fill_code f n t b l (length c) → (fill_tail f n t b l (length c) ≡ t) × (fill_container f n t b l c ≡ c)
    unfolding fill_tail fill_container
    filling_memory m = ⊎_elim whole other (cases (sized t b))
      where
        other : sized t b ≡ false
            → (pick (sized t b) (asked f n t b l (length c)).writer.tail t ≡ t) × (pick (sized t b) (fill_bytes (writer_from f n t) l (grant_from b) c) c ≡ c)
        other e = (rw e, rw e)

        whole : sized t b ≡ true
            → (pick (sized t b) (asked f n t b l (length c)).writer.tail t ≡ t) × (pick (sized t b) (fill_bytes (writer_from f n t) l (grant_from b) c) c ≡ c)
        whole e =
            let k = kept_by (asked f n t b l (length c)).answer (asked f n t b l (length c)).writer.len refl (small (length c) e)
            (subst (λ (i : ℕ). 4_294_967_296 ≤ i) (code_sized (length c) e) m) in
            (rw e k.0, rw e k.1)

-- ---- `c2c_feed`

feed_refused : (f : ℕ) (n responses others room : List ℕ) (w : Option Waiting) (k : Cause) (p : ℕ) → (asking f n responses others (length room)).answer ≡ ask.Refused w k p
    → Told (ask.Refused w k p) (length (fed_part f responses others (feed_from n))) (feed_code f n responses others (length room))
    × (feed_numbers f n responses others (length room) ≡ n) × (feed_room f n responses others room ≡ room)
feed_refused f n responses others room w k p e =
    let t = subst (λ (a : feeder.Answer). Told a (length (fed_part f responses others (feed_from n))) (feed_code f n responses others (length room))) e (code_told f n responses others room) in
    let u = refused_untouched f n responses others room w k p e in
    (t, u.0, u.1)

-- ---- `c2c_audit` and its like

module _ (l e : List ℕ) where
  abbrev fm : ℕ
  fm = get_or l 0 0

  abbrev first : Receiver
  first = receiver_from l 1

  abbrev second : Receiver
  second = receiver_from l 17

  configures : Configures l → numbers_ok l ≡ true
  configures h =
      and_both (eqb (length l) 33) (ltb (get_or l 2 0) 2 && ltb (get_or l 18 0) 2) (eq-eqb (length l) 33 h.count)
      (and_both (ltb (get_or l 2 0) 2) (ltb (get_or l 18 0) 2) (lt-ltb (get_or l 2 0) 2 h.push0) (lt-ltb (get_or l 18 0) 2 h.push1))

  numbers : numbers_ok l ≡ true → Configures l
  numbers h =
      let r = and_right (eqb (length l) 33) (ltb (get_or l 2 0) 2 && ltb (get_or l 18 0) 2) h in
      record {
        count = eqb-true (length l) 33 (and_left (eqb (length l) 33) (ltb (get_or l 2 0) 2 && ltb (get_or l 18 0) 2) h);
        push0 = ltb-true (get_or l 2 0) 2 (and_left (ltb (get_or l 2 0) 2) (ltb (get_or l 18 0) 2) r);
        push1 = ltb-true (get_or l 18 0) 2 (and_right (ltb (get_or l 2 0) 2) (ltb (get_or l 18 0) 2) r);
      }

  -- the fresh ledger of a configuration that is not valid is none
  described : ValidLedger (ledger_from l) → configured fm first second ≡ true
  described v =
      (configured_exactly fm first second).1
      (record { format = v.direction0.reader.format; receiver0 = v.direction0.receiver; receiver1 = v.direction1.receiver })

  run_by_cases : Configures l → (t : Bool) → configured fm first second ≡ t → RunRule (ledger_from l) max_run e (run_from l e)
  unfolding run_from
  run_by_cases h true q = rw (configures h, q) (run_follows (ledger_from l) max_run e)
  run_by_cases h false q = rw (configures h, q) (RunRule.invalid (λ v. never_both q (described v)))

  audit_run : Configures l → RunRule (ledger_from l) max_run e (run_from l e)
  audit_run h = run_by_cases h (configured fm first second) refl

  audit_numbers : (Configures l → ⊥) → run_from l e ≡ halted (ledger_from l) 0 0 (Refused InvalidState 0)
  unfolding run_from
  audit_numbers h = rw (not_true_false (numbers_ok l) (λ t. h (numbers t)))

  module _ (d p : ℕ) where
    report_by_cases : Configures l → (t : Bool) → configured fm first second ≡ t → report_from l e d p ≡ reported (run_from l e).ledger d p
    unfolding report_from run_from
    report_by_cases h true q = rw (configures h, q)
    report_by_cases h false q = rw (configures h, q) (sym none_there)
      where
        none_there : reported (ledger_from l) d p ≡ Err (record { cause = InvalidState; place = 0 })
        none_there = rw (not_true_false (ledger_ok (ledger_from l)) (λ t. never_both q (described ((ledger_exactly (ledger_from l)).0 t))), and_false (ltb p 14), and_false (ltb d 2))

    report_behind : Configures l → report_from l e d p ≡ reported (run_from l e).ledger d p
    report_behind h = report_by_cases h (configured fm first second) refl

    report_numbers : (Configures l → ⊥) → report_from l e d p ≡ Err (record { cause = InvalidState; place = 0 })
    unfolding report_from
    report_numbers h = rw (not_true_false (numbers_ok l) (λ t. h (numbers t)))

pub hosts : Hosts
hosts = record {
  check_refused = check_refused;
  check_accepted = check_accepted;
  check_memory = check_memory;
  judge_refused = judging_refused;
  judge_accepted = judging_accepted;
  fill_refused = λ f n t b l bytes hb k p. filling_refused f n t b l bytes hb k p;
  fill_memory = λ f n t b l c m. filling_memory f n t b l c m;
  feed_refused = feed_refused;
  audit_run = audit_run;
  audit_numbers = audit_numbers;
  report_behind = report_behind;
  report_numbers = report_numbers;
}
