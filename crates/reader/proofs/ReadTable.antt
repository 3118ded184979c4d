-- A reading and a judging name what the table gives. Assumes nothing.
use Prim.Native.Nat.{ℕ, ◌≤◌}
use mathlib.Core.Path.{◌≡◌, refl, ap, ◌∙◌}
use mathlib.Core.Bool.{true}
use mathlib.Core.List.{List}
use mathlib.Core.Logic.{⊎_elim, ◌↔◌}
use native.Mathlib.Omega.{arith}
use lib.ListN.{length}
use lib.Dec.{eqb}
use borrow.Author.Tests.{eqb-true, eqb-false}
use Rattle.lists.proofs.Tests.{cases, never_both, not_true_false}
use Rattle.cause.specs.Causes.{cause_number}
use Rattle.cause.specs.declared.Cause.{Cause}
use Rattle.cause.specs.declared.Cause.TheVariants.{ContainerLength, RoomTooSmall, InvalidState}
use Rattle.container.specs.Layout.{Format, format_of, msg_start}
use Rattle.container.specs.Lawful.{Lawful}
use Rattle.container.specs.Grants.{header_grant}
use Rattle.container.proofs.Formats.{lawful_of}
use Rattle.reader.specs.Reading.{reader_ok, carried, records, reading, judging}
use Rattle.placement.specs.Cells.{carry_ok}
use Rattle.reader.specs.declared.reader.Reader.{Reader}
use Rattle.reader.specs.declared.reader.Answer.TheVariants as answer
use Rattle.reader.specs.declared.reader.JudgeAnswer.TheVariants as judge
use Rattle.reader.proofs.CarryLaws.{reader_ok_valid}
use Rattle.reader.proofs.ReadRules.{state_exactly}
use Rattle.reader.specs.Faults.{ReadFault, JudgeFault}
use Rattle.cause.specs.Order.{rank, Named, None}
use Rattle.cause.proofs.NamedLaws.{turn_of, Numbered, Clean, Same, first_named, none_named}
use Rattle.reader.proofs.CellFaults.{ReadCells}
use Rattle.cause.proofs.RankedLaws.{Ranked, chain}
use Rattle.reader.proofs.ReadFaults.{read_first, read_none, judge_first, judge_none}
use Rattle.placement.proofs.ContainerTable.{cells_late, rows_late, Before, row_of, of_row}

module _ (s : Reader) (c : List ℕ) (n : ℕ) where
  abbrev fm : Format
  fm = format_of s.format

  abbrev law : Lawful fm
  law = lawful_of s.format

  abbrev m : List ℕ
  m = carried s

  abbrev Cells : ℕ → Cause → ℕ → Type 0
  Cells = Ranked (ReadCells s c n)

  -- with nothing before rank 4, the state is valid and the container has 256 bytes
  module _ (r : ℕ) (late : 4 ≤ r) (none : Clean Cells r) where
    valid : carry_ok m ≡ true
    valid =
        (reader_ok_valid s (⊎_elim (λ (e : reader_ok s ≡ true). e) (λ e. absurd (none 1 InvalidState 0 (refl, ReadCells.invalid e) (omega arith))) (cases (reader_ok s)))).carry

    whole : length c ≡ 256
    whole =
        ⊎_elim (λ e. eqb-true (length c) 256 e)
        (λ e. absurd (none 2 ContainerLength 0 (refl, ReadCells.size (eqb-false (length c) 256 e)) (omega arith))) (cases (eqb (length c) 256))

    before : Before fm law m c whole valid r
    before k p f l = none (turn_of k p) k p (refl, ReadCells.container f) l

  to_row : (k : Cause) (p : ℕ) → ReadCells s c n k p → Clean Cells (turn_of k p) → ReadFault s c n (cause_number k) p
  to_row k p (ReadCells.invalid e) none = ReadFault.invalid (λ v. never_both e ((state_exactly s).1 v))
  to_row k p (ReadCells.size d) none = ReadFault.size d
  to_row k p (ReadCells.small l) none = ReadFault.small l
  to_row k p (ReadCells.container f) none =
      let l = cells_late fm m c k p f in
      let r = turn_of k p in ReadFault.container (row_of fm law m c (whole r l none) (valid r l none) k p f (before r l none))

  from_row : (j q : ℕ) → ReadFault s c n j q → Clean Cells (rank j q) → (k : Cause) × (cause_number k ≡ j) × ReadCells s c n k q
  from_row j q (ReadFault.invalid h) none = (InvalidState, refl, ReadCells.invalid (not_true_false (reader_ok s) (λ e. h ((state_exactly s).0 e))))
  from_row j q (ReadFault.size d) none = (ContainerLength, refl, ReadCells.size d)
  from_row j q (ReadFault.small l) none = (RoomTooSmall, refl, ReadCells.small l)
  from_row j q (ReadFault.container f) none =
      let l = rows_late fm m c j q f in
      let r = rank j q in
      let w = of_row fm law m c (whole r l none) (valid r l none) j q f (before r l none) in (w.0, w.1, ReadCells.container w.2)

  same : Same Cells (Numbered (ReadFault s c n))
  same = record {
    forth = λ r k p x none. (x.0, to_row k p x.1 (λ t i q y l. let e = x.0 in none t i q y (omega arith)));
    back = λ r j q x none.
        let w = from_row j q x.1 (λ t i p y l. let e = x.0 in none t i p y (omega arith)) in
        (w.0, w.1, (ap (λ (i : ℕ). rank i q) w.1 ∙ x.0, w.2));
  }

  pub read_refused : (k : Cause) (p : ℕ) → ((reading s c n).answer ≡ answer.Refused k p) ↔ Named (ReadFault s c n) k p
  read_refused k p = chain (read_first s c n k p) (first_named same k p)

  pub read_accepted : ((reading s c n).answer ≡ answer.Accepted (length (records s c)) (header_grant fm c)) ↔ None (ReadFault s c n)
  read_accepted = chain (read_none s c n) (none_named same)

module _ (s : Reader) (c : List ℕ) where
  pub judge_refused : (k : Cause) (p : ℕ) → ((judging s c).answer ≡ judge.Refused k p) ↔ Named (JudgeFault s c) k p
  judge_refused k p = chain (judge_first s c k p) (first_named (same s c 352) k p)

  pub judge_accepted : ((judging s c).answer ≡ judge.Accepted (header_grant (format_of s.format) c) (msg_start (format_of s.format) c)) ↔ None (JudgeFault s c)
  judge_accepted = chain (judge_none s c) (none_named (same s c 352))
