-- The audit names what the table gives. Assumes nothing.
use Prim.Native.Nat.{ℕ, zero, suc, ◌≤◌, ◌<◌}
use mathlib.Core.Path.{◌≡◌, refl, ap, ◌∙◌}
use mathlib.Core.Bool.{true}
use mathlib.Core.List.{List}
use mathlib.Core.Logic.{inl, inr, ⊎_elim, ◌↔◌}
use native.Mathlib.Omega.{arith}
use lib.ListN.{length}
use lib.Dec.{eqb}
use borrow.Author.Tests.{eqb-true, eqb-false}
use Rattle.lists.proofs.Order.{lt_or_le}
use Rattle.lists.proofs.Tests.{cases, and_left, and_right, never_both, not_true_false}
use Rattle.cause.specs.Causes.{cause_number}
use Rattle.cause.specs.declared.Cause.{Cause}
use Rattle.cause.specs.declared.Cause.TheVariants.{ContainerLength, MissingPool, MissingGrantPool, BegunOverGranted, GrantedOverCapacity, InvalidState}
use Rattle.container.specs.Layout.{Format, format_of}
use Rattle.container.specs.Grants.{header_grant}
use Rattle.container.specs.Lawful.{Lawful}
use Rattle.container.proofs.Formats.{lawful_of}
use Rattle.placement.specs.Cells.{carry_ok}
use Rattle.reader.specs.Reading.{carried}
use Rattle.reader.proofs.CarryLaws.{reader_ok_valid}
use Rattle.pools.proofs.PoolFaults.{grant_fault}
use Rattle.ledger.specs.Audit.{receiver_of, reader_of, direction_ok, ledger_ok, opposite, auditing}
use Rattle.ledger.specs.declared.ledger.Ledger.{Ledger}
use Rattle.ledger.proofs.ValidLaws.{direction_valid}
use Rattle.ledger.proofs.ValidLedgerLaws.{ledger_exactly}
use Rattle.ledger.specs.Faults.{MessageLacksPool, GrantLacksPool, header, crdt, AuditFault}
use Rattle.cause.specs.Order.{rank, Named, None}
use Rattle.cause.proofs.NamedLaws.{turn_of, Numbered, Clean, Same, first_named, none_named}
use Rattle.ledger.proofs.EntryFaults.{AuditCells}
use Rattle.ledger.proofs.LackLaws.{lacks_message, lacks_crdt, crdt_lacks}
use Rattle.cause.proofs.RankedLaws.{Ranked, chain}
use Rattle.ledger.proofs.AuditFaults.{audit_first, audit_none}
use Rattle.placement.proofs.ContainerTable.{cells_late, rows_late, container_numbers, Before, row_of, of_row}
use Rattle.cause.specs.Checks.{Accepted, Refused}

module _ (s : Ledger) (d : ℕ) (c : List ℕ) where
  abbrev fm : Format
  fm = format_of s.format

  abbrev law : Lawful fm
  law = lawful_of s.format

  abbrev m : List ℕ
  m = carried (reader_of s d)

  abbrev Cells : ℕ → Cause → ℕ → Type 0
  Cells = Ranked (AuditCells s d c)

  direction : (e : ℕ) → e < 2 → ledger_ok s ≡ true → direction_ok s e ≡ true
  direction zero l h = and_left (direction_ok s 0) (direction_ok s 1) h
  direction (suc zero) l h = and_right (direction_ok s 0) (direction_ok s 1) h
  direction (suc (suc e)) l h = absurd (omega arith)

  -- with nothing before rank 4, direction and ledger are valid and the container has 256 bytes
  module _ (r : ℕ) (late : 4 ≤ r) (none : Clean Cells r) where
    below : d < 2
    below = ⊎_elim (λ (l : d < 2). l) (λ (l : 2 ≤ d). absurd (none 1 InvalidState 0 (refl, AuditCells.invalid (inl l)) (omega arith))) (lt_or_le d 2)

    right : ledger_ok s ≡ true
    right = ⊎_elim (λ (e : ledger_ok s ≡ true). e) (λ e. absurd (none 1 InvalidState 0 (refl, AuditCells.invalid (inr e)) (omega arith))) (cases (ledger_ok s))

    valid : carry_ok m ≡ true
    valid = (reader_ok_valid (reader_of s d) (direction_valid s d (direction d below right)).reader).carry

    whole : length c ≡ 256
    whole =
        ⊎_elim (λ e. eqb-true (length c) 256 e)
        (λ e. absurd (none 2 ContainerLength 0 (refl, AuditCells.size (eqb-false (length c) 256 e)) (omega arith))) (cases (eqb (length c) 256))

    before : Before fm law m c whole valid r
    before k p f l = none (turn_of k p) k p (refl, AuditCells.container f) l

  to_row : (k : Cause) (p : ℕ) → AuditCells s d c k p → Clean Cells (turn_of k p) → AuditFault s d c (cause_number k) p
  to_row k p (AuditCells.invalid (inl l)) none = AuditFault.invalid (inl l)
  to_row k p (AuditCells.invalid (inr e)) none = AuditFault.invalid (inr (λ v. never_both e ((ledger_exactly s).1 v)))
  to_row k p (AuditCells.size e) none = AuditFault.size e
  to_row k p (AuditCells.container f) none =
      let l = cells_late fm m c k p f in
      let r = turn_of k p in AuditFault.container (row_of fm law m c (whole r l none) (valid r l none) k p f (before r l none))
  to_row k p (AuditCells.message g b e) none = AuditFault.message ((lacks_message s d c g b).0 e)
  to_row k p (AuditCells.heading e) none = AuditFault.grant (header ((grant_fault (receiver_of s (opposite d)) (header_grant fm c)).0 e))
  to_row k p (AuditCells.granting g b e) none = AuditFault.grant (lacks_crdt s d c g b e)
  to_row k p (AuditCells.over q b h) none = AuditFault.over q b h
  to_row k p (AuditCells.full q b h) none = AuditFault.full q b h

  from_row : (j q : ℕ) → AuditFault s d c j q → Clean Cells (rank j q) → (k : Cause) × (cause_number k ≡ j) × AuditCells s d c k q
  from_row j q (AuditFault.invalid (inl l)) none = (InvalidState, refl, AuditCells.invalid (inl l))
  from_row j q (AuditFault.invalid (inr h)) none = (InvalidState, refl, AuditCells.invalid (inr (not_true_false (ledger_ok s) (λ e. h ((ledger_exactly s).0 e)))))
  from_row j q (AuditFault.size e) none = (ContainerLength, refl, AuditCells.size e)
  from_row j q (AuditFault.container f) none =
      let l = rows_late fm m c j q f in
      let r = rank j q in
      let w = of_row fm law m c (whole r l none) (valid r l none) j q f (before r l none) in (w.0, w.1, AuditCells.container w.2)
  from_row j q (AuditFault.message h) none = (MissingPool, refl, AuditCells.message q h.within ((lacks_message s d c q h.within).1 h))
  from_row j q (AuditFault.grant (header f)) none = (MissingGrantPool, refl, AuditCells.heading ((grant_fault (receiver_of s (opposite d)) (header_grant fm c)).1 f))
  from_row j q (AuditFault.grant (crdt g b a x f)) none = (MissingGrantPool, refl, AuditCells.granting g b (crdt_lacks s d c g a x f))
  from_row j q (AuditFault.over p b h) none = (BegunOverGranted, refl, AuditCells.over p b h)
  from_row j q (AuditFault.full p b h) none = (GrantedOverCapacity, refl, AuditCells.full p b h)

  same : Same Cells (Numbered (AuditFault s d c))
  same = record {
    forth = λ r k p x none. (x.0, to_row k p x.1 (λ t i q y l. let e = x.0 in none t i q y (omega arith)));
    back = λ r j q x none.
        let w = from_row j q x.1 (λ t i p y l. let e = x.0 in none t i p y (omega arith)) in
        (w.0, w.1, (ap (λ (i : ℕ). rank i q) w.1 ∙ x.0, w.2));
  }

  pub audit_refused : (k : Cause) (p : ℕ) → ((auditing s d c).answer ≡ Refused k p) ↔ Named (AuditFault s d c) k p
  audit_refused k p = chain (audit_first s d c k p) (first_named same k p)

  pub audit_accepted : ((auditing s d c).answer ≡ Accepted) ↔ None (AuditFault s d c)
  audit_accepted = chain (audit_none s d c) (none_named same)

  -- a row of 14 is a message's, and a row of 21 a grant's
  message_row : (j q : ℕ) → AuditFault s d c j q → j ≡ 14 → MessageLacksPool s d c q
  message_row j q (AuditFault.invalid x) e = absurd (omega arith)
  message_row j q (AuditFault.size x) e = absurd (omega arith)
  message_row j q (AuditFault.container f) e = let l = container_numbers fm m c j q f in absurd (omega arith)
  message_row j q (AuditFault.message h) e = h
  message_row j q (AuditFault.grant x) e = absurd (omega arith)
  message_row j q (AuditFault.over p b h) e = absurd (omega arith)
  message_row j q (AuditFault.full p b h) e = absurd (omega arith)

  grant_row : (j q : ℕ) → AuditFault s d c j q → j ≡ 21 → GrantLacksPool s d c q
  grant_row j q (AuditFault.invalid x) e = absurd (omega arith)
  grant_row j q (AuditFault.size x) e = absurd (omega arith)
  grant_row j q (AuditFault.container f) e = let l = container_numbers fm m c j q f in absurd (omega arith)
  grant_row j q (AuditFault.message h) e = absurd (omega arith)
  grant_row j q (AuditFault.grant x) e = x
  grant_row j q (AuditFault.over p b h) e = absurd (omega arith)
  grant_row j q (AuditFault.full p b h) e = absurd (omega arith)

  -- a refusal by 14 names a message, and one by 21 a grant
  pub tells_message : (p : ℕ) → (auditing s d c).answer ≡ Refused MissingPool p → MessageLacksPool s d c p
  tells_message p e = message_row 14 p ((audit_refused MissingPool p).0 e).0 refl

  pub tells_grant : (p : ℕ) → (auditing s d c).answer ≡ Refused MissingGrantPool p → GrantLacksPool s d c p
  tells_grant p e = grant_row 21 p ((audit_refused MissingGrantPool p).0 e).0 refl
