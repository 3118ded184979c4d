-- A fill and the check of a list name what the table gives. Assumes nothing; a list is of bytes.
use Prim.Native.Nat.{ℕ}
use mathlib.Core.Path.{◌≡◌, refl, ap, ◌∙◌}
use mathlib.Core.List.{List, [], ◌∷◌}
use mathlib.Core.Logic.{◌↔◌}
use Rattle.lists.specs.Parts.{IsBytes}
use Rattle.lists.proofs.Tests.{never_both, not_true_false}
use Rattle.cause.specs.Causes.{cause_number}
use Rattle.cause.specs.declared.Cause.{Cause}
use Rattle.cause.specs.declared.Cause.TheVariants.{ContainerLength, HeaderGrantForm, BrokenRecord, TooLong, InvalidState}
use Rattle.container.specs.Layout.{format_of}
use Rattle.container.specs.declared.grant.Grant.{Grant}
use Rattle.message.proofs.HeadRuleLaws.{message_exactly}
use Rattle.record.specs.Records.{AllMessages, list_fault}
use Rattle.writer.specs.Laying.{used_of}
use Rattle.writer.specs.Filling.{tail_of, writer_ok, filling}
use Rattle.writer.specs.declared.writer.Writer.{Writer}
use Rattle.writer.specs.declared.writer.Answer.TheVariants as answer
use Rattle.writer.proofs.ValidLaws.{writer_exactly}
use Rattle.writer.specs.Faults.{Messages, ListFault, FillFault}
use Rattle.cause.specs.Order.{rank, Named, None}
use Rattle.writer.proofs.FillCells.{ListCells, FillCells}
use Rattle.cause.proofs.RankedLaws.{Ranked, chain}
use Rattle.writer.proofs.FillFaults.{list_first, list_none, fill_first, fill_none}
use Rattle.cause.proofs.NamedLaws.{Numbered, Same, first_named, none_named}
use Rattle.cause.specs.Checks.{Accepted, Refused}

-- two families, by cause and by number, with the same faults
module _ (A : Cause → ℕ → Type 0) (F : ℕ → ℕ → Type 0) (to : (k : Cause) (p : ℕ) → A k p → F (cause_number k) p)
    (from : (j q : ℕ) → F j q → (k : Cause) × (cause_number k ≡ j) × A k q) where
  alike : Same (Ranked A) (Numbered F)
  alike = record {
    forth = λ r k p x none. (x.0, to k p x.1);
    back = λ r j q x none. let w = from j q x.1 in (w.0, w.1, (ap (λ (i : ℕ). rank i q) w.1 ∙ x.0, w.2));
  }

-- ---- the check of a list

-- messages in words and by the test
in_words : (ms : List (List ℕ)) → AllMessages ms → Messages ms
in_words [] h = tt
in_words (m ∷ ms) h = ((message_exactly m).0 h.0, in_words ms h.1)

by_test : (ms : List (List ℕ)) → Messages ms → AllMessages ms
by_test [] h = tt
by_test (m ∷ ms) h = ((message_exactly m).1 h.0, by_test ms h.1)

module _ (l : List ℕ) where
  list_row : (k : Cause) (p : ℕ) → ListCells l k p → ListFault l (cause_number k) p
  list_row k p (ListCells.broken ms rest a e some never) =
      ListFault.broken ms rest (in_words ms a) e some (λ m more h. never m more ((message_exactly m).1 h))

  row_list : (j q : ℕ) → ListFault l j q → (k : Cause) × (cause_number k ≡ j) × ListCells l k q
  row_list j q (ListFault.broken ms rest a e some never) =
      (BrokenRecord, refl, ListCells.broken ms rest (by_test ms a) e some (λ m more h. never m more ((message_exactly m).0 h)))

  pub list_refused : IsBytes l → (k : Cause) (p : ℕ) → (list_fault l ≡ Refused k p) ↔ Named (ListFault l) k p
  list_refused h k p = chain (list_first l h k p) (first_named (alike (ListCells l) (ListFault l) list_row row_list) k p)

  pub list_accepted : IsBytes l → (list_fault l ≡ Accepted) ↔ None (ListFault l)
  list_accepted h = chain (list_none l h) (none_named (alike (ListCells l) (ListFault l) list_row row_list))

-- ---- a fill
module _ (w : Writer) (l : List ℕ) (n : Grant) (bytes : ℕ) where
  fill_row : (k : Cause) (p : ℕ) → FillCells w l n bytes k p → FillFault w l n bytes (cause_number k) p
  fill_row k p (FillCells.invalid e) = FillFault.invalid (λ v. never_both e ((writer_exactly w).1 v))
  fill_row k p (FillCells.size d) = FillFault.size d
  fill_row k p (FillCells.long g) = FillFault.long g
  fill_row k p (FillCells.form g) = FillFault.form g
  fill_row k p (FillCells.list f) = FillFault.list (list_row l k p f)

  row_fill : (j q : ℕ) → FillFault w l n bytes j q → (k : Cause) × (cause_number k ≡ j) × FillCells w l n bytes k q
  row_fill j q (FillFault.invalid h) = (InvalidState, refl, FillCells.invalid (not_true_false (writer_ok w) (λ e. h ((writer_exactly w).0 e))))
  row_fill j q (FillFault.size d) = (ContainerLength, refl, FillCells.size d)
  row_fill j q (FillFault.long g) = (TooLong, refl, FillCells.long g)
  row_fill j q (FillFault.form g) = (HeaderGrantForm, refl, FillCells.form g)
  row_fill j q (FillFault.list f) = let r = row_list l j q f in (r.0, r.1, FillCells.list r.2)

  abbrev both : Same (Ranked (FillCells w l n bytes)) (Numbered (FillFault w l n bytes))
  both = alike (FillCells w l n bytes) (FillFault w l n bytes) fill_row row_fill

  pub fill_refused : IsBytes l → (k : Cause) (p : ℕ) → ((filling w l n bytes).answer ≡ answer.Refused k p) ↔ Named (FillFault w l n bytes) k p
  fill_refused h k p = chain (fill_first w l n bytes h k p) (first_named both k p)

  pub fill_accepted : IsBytes l → ((filling w l n bytes).answer ≡ answer.Accepted (used_of (format_of w.format) n (tail_of w) l)) ↔ None (FillFault w l n bytes)
  fill_accepted h = chain (fill_none w l n bytes h) (none_named both)
