-- A new ledger and a report name what the table gives. Assumes nothing.
use Prim.Native.Nat.{ℕ, ◌≤◌, ◌<◌}
use mathlib.Core.Path.{◌≡◌, refl}
use mathlib.Core.Bool.{Bool, true, false, ◌&&◌}
use mathlib.Core.Logic.{◌⊎◌, inl, inr, ⊎_elim, ◌↔◌}
use lib.Dec.{ltb}
use borrow.Author.Tests.{lt-ltb, le-ltb}
use Rattle.lists.proofs.Tests.{never_both, not_true_false, and_both, and_left, and_right}
use Rattle.lists.proofs.Order.{lt_or_le}
use Rattle.cause.specs.declared.Cause.{Cause}
use Rattle.ledger.specs.Audit.{held_of, open_of, ledger_ok, configured, fresh_ledger, new_ledger, reported}
use Rattle.ledger.specs.ValidLedger.{ValidLedger}
use Rattle.pools.specs.declared.receiver.Receiver.{Receiver}
use Rattle.ledger.specs.declared.ledger.Ledger.{Ledger}
use Rattle.ledger.specs.declared.ledger.Report.{Report}
use Rattle.ledger.proofs.ValidLedgerLaws.{configured_exactly, ledger_exactly}
use Rattle.ledger.specs.Faults.{FreshFault, ReportFault}
use Rattle.cause.specs.Order.{Named, None}
use Rattle.cause.proofs.VerdictLaws.{verdict_of, verdict_refused, verdict_accepted}
use Rattle.cause.proofs.GivenLaws.{refused_as, accepted_as}
use Rattle.cause.proofs.HandedLaws.{hands_refused, hands_accepted}
use Rattle.std.specs.Prelude.{Ok, Err}

-- ---- a configuration
module _ (f : ℕ) (a b : Receiver) where
  opening_row : configured f a b ≡ false → FreshFault f a b 19 0
  opening_row e = FreshFault.invalid (λ v. never_both e ((configured_exactly f a b).1 v))

  row_opening : (j q : ℕ) → FreshFault f a b j q → (j ≡ 19) × (q ≡ 0) × (configured f a b ≡ false)
  row_opening j q (FreshFault.invalid n) = (refl, refl, not_true_false (configured f a b) (λ t. n ((configured_exactly f a b).0 t)))

  pub new_ledger_refused : (k : Cause) (p : ℕ) → (new_ledger f a b ≡ Err (fresh_ledger f a b, record { cause = k; place = p })) ↔ Named (FreshFault f a b) k p
  new_ledger_refused k p =
      hands_refused (fresh_ledger f a b) (verdict_of (configured f a b)) k p (verdict_refused (configured f a b) (FreshFault f a b) opening_row row_opening k p)

  pub new_ledger_accepted : (new_ledger f a b ≡ Ok (fresh_ledger f a b)) ↔ None (FreshFault f a b)
  new_ledger_accepted =
      hands_accepted (fresh_ledger f a b) (verdict_of (configured f a b)) (verdict_accepted (configured f a b) (FreshFault f a b) opening_row row_opening)

-- ---- a report
module _ (s : Ledger) (d p : ℕ) where
  abbrev counts : Report
  counts = record { held = record { 0 = held_of s d p }; opened = record { 0 = open_of s d p } }

  abbrev there : Bool
  there = ltb d 2 && (ltb p 14 && ledger_ok s)

  report_row : there ≡ false → ReportFault s d p 19 0
  report_row e =
      ⊎_elim (λ (x : d < 2). ⊎_elim (λ (y : p < 14). ReportFault.invalid (inr (inr (λ v.
      never_both e (and_both (ltb d 2) (ltb p 14 && ledger_ok s) (lt-ltb d 2 x) (and_both (ltb p 14) (ledger_ok s) (lt-ltb p 14 y) ((ledger_exactly s).1 v)))))))
      (λ (y : 14 ≤ p). ReportFault.invalid (inr (inl y))) (lt_or_le p 14))
      (λ (x : 2 ≤ d). ReportFault.invalid (inl x)) (lt_or_le d 2)

  absent : (2 ≤ d) ⊎ (14 ≤ p) ⊎ (ValidLedger s → ⊥) → there ≡ true → ⊥
  absent (inl x) t = never_both (le-ltb d 2 x) (and_left (ltb d 2) (ltb p 14 && ledger_ok s) t)
  absent (inr (inl y)) t = never_both (le-ltb p 14 y) (and_left (ltb p 14) (ledger_ok s) (and_right (ltb d 2) (ltb p 14 && ledger_ok s) t))
  absent (inr (inr n)) t = n ((ledger_exactly s).0 (and_right (ltb p 14) (ledger_ok s) (and_right (ltb d 2) (ltb p 14 && ledger_ok s) t)))

  row_report : (j q : ℕ) → ReportFault s d p j q → (j ≡ 19) × (q ≡ 0) × (there ≡ false)
  row_report j q (ReportFault.invalid w) = (refl, refl, not_true_false there (absent w))

  pub report_refused : (k : Cause) (q : ℕ) → (reported s d p ≡ Err (record { cause = k; place = q })) ↔ Named (ReportFault s d p) k q
  report_refused k q = refused_as counts (verdict_of there) k q (verdict_refused there (ReportFault s d p) report_row row_report k q)

  pub report_counted : (reported s d p ≡ Ok counts) ↔ None (ReportFault s d p)
  report_counted = accepted_as counts (verdict_of there) (verdict_accepted there (ReportFault s d p) report_row row_report)
