-- A new reader and a new writer name what the table gives. Assumes nothing.
use Prim.Native.Nat.{ℕ}
use mathlib.Core.Path.{◌≡◌, refl}
use mathlib.Core.Bool.{false}
use mathlib.Core.Logic.{◌↔◌}
use mathlib.Core.List.{[]}
use lib.Dec.{ltb}
use borrow.Author.Tests.{le-ltb, ltb-false}
use Rattle.std.specs.Prelude.{Ok, Err}
use Rattle.cause.specs.declared.Cause.{Cause}
use Rattle.reader.specs.Reading.{reader_with}
use Rattle.writer.specs.Filling.{writer_with}
use Rattle.reader.specs.Reading as reader
use Rattle.writer.specs.Filling as writer
use Rattle.demands.specs.Faults.{FormatFault, unknown}
use Rattle.cause.specs.Order.{Named, None}
use Rattle.cause.proofs.HandedLaws.{hands_refused, hands_accepted}
use Rattle.cause.proofs.VerdictLaws.{verdict_of, verdict_refused, verdict_accepted}

-- ---- a format
module _ (f : ℕ) where
  format_row : ltb f 2 ≡ false → FormatFault f 19 0
  format_row e = unknown (ltb-false f 2 e)

  row_format : (j q : ℕ) → FormatFault f j q → (j ≡ 19) × (q ≡ 0) × (ltb f 2 ≡ false)
  row_format j q (unknown l) = (refl, refl, le-ltb f 2 l)

  pub reader_refused : (k : Cause) (p : ℕ) → (reader.new_reader f ≡ Err (reader_with f [], record { cause = k; place = p })) ↔ Named (FormatFault f) k p
  reader_refused k p = hands_refused (reader_with f []) (verdict_of (ltb f 2)) k p (verdict_refused (ltb f 2) (FormatFault f) format_row row_format k p)

  pub reader_accepted : (reader.new_reader f ≡ Ok (reader_with f [])) ↔ None (FormatFault f)
  reader_accepted = hands_accepted (reader_with f []) (verdict_of (ltb f 2)) (verdict_accepted (ltb f 2) (FormatFault f) format_row row_format)

  pub writer_refused : (k : Cause) (p : ℕ) → (writer.new_writer f ≡ Err (writer_with f [], record { cause = k; place = p })) ↔ Named (FormatFault f) k p
  writer_refused k p = hands_refused (writer_with f []) (verdict_of (ltb f 2)) k p (verdict_refused (ltb f 2) (FormatFault f) format_row row_format k p)

  pub writer_accepted : (writer.new_writer f ≡ Ok (writer_with f [])) ↔ None (FormatFault f)
  writer_accepted = hands_accepted (writer_with f []) (verdict_of (ltb f 2)) (verdict_accepted (ltb f 2) (FormatFault f) format_row row_format)
