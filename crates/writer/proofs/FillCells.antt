-- The faults of the checks of a list and of a fill as they stand, by cause.
use Prim.Native.Nat.{ℕ, ◌<◌}
use mathlib.Core.Path.{◌≡◌}
use mathlib.Core.Bool.{true, false}
use mathlib.Core.List.{List, ◌++◌}
use mathlib.Core.Logic.{◌⊎◌}
use lib.ListN.{length}
use Rattle.cause.specs.declared.Cause.{Cause}
use Rattle.cause.specs.declared.Cause.TheVariants.{ContainerLength, HeaderGrantForm, BrokenRecord, TooLong, InvalidState}
use Rattle.container.specs.declared.grant.Grant.{Grant}
use Rattle.message.specs.Heads.{is_message}
use Rattle.record.specs.Records.{record_of, records_of, AllMessages}
use Rattle.writer.specs.Filling.{writer_ok}
use Rattle.writer.specs.declared.writer.Writer.{Writer}

-- the check of a list
pub data ListCells (l : List ℕ) : Cause → ℕ → Type 0 where
  broken : (ms : List (List ℕ)) (rest : List ℕ) → AllMessages ms → l ≡ records_of ms ++ rest → 0 < length rest
      → ((m more : List ℕ) → is_message m ≡ true → rest ≡ record_of m ++ more → ⊥) → ListCells l BrokenRecord (length (records_of ms))

-- filling from list l under grant n a container of so many bytes
pub data FillCells (w : Writer) (l : List ℕ) (n : Grant) (bytes : ℕ) : Cause → ℕ → Type 0 where
  invalid : writer_ok w ≡ false → FillCells w l n bytes InvalidState 0
  size : (bytes ≡ 256 → ⊥) → FillCells w l n bytes ContainerLength 0
  long : 4096 < length l → FillCells w l n bytes TooLong 0
  form : ((n.shc ≡ true) × (0 < n.rp)) ⊎ (7 < n.rp) → FillCells w l n bytes HeaderGrantForm 0
  list : {k : Cause} {p : ℕ} → ListCells l k p → FillCells w l n bytes k p
