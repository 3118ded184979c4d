-- The faults of the checks of a reading as they stand, by cause.
use Prim.Native.Nat.{ℕ, ◌<◌}
use mathlib.Core.Path.{◌≡◌}
use mathlib.Core.Bool.{false}
use mathlib.Core.List.{List}
use lib.ListN.{length}
use Rattle.cause.specs.declared.Cause.{Cause}
use Rattle.cause.specs.declared.Cause.TheVariants.{ContainerLength, RoomTooSmall, InvalidState}
use Rattle.container.specs.Layout.{format_of}
use Rattle.placement.proofs.CellFaults.{CellFault}
use Rattle.reader.specs.Reading.{reader_ok, carried}
use Rattle.reader.specs.declared.reader.Reader.{Reader}

-- reading with a room of so many bytes
pub data ReadCells (s : Reader) (c : List ℕ) (room : ℕ) : Cause → ℕ → Type 0 where
  invalid : reader_ok s ≡ false → ReadCells s c room InvalidState 0
  size : (length c ≡ 256 → ⊥) → ReadCells s c room ContainerLength 0
  small : room < 352 → ReadCells s c room RoomTooSmall 0
  container : {k : Cause} {p : ℕ} → CellFault (format_of s.format) (carried s) c k p → ReadCells s c room k p
