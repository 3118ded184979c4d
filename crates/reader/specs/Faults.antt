-- "Causes and places" (document 01), the table of a reading: a constructor a row, its number and place at the end.
use Rattle.std.specs.Prelude.{ℕ, ◌<◌, ◌≡◌, List, length}
use Rattle.container.specs.Layout.{format_of}
use Rattle.placement.specs.Faults.{ContainerFault}
use Rattle.reader.specs.ValidState.{ValidState}
use Rattle.reader.specs.Reading.{carried}
use Rattle.reader.specs.declared.reader.Reader.{Reader}

-- reading with a room of so many bytes: 19, 1, 2 and the container's
pub data ReadFault (s : Reader) (c : List ℕ) (room : ℕ) : ℕ → ℕ → Type 0 where
  -- 19 | format or state not valid | 0
  invalid : (ValidState s → ⊥) → ReadFault s c room 19 0
  -- 1 | container handed in by itself not 256 bytes | 0
  size : (length c ≡ 256 → ⊥) → ReadFault s c room 1 0
  -- 2 | reader's room under 352 | 0
  small : room < 352 → ReadFault s c room 2 0
  container : {k p : ℕ} → ContainerFault (format_of s.format) (carried s) c k p → ReadFault s c room k p

-- judging, which lends no room: as a reading with room enough
abbrev pub JudgeFault : Reader → List ℕ → ℕ → ℕ → Type 0
JudgeFault s c = ReadFault s c 352
