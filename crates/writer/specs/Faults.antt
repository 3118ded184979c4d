-- "Causes and places" (document 01), the table of a list and a fill: a constructor a row, its number and place at the end.
use Rattle.std.specs.Prelude.{ℕ, ◌<◌, ◌≡◌, true, List, [], ◌∷◌, ◌++◌, ◌⊎◌, length}
use Rattle.container.specs.declared.grant.Grant.{Grant}
use Rattle.message.specs.HeadRules.{Message}
use Rattle.record.specs.Records.{record_of, records_of}
use Rattle.writer.specs.ValidWriter.{ValidWriter}
use Rattle.writer.specs.declared.writer.Writer.{Writer}

-- each is a whole message
abbrev pub Messages : List (List ℕ) → Type 0
Messages [] = Unit {0}
Messages (m ∷ ms) = Message m × Messages ms

-- 17 | broken record or number, or record whose size, type or head is wrong | byte offset of the record: behind records of messages stands
-- something that begins with no record of a message
pub data ListFault (l : List ℕ) : ℕ → ℕ → Type 0 where
  broken : (ms : List (List ℕ)) (rest : List ℕ) → Messages ms → l ≡ records_of ms ++ rest → 0 < length rest
      → ((m more : List ℕ) → Message m → rest ≡ record_of m ++ more → ⊥) → ListFault l 17 (length (records_of ms))

-- filling from list l under grant n a container of so many bytes
pub data FillFault (w : Writer) (l : List ℕ) (n : Grant) (bytes : ℕ) : ℕ → ℕ → Type 0 where
  -- 19 | format or state not valid | 0
  invalid : (ValidWriter w → ⊥) → FillFault w l n bytes 19 0
  -- 1 | container handed in by itself not 256 bytes | 0
  size : (bytes ≡ 256 → ⊥) → FillFault w l n bytes 1 0
  -- 18 | list over 4,096 bytes | 0
  long : 4096 < length l → FillFault w l n bytes 18 0
  -- 4 | header grant with ShC 1, RP not 0, or one handed to the writer with RP over 7 | 0
  form : ((n.shc ≡ true) × (0 < n.rp)) ⊎ (7 < n.rp) → FillFault w l n bytes 4 0
  list : {k p : ℕ} → ListFault l k p → FillFault w l n bytes k p
