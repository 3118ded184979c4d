-- A valid reader and what an accepted container gives, in the paper's words (document 01, "Causes and places").
use Rattle.std.specs.Prelude.{ℕ, ◌*◌, ◌≤◌, ◌<◌, ◌≡◌, List, [], ◌++◌, ◌⊎◌, length, drop}
use Rattle.container.specs.Layout.{format_of}
use Rattle.message.specs.HeadRules.{byte, Bytes, RightHead}
use Rattle.record.specs.Records.{records_of}
use Rattle.reader.specs.Reading.{carried, reader_with, records, reading, read_room}
use Rattle.placement.specs.Completion.{InOrder, CarriesOn}
use Rattle.reader.specs.declared.reader.Reader.{Reader}

-- "the first 20k bytes (k at least 1, never all) of a well-headed longer message"
pub record Part (m : List ℕ) : Type 0 where
  pub size : ℕ
  pub sized : Bytes m size
  pub headed : RightHead m
  pub k : ℕ
  pub long : length m ≡ 20 * k
  pub some : 1 ≤ k
  pub not_all : 20 * k < size

pub record ValidState (s : Reader) : Type 0 where
  pub format : s.format < 2
  -- the array has 100 bytes
  pub short : s.carry.len ≤ 100
  -- "A valid reader's carry is empty, or .."
  pub carry : (carried s ≡ []) ⊎ Part (carried s)
  -- "with zeros behind"
  pub behind : (i : ℕ) → s.carry.len ≤ i → byte s.carry.bytes i ≡ 0

-- what a reader hands out of a container that keeps the rules, and what it carries on
pub record HandsOut (s : Reader) (c : List ℕ) : Type 0 where
  pub messages : List (List ℕ)
  pub order : InOrder (format_of s.format) (carried s) c messages
  -- "The reader writes finished messages as records, [..] at the front of the lent room; bytes after them stay as they were."
  pub written : records s c ≡ records_of messages
  pub room : (lent : List ℕ) → 352 ≤ length lent → read_room s c lent ≡ records_of messages ++ drop (length (records_of messages)) lent
  -- "It answers the new state": a reader of the same format that carries what is left
  pub left : List ℕ
  pub carries : CarriesOn (format_of s.format) (carried s) c left
  pub next : (n : ℕ) → 352 ≤ n → (reading s c n).reader ≡ reader_with s.format left
