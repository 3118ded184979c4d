-- Lists of records (document 01, "The writer's one way"): each the message size as a number and then the message.
use Rattle.std.specs.Prelude.{ℕ, zero, suc, ◌+◌, ◌-◌, ◌≡◌, true, ◌&&◌, List, [], ◌∷◌, ◌++◌, length, drop, leb, Option, Some, None}
use Rattle.lists.specs.Pick.{pick}
use Rattle.lists.specs.Parts.{part}
use Rattle.cause.specs.declared.Cause.TheVariants.{BrokenRecord}
use Rattle.message.specs.Heads.{is_message}
use Rattle.record.specs.Number.{number, read_number}
use Rattle.record.specs.declared.number.Number.{Number}
use Rattle.record.specs.declared.list.First.{First}
use Rattle.record.specs.declared.list.First.TheVariants.{Empty, Bad, Whole}
use Rattle.cause.specs.Checks.{Verdict, Accepted, Refused}

-- the most bytes of a list
abbrev pub longest_list : ℕ
longest_list = 4096

-- a record: the message size as a number and then the message
abbrev pub record_of : List ℕ → List ℕ
record_of m = number (length m) ++ m

-- messages as records, one after the other
abbrev pub records_of : List (List ℕ) → List ℕ
records_of [] = []
records_of (m ∷ ms) = record_of m ++ records_of ms

-- each is a whole message with a right head
abbrev pub AllMessages : List (List ℕ) → Type 0
AllMessages [] = Unit {0}
AllMessages (m ∷ ms) = (is_message m ≡ true) × AllMessages ms

-- what follows a number at the front of a list: a message from its start to its end, or a broken record
abbrev pub cut : List ℕ → Option Number → First
cut l None = Bad
cut l (Some number) = pick (leb (number.used + number.value) (length l) && is_message (part number.used number.value l)) (Whole number.used (number.used + number.value)) Bad

-- the first record of a list
abbrev pub first_of : List ℕ → First
first_of [] = Empty
first_of (b ∷ l) = cut (b ∷ l) (read_number (b ∷ l))

-- the message of a first record
abbrev pub message_of : List ℕ → ℕ → ℕ → List ℕ
message_of l start end = part start (end - start) l

-- what a first record at an offset gives: the end, a fault there, or what follows behind it
abbrev pub onward : First → ℕ → (ℕ → Verdict) → Verdict
onward Empty at next = Accepted
onward Bad at next = Refused BrokenRecord at
onward (Whole start end) at next = next (at + end)

-- the first broken record from an offset on, where at most k records are looked at
unfoldable pub fault_from : ℕ → List ℕ → ℕ → Verdict
fault_from zero l at = Accepted
fault_from (suc k) l at = onward (first_of (drop at l)) at (λ next. fault_from k l next)

-- the check of a whole list: the byte offset of the first broken record, or none
unfoldable pub list_fault : List ℕ → Verdict
list_fault l = fault_from (suc (length l)) l 0
