-- Messages as lines of hex: two digits a byte, the high half first, and a line end.
use Rattle.std.specs.Prelude.{ℕ, zero, suc, ◌/◌, ◌%◌, Bool, List, [], ◌∷◌, ◌++◌, length, drop, leb}
use Rattle.lists.specs.Pick.{pick}
use Rattle.lists.specs.Parts.{put}
use Rattle.io.specs.Digits.{hex_digit_ascii}
use Rattle.record.specs.Records.{first_of, message_of}
use Rattle.record.specs.declared.list.First.{First}
use Rattle.record.specs.declared.list.First.TheVariants.{Empty, Bad, Whole}

-- bytes in hex
abbrev pub hex_of : List ℕ → List ℕ
hex_of [] = []
hex_of (b ∷ m) = hex_digit_ascii (b / 16) ∷ hex_digit_ascii (b % 16) ∷ hex_of m

-- a message as a line
abbrev pub message_line : List ℕ → List ℕ
message_line m = hex_of m ++ (10 ∷ [])

-- messages as lines, one behind the other
abbrev pub message_lines : List (List ℕ) → List ℕ
message_lines [] = []
message_lines (m ∷ ms) = message_line m ++ message_lines ms

-- the line of a list's first record, and what follows behind that record
abbrev pub line_then : First → List ℕ → (List ℕ → List ℕ) → List ℕ
line_then Empty l next = []
line_then Bad l next = []
line_then (Whole start end) l next = message_line (message_of l start end) ++ next (drop end l)

-- the lines of a list's records up to the first that is none, at most k of them
unfoldable pub lines_from : ℕ → List ℕ → List ℕ
lines_from zero l = []
lines_from (suc k) l = line_then (first_of l) l (λ rest. lines_from k rest)

-- the lines of a list: a record has at least one byte
unfoldable pub lines_of : List ℕ → List ℕ
lines_of l = lines_from (length l) l

-- a room of n bytes has two for each byte of the list
abbrev pub fits : List ℕ → ℕ → Bool
fits l n = leb (length l) (n / 2)

-- what is answered, and the room afterwards: the lines at its front, or as it was
abbrev pub lines_length : List ℕ → ℕ → ℕ
lines_length l n = pick (fits l n) (length (lines_of l)) 0

abbrev pub lines_room : List ℕ → List ℕ → List ℕ
lines_room l room = pick (fits l (length room)) (put 0 (lines_of l) room) room
