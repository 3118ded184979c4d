-- The lines that programs print, as bytes in ASCII.
use Rattle.std.specs.Prelude.{ℕ, zero, suc, ◌+◌, ◌/◌, ◌%◌, List, [], ◌∷◌, ◌++◌, length, ltb, Ok, Err}
use Rattle.lists.specs.Pick.{pick}
use Rattle.lists.specs.Parts.{put}
use Rattle.cause.specs.Causes.{cause_number}
use Rattle.cause.specs.declared.Cause.{Cause}
use Rattle.text.specs.Ascii.{bytes_of}
use Rattle.cause.specs.Checks.{Verdict}

-- the digits of n, at most k of them, the most significant first
unfoldable pub decimal_by : ℕ → ℕ → List ℕ
decimal_by zero n = []
decimal_by (suc k) n = pick (ltb n 10) [] (decimal_by k (n / 10)) ++ ((48 + n % 10) ∷ [])

-- the digits of a number of 64 bits, which has at most 20
abbrev pub decimal : ℕ → List ℕ
decimal n = decimal_by 20 n

-- a number behind a space
abbrev pub spaced : ℕ → List ℕ
spaced n = bytes_of " " ++ decimal n

abbrev pub newline : List ℕ
newline = bytes_of "\n"

-- " C P" and a newline: the number of a cause, and a place
abbrev pub fault_words : Cause → ℕ → List ℕ
fault_words c p = spaced (cause_number c) ++ (spaced p ++ newline)

-- "accepted E" or "refused E C P" and a newline: a verdict behind e entries
abbrev pub verdict_line : ℕ → Verdict → List ℕ
verdict_line e (Ok _) = bytes_of "accepted" ++ (spaced e ++ newline)
verdict_line e (Err fault) = bytes_of "refused" ++ (spaced e ++ fault_words fault.cause fault.place)

-- "refused C P" and a newline
abbrev pub refusal_line : Cause → ℕ → List ℕ
refusal_line c p = bytes_of "refused" ++ fault_words c p

-- the least room for a line
abbrev pub min_room : ℕ
min_room = 64

-- the room behind the writing of a line: the line at its front, or as it was where it is less than the least
abbrev pub room_of : List ℕ → List ℕ → List ℕ
room_of line room = pick (ltb (length room) min_room) room (put 0 line room)

-- what is answered: the bytes written
abbrev pub answer_of : List ℕ → List ℕ → ℕ
answer_of line room = pick (ltb (length room) min_room) 0 (length line)
