-- The turns of the program: each puts what one read gives behind the bytes left, and hands both to one call of `consume`.
use Rattle.std.specs.declared.io.Error.{Error}
use Rattle.std.specs.Prelude.{ℕ, ◌-◌, ◌<◌, ◌≡◌, List, [], ◌++◌, length, take, eqb, None, Some, Result, Ok, Err}
use Rattle.lists.specs.Parts.{part}
use Rattle.cause.specs.Checks as verdict
use Rattle.text.specs.Lines.{verdict_line}
use Rattle.logs.specs.Stream.{consuming, fresh_reader}
use Rattle.logs.specs.declared.log.LogReader.{LogReader}
use Rattle.logs.specs.declared.log.LogVerdict.{LogVerdict}
use Rattle.logs.specs.declared.log.LogVerdict.TheVariants.{Accepted, Refused}
use Rattle.logs.specs.declared.log.Consumed.{Consumed}
use Rattle.audit.specs.declared.Turn.{Turn}

-- the turn of a call on n bytes
abbrev pub turn_by : ℕ → Consumed → Turn
turn_by n r = record { reader = r.reader; at = r.used; have = n; verdict = r.outcome }

-- a turn from a state and the bytes left: the window's first bytes are those left and those read, and one call has judged both, which says
-- that the log has ended where nothing was read
pub record Turned (s : LogReader) (left window : List ℕ) (r : Turn) : Type 0 where
  pub read : List ℕ
  pub at_hand : take (length (left ++ read)) window ≡ left ++ read
  pub call : r ≡ turn_by (length (left ++ read)) (consuming s (left ++ read) (eqb (length read) 0))

-- a turn, or a read that has failed though the window had room
abbrev pub Taken : LogReader → List ℕ → List ℕ → Result Turn Error → Type 0
Taken s left window (Ok r) = Turned s left window r
Taken s left window (Err e) = length left < length window

-- the bytes that a turn leaves
abbrev pub left_by : List ℕ → Turn → List ℕ
left_by window r = part r.at (r.have - r.at) window

-- turns from the start on, none of which gave a verdict: what they have read, the state, and the bytes left
pub data Turns : List ℕ → LogReader → List ℕ → Type 0 where
  none : Turns [] fresh_reader []
  more : {l left : List ℕ} {s : LogReader} → Turns l s left → (window : List ℕ) (r : Turn) (t : Turned s left window r) → r.verdict ≡ None
      → Turns (l ++ t.read) r.reader (left_by window r)

-- a turn behind such turns gave the verdict v, and l is all that was read
pub record Judged (l : List ℕ) (v : LogVerdict) : Type 0 where
  pub before : List ℕ
  pub left : List ℕ
  pub window : List ℕ
  pub s : LogReader
  pub r : Turn
  pub turns : Turns before s left
  pub last : Turned s left window r
  pub over : r.verdict ≡ Some v
  pub all : l ≡ before ++ last.read

-- the verdict of a chain of turns
abbrev pub Audited : LogVerdict → Type 0
Audited v = (l : List ℕ) × Judged l v

-- the line that is printed
abbrev pub log_line : LogVerdict → List ℕ
log_line (Accepted e) = verdict_line e verdict.Accepted
log_line (Refused e c p) = verdict_line e (verdict.Refused c p)
