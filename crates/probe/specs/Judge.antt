-- The judging of one container from a fresh state, as one number.
use Rattle.std.specs.Prelude.{ℕ, ◌+◌, ◌*◌, List, []}
use Rattle.cause.specs.Causes.{cause_number}
use Rattle.reader.specs.Reading.{reader_with, judging}
use Rattle.reader.specs.declared.reader.JudgeAnswer.{JudgeAnswer}
use Rattle.reader.specs.declared.reader.JudgeAnswer.TheVariants.{Accepted, Refused}

-- 0, or cause·65,536 + place
abbrev pub code_of : JudgeAnswer → ℕ
code_of (Accepted grant msgstart) = 0
code_of (Refused c p) = cause_number c * 65_536 + p

-- the judging of container c in format f
unfoldable pub judge_code : ℕ → List ℕ → ℕ
judge_code f c = code_of (judging (reader_with f []) c).answer
