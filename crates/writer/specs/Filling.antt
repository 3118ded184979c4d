-- Filling a container (document 01, "The writer's one way" and "Causes and places"): states, answers and the lent container.
use Rattle.std.specs.Prelude.{ℕ, ◌%◌, Bool, ◌&&◌, List, [], ◌∷◌, length, take, drop, eqb, ltb, leb, Result, Ok, Err}
use Rattle.lists.specs.Pick.{pick}
use Rattle.lists.specs.Parts.{zeros, pad}
use Rattle.cause.specs.Checks.{Check, check, first_fault, when_accepted, handed, or_else, Verdict, Accepted, Refused}
use Rattle.cause.specs.declared.Fault.{Fault}
use Rattle.cause.specs.declared.Cause.TheVariants.{ContainerLength, HeaderGrantForm, TooLong, InvalidState}
use Rattle.container.specs.Layout.{format_of, container_size}
use Rattle.container.specs.Grants.{plane_allowed}
use Rattle.container.specs.declared.grant.Grant.{Grant}
use Rattle.record.specs.Records.{list_fault, longest_list}
use Rattle.writer.specs.Laying.{filled, owes_after, used_of}
use Rattle.writer.specs.declared.writer.Writer.{Writer}
use Rattle.writer.specs.declared.writer.Answer.{Answer}
use Rattle.writer.specs.declared.writer.Answer.TheVariants as answer
use Rattle.writer.specs.declared.writer.Step.{Step}

-- the tail that a writer owes
abbrev pub tail_of : Writer → List ℕ
tail_of w = take w.len w.tail

-- a valid writer: a format, and a tail of 0, 20, 40, 60, 80 or 100 bytes with zeros behind
abbrev pub writer_ok : Writer → Bool
writer_ok w = ltb w.format 2 && (leb w.len 100 && (eqb (w.len % 20) 0 && zeros (drop w.len w.tail)))

-- a writer of a format that owes t
abbrev pub writer_with : ℕ → List ℕ → Writer
writer_with f t = record { format = f; tail = pad 100 t; len = length t }

-- a writer's start: nothing owed; a format that is none is 19, beside a writer that every step refuses
abbrev pub new_writer : ℕ → Result Writer (Writer × Fault)
new_writer f = handed (pick (ltb f 2) Accepted (Refused InvalidState 0)) (writer_with f [])

-- 19, 1, 18, 4: for a list of so many bytes and a container of so many
unfoldable pub call_checks : Writer → ℕ → Grant → ℕ → List Check
call_checks w length n size =
    check (writer_ok w) InvalidState 0
    ∷ check (eqb size container_size) ContainerLength 0
    ∷ check (leb length longest_list) TooLong 0
    ∷ check (ltb n.rp 8 && plane_allowed n) HeaderGrantForm 0
    ∷ []

-- then 17
unfoldable pub fill_fault : Writer → List ℕ → Grant → ℕ → Verdict
fill_fault w l n size = or_else (first_fault (call_checks w (length l) n size)) (list_fault l)

-- an accepted fill answers the bytes of the list used; a refusal its cause and place
abbrev pub answer_of : Verdict → ℕ → Answer
answer_of (Ok _) used = answer.Accepted used
answer_of (Err fault) used = answer.Refused fault.cause fault.place

-- filling a container of so many bytes: answer and next writer
unfoldable pub filling : Writer → List ℕ → Grant → ℕ → Step
filling w l n size = record {
  writer = when_accepted (fill_fault w l n size) (writer_with w.format (owes_after (format_of w.format) n (tail_of w) l)) w;
  answer = answer_of (fill_fault w l n size) (used_of (format_of w.format) n (tail_of w) l);
}

-- the container after a fill: all its bytes, or as it was
unfoldable pub fill_bytes : Writer → List ℕ → Grant → List ℕ → List ℕ
fill_bytes w l n c = when_accepted (fill_fault w l n (length c)) (filled (format_of w.format) n (tail_of w) l) c
