-- The writer's fill for tests written in C: one call over lent bytes.
use Rattle.std.specs.Prelude.{ℕ, ◌+◌, ◌*◌, ◌≤◌, Bool, ◌&&◌, List, length, get_or, eqb, ltb}
use Rattle.lists.specs.Pick.{pick}
use Rattle.cause.specs.Causes.{cause_number}
use Rattle.container.specs.declared.grant.Grant.{Grant}
use Rattle.writer.specs.Filling.{filling, fill_bytes}
use Rattle.writer.specs.declared.writer.Writer.{Writer}
use Rattle.writer.specs.declared.writer.Answer.{Answer}
use Rattle.writer.specs.declared.writer.Answer.TheVariants.{Accepted, Refused}
use Rattle.writer.specs.declared.writer.Step.{Step}

-- the grant of six bytes ShC, RP, REQ, RSP, SNP and DAT
abbrev pub grant_from : List ℕ → Grant
grant_from b = record {
  shc = eqb (get_or b 0 0) 1;
  rp = get_or b 1 0;
  req = get_or b 2 0;
  rsp = get_or b 3 0;
  snp = get_or b 4 0;
  dat = get_or b 5 0;
}

-- the writer of a format whose tail array is t and whose tail has n bytes
abbrev pub writer_from : ℕ → ℕ → List ℕ → Writer
writer_from f n t = record { format = f; tail = t; len = n }

-- bytes used·256 + the tail's new length, or cause·4,294,967,296 + place
abbrev pub answer_code : Answer → ℕ → ℕ
answer_code (Accepted used) len = used * 256 + len
answer_code (Refused c p) len = cause_number c * 4_294_967_296 + p

-- the numbers of an answer are small
abbrev pub Small : Answer → ℕ → Type 0
Small (Accepted used) len = (used ≤ 4096) × (len ≤ 100)
Small (Refused c p) len = p ≤ 4096

-- a tail array of 100 bytes, and a grant of six, of which ShC is 0 or 1
abbrev pub sized : List ℕ → List ℕ → Bool
sized t b = eqb (length t) 100 && (eqb (length b) 6 && ltb (get_or b 0 0) 2)

-- the fill that a call asks for, into a container of so many bytes
abbrev pub asked : ℕ → ℕ → List ℕ → List ℕ → List ℕ → ℕ → Step
asked f n t b l size = filling (writer_from f n t) l (grant_from b) size

-- the answer; 19 where the tail array or the grant has another size, or ShC is neither 0 nor 1
unfoldable pub fill_code : ℕ → ℕ → List ℕ → List ℕ → List ℕ → ℕ → ℕ
fill_code f n t b l size =
    pick (sized t b) (answer_code (asked f n t b l size).answer (asked f n t b l size).writer.len) (19 * 4_294_967_296)

-- the tail array afterwards
unfoldable pub fill_tail : ℕ → ℕ → List ℕ → List ℕ → List ℕ → ℕ → List ℕ
fill_tail f n t b l size = pick (sized t b) (asked f n t b l size).writer.tail t

-- the container afterwards
unfoldable pub fill_container : ℕ → ℕ → List ℕ → List ℕ → List ℕ → List ℕ → List ℕ
fill_container f n t b l c = pick (sized t b) (fill_bytes (writer_from f n t) l (grant_from b) c) c
