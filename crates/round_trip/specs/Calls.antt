-- Sequences of calls of the writer and of the reader (demand 2).
use Rattle.std.specs.Prelude.{ℕ, zero, suc, ◌+◌, ◌≤◌, ◌<◌, ◌≡◌, true, false, List, [], ◌∷◌, ◌++◌, length, take, drop, eqb}
use Rattle.lists.specs.Pick.{pick}
use Rattle.lists.specs.Parts.{IsBytes}
use Rattle.container.specs.Grants.{no_counts, plane_allowed}
use Rattle.container.specs.declared.grant.Grant.{Grant}
use Rattle.record.specs.Records.{records_of}
use Rattle.reader.specs.Reading.{carried, records, reader_with, reading}
use Rattle.reader.specs.declared.reader.Reader.{Reader}
use Rattle.reader.specs.declared.reader.Answer.TheVariants as read
use Rattle.writer.specs.Filling.{tail_of, writer_with, filling, fill_bytes}
use Rattle.writer.specs.declared.writer.Writer.{Writer}
use Rattle.writer.specs.declared.writer.Answer.TheVariants as fill
use Rattle.writer.specs.SameMessages.{SameMessages}

-- an accepted fill: the writer w fills c from the list l under the grant n, uses u bytes of l, and becomes w'
pub record Fills (w : Writer) (l : List ℕ) (n : Grant) (c : List ℕ) (u : ℕ) (w' : Writer) : Type 0 where
  pub answer : (filling w l n 256).answer ≡ fill.Accepted u
  pub next : (filling w l n 256).writer ≡ w'
  pub bytes : (old : List ℕ) → length old ≡ 256 → fill_bytes w l n old ≡ c
  pub of_bytes : IsBytes l

-- accepted fills one after the other, each with any list and any grant: the containers, the grants, and the records used
pub data Filling (w : Writer) : List (List ℕ) → List Grant → List ℕ → Writer → Type 0 where
  none : Filling w [] [] [] w
  then : {cs : List (List ℕ)} {ns : List Grant} {used : List ℕ} {w₁ w₂ : Writer} {c : List ℕ} (l : List ℕ) (n : Grant) (u : ℕ)
      → Filling w cs ns used w₁ → Fills w₁ l n c u w₂ → Filling w (cs ++ (c ∷ [])) (ns ++ (n ∷ [])) (used ++ take u l) w₂

-- accepted fills of one list, each with any grant and with what is left of the list: the containers, the grants, and the bytes used
pub data FillingLeft (w : Writer) (l : List ℕ) : List (List ℕ) → List Grant → ℕ → Writer → Type 0 where
  none : FillingLeft w l [] [] 0 w
  then : {cs : List (List ℕ)} {ns : List Grant} {at : ℕ} {w₁ w₂ : Writer} {c : List ℕ} (n : Grant) (u : ℕ)
      → FillingLeft w l cs ns at w₁ → Fills w₁ (drop at l) n c u w₂ → FillingLeft w l (cs ++ (c ∷ [])) (ns ++ (n ∷ [])) (at + u) w₂

-- a grant of nothing
abbrev pub zero_grant : Grant
zero_grant = record { shc = false; rp = 0; req = 0; rsp = 0; snp = 0; dat = 0 }

-- a grant of nothing that the writer takes: its four counts are zero, and its form is allowed
pub record GrantsNothing (n : Grant) : Type 0 where
  pub no_counts_held : no_counts n ≡ true
  pub low : n.rp < 8
  pub allowed : plane_allowed n ≡ true

-- grants whose four counts are zero
abbrev pub AllNoCounts : List Grant → Type 0
AllNoCounts [] = Unit {0}
AllNoCounts (n ∷ ns) = (no_counts n ≡ true) × AllNoCounts ns

-- the first k grants, n i being that of fill i
abbrev pub first_grants : (ℕ → Grant) → ℕ → List Grant
first_grants n zero = []
first_grants n (suc k) = first_grants n k ++ (n k ∷ [])

-- fills of a list, fill i under the grant n i, that use it up with no tail owed, at most p of them
pub record UsedUp (f : ℕ) (l : List ℕ) (n : ℕ → Grant) (p : ℕ) : Type 0 where
  pub containers : List (List ℕ)
  pub writer : Writer
  pub fills : FillingLeft (writer_with f []) l containers (first_grants n (length containers)) (length l) writer
  pub owes_none : length (tail_of writer) ≡ 0
  pub few : length containers ≤ p

-- an accepted reading: the reader s reads c, answers the grant n, hands out the records out, and becomes s'
pub record Reads (s : Reader) (c : List ℕ) (n : Grant) (out : List ℕ) (s' : Reader) : Type 0 where
  pub answer : (room : ℕ) → 352 ≤ room → (reading s c room).answer ≡ read.Accepted (length out) n
  pub next : (room : ℕ) → 352 ≤ room → (reading s c room).reader ≡ s'
  pub handed : records s c ≡ out

-- accepted readings one after the other: the containers, the grants answered, and the records handed out
pub data Reading (s : Reader) : List (List ℕ) → List Grant → List ℕ → Reader → Type 0 where
  none : Reading s [] [] [] s
  then : {cs : List (List ℕ)} {ns : List Grant} {out more : List ℕ} {s₁ s₂ : Reader} {c : List ℕ} {n : Grant}
      → Reading s cs ns out s₁ → Reads s₁ c n more s₂ → Reading s (cs ++ (c ∷ [])) (ns ++ (n ∷ [])) (out ++ more) s₂

-- the message that is begun and not yet finished, none or one: what is carried and the tail owed
abbrev pub under_way : Reader → Writer → List (List ℕ)
under_way s w = pick (eqb (length (tail_of w)) 0) [] ((carried s ++ tail_of w) ∷ [])

-- what a new reader hands out of containers is all messages that were used
pub record AllOut (f : ℕ) (cs : List (List ℕ)) (ns : List Grant) (used : List ℕ) : Type 0 where
  pub reader : Reader
  pub out : List (List ℕ)
  pub taken : List (List ℕ)
  pub readings : Reading (reader_with f []) cs ns (records_of out) reader
  pub is_used : used ≡ records_of taken
  pub same : SameMessages f out taken

-- before the tail of the writer w is paid, what a new reader hands out and what is under way are, together, the messages that were used
pub record OutSoFar (f : ℕ) (cs : List (List ℕ)) (ns : List Grant) (used : List ℕ) (w : Writer) : Type 0 where
  pub reader : Reader
  pub out : List (List ℕ)
  pub taken : List (List ℕ)
  pub readings : Reading (reader_with f []) cs ns (records_of out) reader
  pub is_used : used ≡ records_of taken
  pub same : SameMessages f (out ++ under_way reader w) taken
