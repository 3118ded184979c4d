-- Demand 2: reading is exact, the writer's way is the one way, and what was written is read back.
use Rattle.std.specs.Prelude.{ℕ, ◌*◌, ◌≤◌, ◌<◌, ◌≡◌, true, false, List, [], ◌↔◌, length}
use Rattle.lists.specs.Parts.{IsBytes}
use Rattle.container.specs.Layout.{Format, format_of, wide}
use Rattle.container.specs.Table.{Table}
use Rattle.container.specs.Grants.{header_grant}
use Rattle.container.specs.declared.grant.Grant.{Grant}
use Rattle.message.specs.Heads.{is_message}
use Rattle.message.specs.Kinds.{PaysAsCharged}
use Rattle.record.specs.Records.{records_of, AllMessages}
use Rattle.placement.specs.Cells.{Cell}
use Rattle.placement.specs.Rules.{Rules}
use Rattle.placement.specs.Completion.{CarryEnds}
use Rattle.reader.specs.ValidState.{ValidState, HandsOut}
use Rattle.reader.specs.Reading.{reader_ok, carried, records, reading}
use Rattle.reader.specs.declared.reader.Reader.{Reader}
use Rattle.reader.specs.declared.reader.Answer.TheVariants as read
use Rattle.writer.specs.Laying.{container_of}
use Rattle.writer.specs.OneWay.{Way, may_start, may_lie, KeepsWith, KeepsBeneath}
use Rattle.writer.specs.Filling.{tail_of, writer_with, filling, fill_bytes}
use Rattle.round_trip.specs.Calls.{Filling, FillingLeft, GrantsNothing, UsedUp, AllOut, OutSoFar}
use Rattle.writer.specs.declared.writer.Writer.{Writer}
use Rattle.writer.specs.declared.writer.Answer.TheVariants.{Accepted}

-- the twelve cells of a container that an accepted fill of l under n with u bytes used has made of c
pub record Laid (w : Writer) (l : List ℕ) (n : Grant) (c : List ℕ) (u : ℕ) : Type 0 where
  pub cells : List Cell
  pub owes : List ℕ
  pub twelve : length cells ≡ 12
  -- legal means that the container so far, with the message there, keeps every placement rule
  pub legal : (j : ℕ) (m : List ℕ) → j < 12 → (may_start (format_of w.format) n cells j m ≡ true) ↔ KeepsWith (format_of w.format) n cells j m
  -- and beneath a longer message, that it is a Resp or a MiscU, but no Activation, with which the container so far keeps them
  pub beneath : (j : ℕ) (m : List ℕ) → j < 12 → wide (format_of w.format) j ≡ false
      → (may_lie (format_of w.format) n cells j m ≡ true) ↔ KeepsBeneath (format_of w.format) n cells j m
  pub way : Way (format_of w.format) n l cells u owes 0 (tail_of w) 0
  pub bytes : fill_bytes w l n c ≡ container_of (format_of w.format) n cells
  pub next : (filling w l n (length c)).writer ≡ writer_with w.format owes

pub record Demand2 : Type 0 where
  -- document 01, "Container bytes": the granules and the headers lie where the table says
  pub table : Table
  -- "From a valid state and with the room our paper names, a container of either format is read exactly when it keeps the CHI C2C
  -- packing rules as our paper completes them"
  pub read_exactly : (s : Reader) (c : List ℕ) (room : ℕ) → ValidState s → length c ≡ 256 → 352 ≤ room
      → ((reading s c room).answer ≡ read.Accepted (length (records s c)) (header_grant (format_of s.format) c)) ↔ Rules (format_of s.format) (carried s) c
  -- the reader's test of a state is that of the words
  pub valid_exactly : (s : Reader) → (reader_ok s ≡ true) ↔ ValidState s
  -- "and its messages come out in order of completion"
  pub in_order : (s : Reader) (c : List ℕ) → ValidState s → length c ≡ 256 → Rules (format_of s.format) (carried s) c → HandsOut s c
  -- document 02's K11: no message lies in three containers, for a carried one ends in the next, whatever that holds and whether it is
  -- accepted or not
  pub carried_ends : (s : Reader) (c : List ℕ) → ValidState s → length c ≡ 256 → 0 < length (carried s)
      → CarryEnds (format_of s.format) (carried s) c
  -- "The writer fills each container in the one way the paper fixes."
  pub one_way : (w : Writer) (l : List ℕ) (n : Grant) (c : List ℕ) (u : ℕ) → (filling w l n (length c)).answer ≡ Accepted u → Laid w l n c u
  -- which is one: no other twelve cells, bytes used or bytes owed go that way
  pub one_way_only : (fm : Format) (n : Grant) (l t : List ℕ) (es es' : List Cell) (used used' : ℕ) (owes owes' : List ℕ) → length es ≡ 12 → length es' ≡ 12
      → Way fm n l es used owes 0 t 0 → Way fm n l es' used' owes' 0 t 0 → (es ≡ es') × (used ≡ used') × (owes ≡ owes')
  -- "Once a writer started fresh has used up a list and owes no tail, reading its containers in order from a fresh state gives the same
  -- messages in the same order", which document 02's K8 reads as "each once, with those that pay one kind [..] in their order"
  pub returned : (f : ℕ) (l : List ℕ) (cs : List (List ℕ)) (ns : List Grant) (w : Writer) → f < 2
      → FillingLeft (writer_with f []) l cs ns (length l) w → length (tail_of w) ≡ 0 → AllOut f cs ns l
  -- before that, and with any list at each call: what has come out and what is under way are what was used
  pub so_far : (f : ℕ) (cs : List (List ℕ)) (ns : List Grant) (used : List ℕ) (w : Writer) → f < 2 → Filling (writer_with f []) cs ns used w → OutSoFar f cs ns used w
  -- the kinds that order them are those of the pools that the audit charges
  pub kinds : (m : List ℕ) → is_message m ≡ true → PaysAsCharged m
  -- "From fresh and with zero grants, n messages are all finished within 2n containers", and within n, whatever the grants, one for each
  -- container, as long as their counts are zero and their form is allowed
  pub bound : (f : ℕ) (l : List ℕ) (ms : List (List ℕ)) (n : ℕ → Grant) → f < 2 → IsBytes l → length l ≤ 4096 → l ≡ records_of ms → AllMessages ms
      → ((i : ℕ) → GrantsNothing (n i)) → UsedUp f l n (length ms) × UsedUp f l n (2 * length ms)
