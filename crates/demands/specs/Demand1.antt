-- Demand 1: a refusal changes no state and no byte of lent memory, and names the cause and the place of the table; that every input is
-- answered, and that every call ends, is in the contracts, since no public entry has a `requires`.
use Rattle.std.specs.Prelude.{ℕ, ◌≡◌, Bool, List, [], ◌↔◌, length, Err, Ok, Option}
use Rattle.lists.specs.Parts.{IsBytes}
use Rattle.cause.specs.declared.Cause.{Cause}
use Rattle.cause.specs.declared.Cause.TheVariants.{MissingPool, MissingGrantPool}
use Rattle.container.specs.Layout.{format_of, msg_start}
use Rattle.container.specs.Grants.{header_grant}
use Rattle.container.specs.declared.grant.Grant.{Grant}
use Rattle.record.specs.Records.{list_fault}
use Rattle.reader.specs.Reading.{reader_with, records, reading, read_room, judging}
use Rattle.reader.specs.Reading as reader
use Rattle.reader.specs.declared.reader.Reader.{Reader}
use Rattle.reader.specs.declared.reader.Answer.TheVariants as read
use Rattle.reader.specs.declared.reader.JudgeAnswer.TheVariants as judge
use Rattle.ledger.specs.Audit.{held_of, open_of, fresh_ledger, new_ledger, auditing, reported}
use Rattle.ledger.specs.Run.{run_over}
use Rattle.ledger.specs.RunRules.{RunRule}
use Rattle.logs.specs.Stream.{consuming}
use Rattle.logs.specs.LogRules.{Consumes}
use Rattle.pools.specs.declared.receiver.Receiver.{Receiver}
use Rattle.ledger.specs.declared.entries.Run.{Run}
use Rattle.logs.specs.declared.log.LogReader.{LogReader}
use Rattle.logs.specs.declared.log.Consumed.{Consumed}
use Rattle.ledger.specs.declared.ledger.Ledger.{Ledger}
use Rattle.writer.specs.Laying.{used_of}
use Rattle.writer.specs.Filling.{tail_of, writer_with, filling, fill_bytes}
use Rattle.writer.specs.Filling as writer
use Rattle.writer.specs.declared.writer.Writer.{Writer}
use Rattle.writer.specs.declared.writer.Answer.TheVariants as fill
use Rattle.feeder.specs.Feeding.{feeding, fed_part}
use Rattle.feeder.specs.Rules.{Rule}
use Rattle.feeder.specs.declared.found.Waiting.{Waiting}
use Rattle.feeder.specs.declared.feed.Feed.{Feed}
use Rattle.feeder.specs.declared.feed.Answer.TheVariants as ask
use Rattle.feeder.specs.declared.feed.Step.{Step}
use Rattle.reader.specs.Faults.{ReadFault, JudgeFault}
use Rattle.ledger.specs.Faults.{AuditFault, MessageLacksPool, GrantLacksPool, FreshFault, ReportFault}
use Rattle.writer.specs.Faults.{ListFault, FillFault}
use Rattle.demands.specs.Faults.{FormatFault}
use Rattle.demands.specs.Hosts.{Hosts}
use Rattle.cause.specs.Order.{Named, None}
use Rattle.cause.specs.Checks.{Accepted, Refused}

-- "A refusal changes no state and no byte of lent memory"
pub record Untouched : Type 0 where
  -- the reader, with any container and any room
  pub read_state : (s : Reader) (c room : List ℕ) (k : Cause) (p : ℕ) → (reading s c (length room)).answer ≡ read.Refused k p → (reading s c (length room)).reader ≡ s
  pub read_memory : (s : Reader) (c room : List ℕ) (k : Cause) (p : ℕ) → (reading s c (length room)).answer ≡ read.Refused k p → read_room s c room ≡ room
  -- the judging entry, which lends no memory
  pub judge_state : (s : Reader) (c : List ℕ) (k : Cause) (p : ℕ) → (judging s c).answer ≡ judge.Refused k p → (judging s c).reader ≡ s
  -- the writer, with any list, any grant and any container
  pub fill_state : (w : Writer) (l : List ℕ) (n : Grant) (c : List ℕ) (k : Cause) (p : ℕ) → (filling w l n (length c)).answer ≡ fill.Refused k p → (filling w l n (length c)).writer ≡ w
  pub fill_memory : (w : Writer) (l : List ℕ) (n : Grant) (c : List ℕ) (k : Cause) (p : ℕ) → (filling w l n (length c)).answer ≡ fill.Refused k p → fill_bytes w l n c ≡ c
  -- the audit, with any ledger, any direction number and any container; it lends no memory
  pub audit_state : (s : Ledger) (d : ℕ) (c : List ℕ) (k : Cause) (p : ℕ) → (auditing s d c).answer ≡ Refused k p → (auditing s d c).ledger ≡ s
  -- the feeder, with any lists and any feed; a refusal hands out no byte of them
  pub ask_state : (f : ℕ) (responses others : List ℕ) (s : Feed) (w : Option Waiting) (k : Cause) (p : ℕ) → (feeding f responses others s).answer ≡ ask.Refused w k p → (feeding f responses others s).feed ≡ s
  pub ask_part : (f : ℕ) (responses others : List ℕ) (s : Feed) (w : Option Waiting) (k : Cause) (p : ℕ) → (feeding f responses others s).answer ≡ ask.Refused w k p → fed_part f responses others s ≡ []

-- "A bad one is refused with a cause and a place from the fixed table": with those of a row that holds and that no row of a lower rank
-- comes before; what no row holds of is accepted
pub record TableOfCauses : Type 0 where
  -- the reader, with any container and any room
  pub read_refused : (s : Reader) (c : List ℕ) (room : ℕ) (k : Cause) (p : ℕ) → ((reading s c room).answer ≡ read.Refused k p) ↔ Named (ReadFault s c room) k p
  pub read_accepted : (s : Reader) (c : List ℕ) (room : ℕ)
      → ((reading s c room).answer ≡ read.Accepted (length (records s c)) (header_grant (format_of s.format) c)) ↔ None (ReadFault s c room)
  -- the judging entry
  pub judge_refused : (s : Reader) (c : List ℕ) (k : Cause) (p : ℕ) → ((judging s c).answer ≡ judge.Refused k p) ↔ Named (JudgeFault s c) k p
  pub judge_accepted : (s : Reader) (c : List ℕ)
      → ((judging s c).answer ≡ judge.Accepted (header_grant (format_of s.format) c) (msg_start (format_of s.format) c)) ↔ None (JudgeFault s c)
  -- the audit, with any ledger, any direction number and any container
  pub audit_refused : (s : Ledger) (d : ℕ) (c : List ℕ) (k : Cause) (p : ℕ) → ((auditing s d c).answer ≡ Refused k p) ↔ Named (AuditFault s d c) k p
  pub audit_accepted : (s : Ledger) (d : ℕ) (c : List ℕ) → ((auditing s d c).answer ≡ Accepted) ↔ None (AuditFault s d c)
  -- the writer, with any list of bytes, any grant and any container
  pub fill_refused : (w : Writer) (l : List ℕ) (n : Grant) (bytes : ℕ) → IsBytes l → (k : Cause) (p : ℕ)
      → ((filling w l n bytes).answer ≡ fill.Refused k p) ↔ Named (FillFault w l n bytes) k p
  pub fill_accepted : (w : Writer) (l : List ℕ) (n : Grant) (bytes : ℕ) → IsBytes l
      → ((filling w l n bytes).answer ≡ fill.Accepted (used_of (format_of w.format) n (tail_of w) l)) ↔ None (FillFault w l n bytes)
  -- the check of a list of bytes
  pub list_refused : (l : List ℕ) → IsBytes l → (k : Cause) (p : ℕ) → (list_fault l ≡ Refused k p) ↔ Named (ListFault l) k p
  pub list_accepted : (l : List ℕ) → IsBytes l → (list_fault l ≡ Accepted) ↔ None (ListFault l)
  -- a new reader and a new writer, with any format number
  pub reader_refused : (f : ℕ) (k : Cause) (p : ℕ) → (reader.new_reader f ≡ Err (reader_with f [], record { cause = k; place = p })) ↔ Named (FormatFault f) k p
  pub reader_accepted : (f : ℕ) → (reader.new_reader f ≡ Ok (reader_with f [])) ↔ None (FormatFault f)
  pub writer_refused : (f : ℕ) (k : Cause) (p : ℕ) → (writer.new_writer f ≡ Err (writer_with f [], record { cause = k; place = p })) ↔ Named (FormatFault f) k p
  pub writer_accepted : (f : ℕ) → (writer.new_writer f ≡ Ok (writer_with f [])) ↔ None (FormatFault f)
  -- a new ledger, with any format number and any receivers
  pub new_ledger_refused : (f : ℕ) (a b : Receiver) (k : Cause) (p : ℕ) → (new_ledger f a b ≡ Err (fresh_ledger f a b, record { cause = k; place = p })) ↔ Named (FreshFault f a b) k p
  pub new_ledger_accepted : (f : ℕ) (a b : Receiver) → (new_ledger f a b ≡ Ok (fresh_ledger f a b)) ↔ None (FreshFault f a b)
  -- the report of any ledger, direction and pool number
  pub report_refused : (s : Ledger) (d p : ℕ) (k : Cause) (q : ℕ) → (reported s d p ≡ Err (record { cause = k; place = q })) ↔ Named (ReportFault s d p) k q
  pub report_counted : (s : Ledger) (d p : ℕ)
      → (reported s d p ≡ Ok (record { held = record { 0 = held_of s d p }; opened = record { 0 = open_of s d p } })) ↔ None (ReportFault s d p)

-- "a message and a grant come from different sides of the books" (document 02, K1): whose pool is missing, by the cause of a refusal
pub record MissingPools : Type 0 where
  -- 14 at p: the message which starts in granule p lacks a pool of the receiver of its own direction
  pub of_message : (s : Ledger) (d : ℕ) (c : List ℕ) (p : ℕ) → (auditing s d c).answer ≡ Refused MissingPool p → MessageLacksPool s d c p
  -- 21 at p: the header's grant (p is 12) or the CrdtGrant in granule p lacks a pool of the opposite direction's receiver
  pub of_grant : (s : Ledger) (d : ℕ) (c : List ℕ) (p : ℕ) → (auditing s d c).answer ≡ Refused MissingGrantPool p → GrantLacksPool s d c p

pub record Demand1 : Type 0 where
  -- "A bad one is refused with a cause and a place from the fixed table."
  pub table : TableOfCauses
  -- a message that lacks a pool is told from a grant that does
  pub missing_pools : MissingPools
  -- "A refusal changes no state and no byte of lent memory"
  pub untouched : Untouched
  -- a run over at most so many entries, with any ledger and any bytes: the only outcome that its rules allow; with a refusal the ledger is
  -- the one behind the entries accepted before
  pub run_follows : (s : Ledger) (limit : ℕ) (l : List ℕ) → RunRule s limit l (run_over s limit l)
  pub run_only : (s : Ledger) (limit : ℕ) (l : List ℕ) (r : Run) → RunRule s limit l r → r ≡ run_over s limit l
  -- a call of the log in parts, with any state and any bytes, likewise
  pub consume_follows : (s : LogReader) (b : List ℕ) (ended : Bool) → Consumes s b ended (consuming s b ended)
  pub consume_only : (s : LogReader) (b : List ℕ) (ended : Bool) (r : Consumed) → Consumes s b ended r → r ≡ consuming s b ended
  -- an ask of the feeder, with any feed and any lists of bytes, likewise
  pub ask_follows : (f : ℕ) (responses others : List ℕ) (s : Feed) → IsBytes responses → IsBytes others
      → Rule f responses others s (feeding f responses others s) (fed_part f responses others s)
  pub ask_only : (f : ℕ) (responses others : List ℕ) (s : Feed) → IsBytes responses → IsBytes others → (t : Step) (bytes : List ℕ)
      → Rule f responses others s t bytes → (t ≡ feeding f responses others s) × (bytes ≡ fed_part f responses others s)
  -- the entries for C
  pub hosts : Hosts
