-- The entries for C by the table: each tells in one number what the entry behind it answers, and a refusal leaves every byte lent as it was.
use Rattle.std.specs.Prelude.{ℕ, ◌/◌, ◌%◌, ◌≤◌, ◌<◌, ◌≡◌, List, [], ◌⊎◌, ◌↔◌, length, get_or, Err, Option}
use Rattle.lists.specs.Parts.{IsBytes}
use Rattle.cause.specs.Causes.{cause_number}
use Rattle.cause.specs.declared.Cause.{Cause}
use Rattle.cause.specs.declared.Cause.TheVariants.{InvalidState}
use Rattle.reader.specs.Reading.{reader_with}
use Rattle.ledger.specs.Audit.{fresh_ledger, reported}
use Rattle.ledger.specs.Run.{halted}
use Rattle.ledger.specs.RunRules.{RunRule}
use Rattle.ledger.specs.declared.ledger.Ledger.{Ledger}
use Rattle.feeder.specs.Feeding.{fed_part}
use Rattle.feeder.specs.declared.found.Waiting.{Waiting}
use Rattle.feeder.specs.declared.feed.Answer.TheVariants as ask
use Rattle.host.specs.Check.{check_code, check_room}
use Rattle.host.specs.Feed.{feed_from, asking, Told, feed_code, feed_numbers, feed_room}
use Rattle.probe.specs.Judge.{judge_code}
use Rattle.probe.specs.Fill.{grant_from, writer_from, fill_code, fill_tail, fill_container}
use Rattle.audit_probe.specs.Audit.{max_run, receiver_from, run_from, report_from}
use Rattle.reader.specs.Faults.{ReadFault, JudgeFault}
use Rattle.writer.specs.Faults.{FillFault}
use Rattle.cause.specs.Order.{Named, None}
use Rattle.cause.specs.Checks.{Refused}

-- a code of cause·unit + place tells a cause and a place
abbrev pub Tells : ℕ → ℕ → Cause → ℕ → Type 0
Tells unit code k p = (code / unit ≡ cause_number k) × (code % unit ≡ p)

-- a call of `c2c_fill`: the writer's faults, and before them 19 of a tail array, a grant or an ShC that is none
pub data CallFault (f n : ℕ) (t b l : List ℕ) (bytes : ℕ) : ℕ → ℕ → Type 0 where
  sizes : (length t ≡ 100 → ⊥) ⊎ (length b ≡ 6 → ⊥) ⊎ (2 ≤ get_or b 0 0) → CallFault f n t b l bytes 19 0
  fill : {k p : ℕ} → length t ≡ 100 → length b ≡ 6 → get_or b 0 0 < 2 → FillFault (writer_from f n t) l (grant_from b) bytes k p → CallFault f n t b l bytes k p

-- 33 numbers with pushes of 0 or 1, and the fresh ledger that they describe
pub record Configures (l : List ℕ) : Type 0 where
  pub count : length l ≡ 33
  pub push0 : get_or l 2 0 < 2
  pub push1 : get_or l 18 0 < 2

abbrev pub ledger_from : List ℕ → Ledger
ledger_from l = fresh_ledger (get_or l 0 0) (receiver_from l 1) (receiver_from l 17)

pub record Hosts : Type 0 where
  -- `c2c_check`: "gets 0 or cause·65,536 + place; the room ends as the reader leaves it"
  pub check_refused : (f : ℕ) (c : List ℕ) (room : ℕ) (k : Cause) (p : ℕ) → Tells 65_536 (check_code f c room) k p ↔ Named (ReadFault (reader_with f []) c room) k p
  pub check_accepted : (f : ℕ) (c : List ℕ) (room : ℕ) → (check_code f c room ≡ 0) ↔ None (ReadFault (reader_with f []) c room)
  pub check_memory : (f : ℕ) (c room : List ℕ) → (check_code f c (length room) ≡ 0 → ⊥) → check_room f c room ≡ room
  -- `c2c_judge`
  pub judge_refused : (f : ℕ) (c : List ℕ) (k : Cause) (p : ℕ) → Tells 65_536 (judge_code f c) k p ↔ Named (JudgeFault (reader_with f []) c) k p
  pub judge_accepted : (f : ℕ) (c : List ℕ) → (judge_code f c ≡ 0) ↔ None (JudgeFault (reader_with f []) c)
  -- `c2c_fill`, with a list of bytes
  pub fill_refused : (f n : ℕ) (t b l : List ℕ) (bytes : ℕ) → IsBytes l → (k : Cause) (p : ℕ)
      → Tells 4_294_967_296 (fill_code f n t b l bytes) k p ↔ Named (CallFault f n t b l bytes) k p
  pub fill_memory : (f n : ℕ) (t b l c : List ℕ) → 4_294_967_296 ≤ fill_code f n t b l (length c)
      → (fill_tail f n t b l (length c) ≡ t) × (fill_container f n t b l c ≡ c)
  -- `c2c_feed`: cause, list and place, told by one number
  pub feed_refused : (f : ℕ) (n responses others room : List ℕ) (w : Option Waiting) (k : Cause) (p : ℕ) → (asking f n responses others (length room)).answer ≡ ask.Refused w k p
      → Told (ask.Refused w k p) (length (fed_part f responses others (feed_from n))) (feed_code f n responses others (length room))
      × (feed_numbers f n responses others (length room) ≡ n) × (feed_room f n responses others room ≡ room)
  -- `c2c_audit` and its like: by the rules of a run from the fresh ledger; numbers that describe none are 19
  pub audit_run : (l e : List ℕ) → Configures l → RunRule (ledger_from l) max_run e (run_from l e)
  pub audit_numbers : (l e : List ℕ) → (Configures l → ⊥) → run_from l e ≡ halted (ledger_from l) 0 0 (Refused InvalidState 0)
  -- `c2c_audit_report`
  pub report_behind : (l e : List ℕ) (d p : ℕ) → Configures l → report_from l e d p ≡ reported (run_from l e).ledger d p
  pub report_numbers : (l e : List ℕ) (d p : ℕ) → (Configures l → ⊥) → report_from l e d p ≡ Err (record { cause = InvalidState; place = 0 })
