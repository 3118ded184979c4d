-- What a call of the log in parts gives, as rules (document 01, "The log and the host").
use Rattle.std.specs.Prelude.{ℕ, ◌+◌, ◌*◌, ◌≤◌, ◌<◌, ◌≡◌, Bool, true, false, List, [], ◌∷◌, ◌++◌, ◌⊎◌, length, drop}
use Rattle.cause.specs.declared.Cause.{Cause}
use Rattle.cause.specs.declared.Cause.TheVariants.{BrokenRecord, TooLong, InvalidState}
use Rattle.record.specs.Number.{read_number, Broken, Value}
use Rattle.pools.specs.PoolRules.{Exists}
use Rattle.ledger.specs.Audit.{auditing}
use Rattle.logs.specs.Log.{receiver_at}
use Rattle.logs.specs.Stream.{max_entries, stopped_at, started, Outcome, More, Over}
use Rattle.ledger.specs.Calls.{Entry, AllAccepted, behind, entry_of, Enters, NoEntry}
use Rattle.ledger.specs.ValidLedger.{ValidLedger}
use Rattle.ledger.specs.declared.ledger.Ledger.{Ledger}
use Rattle.logs.specs.declared.log.LogVerdict.TheVariants.{Accepted, Refused}
use Rattle.logs.specs.declared.log.LogReader.{LogReader}
use Rattle.logs.specs.declared.log.Consumed.{Consumed}
use Rattle.cause.specs.Checks as verdict

-- ---- the configuration: "format, then for each direction N, push (0 or 1), 14 capacities"

-- number v may stand behind the numbers ns
pub data Suits (ns : List ℕ) (v : ℕ) : Type 0 where
  format : length ns ≡ 0 → v < 2 → Suits ns v
  -- direction d: "N planes (1 to 8)"
  planes : (d : ℕ) → d < 2 → length ns ≡ 16 * d + 1 → 1 ≤ v → v ≤ 8 → Suits ns v
  push : (d : ℕ) → d < 2 → length ns ≡ 16 * d + 2 → v < 2 → Suits ns v
  -- "14 capacities of 0 to 1,023", "a nonzero capacity of a missing pool is 19"
  capacity : (d p : ℕ) → d < 2 → p < 14 → length ns ≡ 16 * d + 3 + p → v ≤ 1023 → ((Exists (receiver_at ns (16 * d + 1)) p → ⊥) → v ≡ 0) → Suits ns v

-- the numbers ns stand at the front of l, each of which may stand there, and end at byte n
pub data Numbers (l : List ℕ) : List ℕ → ℕ → Type 0 where
  none : Numbers l [] 0
  next : {ns : List ℕ} {n : ℕ} (v u : ℕ) → Numbers l ns n → read_number (drop n l) ≡ Value v u → Suits ns v → Numbers l (ns ++ (v ∷ [])) (n + u)

-- "Numbers are judged in order, 17 before 19": the first of 33 that is broken, or may not stand where it stands, by cause and place
pub data ConfigurationFault (l : List ℕ) : Cause → ℕ → Type 0 where
  -- 17 | broken number | byte offset of the number
  broken : (ns : List ℕ) (n : ℕ) → Numbers l ns n → length ns < 33 → read_number (drop n l) ≡ Broken → ConfigurationFault l BrokenRecord n
  -- 19 | format or configuration not valid | 0
  invalid : (ns : List ℕ) (n v u : ℕ) → Numbers l ns n → length ns < 33 → read_number (drop n l) ≡ Value v u → (Suits ns v → ⊥) → ConfigurationFault l InvalidState 0

-- ---- the entries

-- what is at the front of l is not cut short by what is yet to come: the log has ended, or there are as many bytes as an entry may have
abbrev pub Enough : List ℕ → Bool → Type 0
Enough l ended = (ended ≡ true) ⊎ (261 ≤ length l)

-- what is said behind e entries and o bytes, where l is left and `ended` says that no more comes
pub data Says (s : Ledger) (e o : ℕ) (l : List ℕ) (ended : Bool) : Outcome → Type 0 where
  -- "accepted E"
  accepts : length l ≡ 0 → ended ≡ true → Says s e o l ended (Over (Accepted e))
  -- 18 | log over 16,777,215 entries | 0: "as soon as a byte of it is seen"
  long : 0 < length l → max_entries ≤ e → Says s e o l ended (Over (Refused e TooLong 0))
  -- 17 | broken number | byte offset of the log entry
  broken : 0 < length l → e < max_entries → Enough l ended → read_number l ≡ Broken → Says s e o l ended (Over (Refused e BrokenRecord o))
  -- 17 | log entry cut short | byte offset of the log entry
  cut : (v u : ℕ) → e < max_entries → ended ≡ true → read_number l ≡ Value v u → length l < u + 256 → Says s e o l ended (Over (Refused e BrokenRecord o))
  -- the audit refuses the entry
  refuses : (v u : ℕ) (k : Cause) (p : ℕ) → e < max_entries → read_number l ≡ Value v u → u + 256 ≤ length l
      → (auditing s (entry_of l v u).direction (entry_of l v u).container).answer ≡ verdict.Refused k p → Says s e o l ended (Over (Refused e k p))
  -- more bytes are asked for where the entry is not whole, and may yet be
  asks : ended ≡ false → (e < max_entries) ⊎ (length l ≡ 0) → length l < 261 → NoEntry l → Says s e o l ended More

-- the state behind accepted entries of so many bytes: the old state of the entry that is refused behind them ("A refusal carries its cause
-- inside the answer, and the old state")
abbrev pub passed : LogReader → List Entry → ℕ → LogReader
passed s es n = record { ledger = behind s.ledger es; entries = s.entries + length es; offset = s.offset + n }

-- from state s, the entries from byte n of b on
pub record Goes (s : LogReader) (b : List ℕ) (n : ℕ) (ended : Bool) (r : Consumed) : Type 0 where
  pub calls : List Entry
  pub bytes : ℕ
  pub front : Enters (drop n b) calls bytes
  pub few : s.entries + length calls ≤ max_entries
  pub accepted : AllAccepted s.ledger calls
  pub reader : r.reader ≡ passed s calls bytes
  pub used : r.used ≡ n + bytes
  pub says : Says (behind s.ledger calls) (s.entries + length calls) (s.offset + bytes) (drop (n + bytes) b) ended r.outcome

-- a valid state: before the configuration nothing is accepted or used, and behind it there are as many bytes as it and the entries may have
pub data ValidLog (s : LogReader) : Type 0 where
  fresh : s.offset ≡ 0 → s.entries ≡ 0 → ValidLog s
  running : s.entries ≤ max_entries → 33 + 257 * s.entries ≤ s.offset → s.offset ≤ 165 + 261 * s.entries → ValidLedger s.ledger → ValidLog s

-- a call with the bytes b
pub data Consumes (s : LogReader) (b : List ℕ) (ended : Bool) : Consumed → Type 0 where
  -- 19 | state not valid | 0
  invalid : (ValidLog s → ⊥) → Consumes s b ended (stopped_at 0 s (Over (Refused s.entries InvalidState 0)))
  -- the configuration is judged when enough is there
  waits : ValidLog s → s.offset ≡ 0 → (Enough b ended → ⊥) → Consumes s b ended (stopped_at 0 s More)
  misconfigured : (k : Cause) (p : ℕ) → ValidLog s → s.offset ≡ 0 → Enough b ended → ConfigurationFault b k p
      → Consumes s b ended (stopped_at 0 s (Over (Refused 0 k p)))
  -- the entries behind it, and those of a later call
  starts : {r : Consumed} (ns : List ℕ) (n : ℕ) → ValidLog s → s.offset ≡ 0 → Enough b ended → Numbers b ns n → length ns ≡ 33
      → Goes (started ns n) b n ended r → Consumes s b ended r
  goes_on : {r : Consumed} → ValidLog s → 0 < s.offset → Goes s b 0 ended r → Consumes s b ended r
