-- A log read in parts (document 01, "The log and the host"): what one call makes of the bytes at hand.
use Rattle.std.specs.Prelude.{ℕ, zero, suc, ◌+◌, ◌-◌, ◌*◌, ◌≤◌, ◌≡◌, Bool, true, false, ◌&&◌, List, length, drop, replicate, ltb, leb, eqb, Option, Some, None}
use Rattle.lists.specs.Pick.{pick}
use Rattle.cause.specs.declared.Cause.TheVariants.{TooLong, InvalidState}
use Rattle.record.specs.Number.{read_number}
use Rattle.record.specs.declared.number.Number.{Number}
use Rattle.ledger.specs.Audit.{ledger_ok}
use Rattle.logs.specs.Log.{ConfigurationAnswer, misconfigures, configures, configuration_at, ledger_of, next_of, after, entries_from, verdict_by, number_count}
use Rattle.ledger.specs.declared.ledger.Ledger.{Ledger}
use Rattle.logs.specs.declared.log.LogVerdict.{LogVerdict}
use Rattle.logs.specs.declared.log.LogVerdict.TheVariants.{Accepted, Refused}
use Rattle.logs.specs.declared.log.LogReader.{LogReader}
use Rattle.logs.specs.declared.log.Consumed.{Consumed}
use Rattle.container.specs.Layout.{container_size}

-- what a call comes to: more bytes are asked for, or the verdict is there
abbrev pub Outcome : Type 0
Outcome = Option LogVerdict

abbrev pub More : Outcome
More = None

abbrev pub Over : LogVerdict → Outcome
Over v = Some v

-- the most entries of a log
abbrev pub max_entries : ℕ
max_entries = 16777215

-- the bytes that a configuration may have, and those of an entry
abbrev pub shortest_configuration : ℕ
shortest_configuration = 33

abbrev pub longest_configuration : ℕ
longest_configuration = 165

abbrev pub shortest_entry : ℕ
shortest_entry = 257

abbrev pub longest_entry : ℕ
longest_entry = 261

-- the bytes of the entry at the front of l are there, by its number
abbrev pub whole : List ℕ → Option Number → Bool
whole l None = false
whole l (Some number) = leb (number.used + container_size) (length l)

-- nothing that may follow changes the entry at the front of l: the log has ended, no entry has more bytes, or its bytes are there
abbrev pub settled : List ℕ → Bool → Bool
settled l ended = pick ended true (pick (leb longest_entry (length l)) true (whole l (read_number l)))

-- an entry begins at the front of l, behind e entries, and can be judged
abbrev pub ready : ℕ → List ℕ → Bool → Bool
ready e l ended = pick (eqb (length l) 0) false (pick (leb max_entries e) false (settled l ended))

-- what is said where no entry can be judged: one entry too many is 18 as soon as a byte of it is seen
abbrev pub closing : ℕ → ℕ → Bool → Outcome
closing e left ended =
    pick (eqb left 0) (pick ended (Over (Accepted e)) More) (pick (ltb e max_entries) More (Over (Refused e TooLong 0)))

-- a call that has used `at` bytes
abbrev pub stopped_at : ℕ → LogReader → Outcome → Consumed
stopped_at at s o = record { reader = s; used = at; outcome = o }

-- the state behind an accepted entry of u bytes
abbrev pub stepped : LogReader → Ledger → ℕ → LogReader
stepped s next u = record { ledger = next; entries = s.entries + 1; offset = s.offset + u }

-- as many entries as can be judged, at most k, from byte `at` of b on
unfoldable pub read_from : ℕ → Bool → List ℕ → ℕ → LogReader → Consumed
read_from zero ended b at s = stopped_at at s (closing s.entries (length (drop at b)) ended)
read_from (suc k) ended b at s =
    pick (ready s.entries (drop at b) ended)
    (after (next_of s.ledger s.entries s.offset (drop at b))
    (λ v. stopped_at at s (Over v))
    (λ next u. read_from k ended b (at + u) (stepped s next u)))
    (stopped_at at s (closing s.entries (length (drop at b)) ended))

-- the state behind a configuration of n bytes
abbrev pub started : List ℕ → ℕ → LogReader
started ns n = record { ledger = ledger_of ns; entries = 0; offset = n }

-- a configuration, and the entries behind it
abbrev pub start_by : LogReader → List ℕ → Bool → ConfigurationAnswer → Consumed
start_by s b ended (misconfigures c p) = stopped_at 0 s (Over (Refused 0 c p))
start_by s b ended (configures ns n) = read_from max_entries ended b n (started ns n)

-- a call before the configuration, which is judged when 261 bytes are at hand or the log has ended
abbrev pub beginning : LogReader → List ℕ → Bool → Consumed
beginning s b ended = pick (pick ended true (leb longest_entry (length b))) (start_by s b ended (configuration_at b)) (stopped_at 0 s More)

-- a valid state behind the configuration: a valid ledger, no more than 16,777,215 entries, and as many bytes as they and the
-- configuration may have: 33 to 165 the configuration, 257 to 261 an entry
pub record Running (s : LogReader) : Type 0 where
  pub few : s.entries ≤ max_entries
  pub far : shortest_configuration + shortest_entry * s.entries ≤ s.offset
  pub near : s.offset ≤ longest_configuration + longest_entry * s.entries
  pub kept : ledger_ok s.ledger ≡ true

-- a valid state: before the configuration nothing is accepted or used
unfoldable pub valid_state : LogReader → Bool
valid_state s =
    pick (eqb s.offset 0) (eqb s.entries 0)
    (leb s.entries max_entries
    && (leb (shortest_configuration + shortest_entry * s.entries) s.offset && (leb s.offset (longest_configuration + longest_entry * s.entries) && ledger_ok s.ledger)))

-- one call; a state that is not valid is 19
unfoldable pub consuming : LogReader → List ℕ → Bool → Consumed
consuming s b ended =
    pick (valid_state s)
    (pick (eqb s.offset 0) (beginning s b ended) (read_from (max_entries - s.entries) ended b 0 s))
    (stopped_at 0 s (Over (Refused s.entries InvalidState 0)))

-- the verdict on what is left of a log, from a state on
unfoldable pub verdict_from : LogReader → List ℕ → LogVerdict
verdict_from s l =
    pick (valid_state s)
    (pick (eqb s.offset 0) (verdict_by max_entries l (configuration_at l)) (entries_from (max_entries - s.entries) s.ledger s.entries s.offset l))
    (Refused s.entries InvalidState 0)

-- before the configuration
abbrev pub fresh_reader : LogReader
fresh_reader = record { ledger = ledger_of (replicate number_count 0); entries = 0; offset = 0 }
