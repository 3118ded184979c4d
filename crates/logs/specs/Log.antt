-- The verdict on a whole log (document 01, "The log and the host").
use Rattle.std.specs.Prelude.{ℕ, zero, suc, ◌+◌, ◌-◌, ◌*◌, ◌/◌, ◌%◌, Bool, ◌&&◌, ◌||◌, List, length, get_or, set, take, drop, replicate, eqb, ltb, leb, Result, Ok, Err, Option, Some, None}
use Rattle.lists.specs.Pick.{pick}
use Rattle.cause.specs.declared.Cause.{Cause}
use Rattle.cause.specs.declared.Cause.TheVariants.{BrokenRecord, TooLong, InvalidState}
use Rattle.cause.specs.declared.Fault.{Fault}
use Rattle.record.specs.Number.{read_number}
use Rattle.record.specs.declared.number.Number.{Number}
use Rattle.pools.specs.Pools.{has_pool, pool_count, max_planes, max_capacity}
use Rattle.ledger.specs.Audit.{auditing, fresh_ledger}
use Rattle.pools.specs.declared.receiver.Receiver.{Receiver}
use Rattle.ledger.specs.declared.ledger.Ledger.{Ledger}
use Rattle.logs.specs.declared.configuration.Configuration.{Configuration}
use Rattle.logs.specs.declared.log.LogVerdict.{LogVerdict}
use Rattle.logs.specs.declared.log.LogVerdict.TheVariants.{Accepted, Refused}
use Rattle.container.specs.Layout.{container_size}
use Rattle.cause.specs.Checks.{Verdict}

-- the numbers of a configuration
abbrev pub number_count : ℕ
number_count = 33

-- the receiver whose N is number i of a configuration: N, push (0 or 1), 14 capacities
abbrev pub receiver_at : List ℕ → ℕ → Receiver
receiver_at ns i = record { planes = get_or ns i 0; push = eqb (get_or ns (i + 1) 0) 1; capacities = take pool_count (drop (i + 2) ns) }

-- the ledger that a configuration starts: format, then for each direction its receiver
abbrev pub ledger_of : List ℕ → Ledger
ledger_of ns = fresh_ledger (get_or ns 0 0) (receiver_at ns 1) (receiver_at ns 17)

-- whether v may be number j of a receiver's sixteen: N is 1 to 8, push 0 or 1, a capacity at most 1,023 and 0 in a missing pool
abbrev pub suits : Receiver → ℕ → ℕ → Bool
suits r j v =
    pick (eqb j 0) (leb 1 v && leb v max_planes)
    (pick (eqb j 1) (ltb v 2) (leb v max_capacity && (has_pool r (j - 2) || eqb v 0)))

-- whether v may be number i of a configuration, behind the numbers before it: the format is 0 or 1
abbrev pub value_ok : List ℕ → ℕ → ℕ → Bool
value_ok ns i v = pick (eqb i 0) (ltb v 2) (suits (receiver_at ns ((i - 1) / 16 * 16 + 1)) ((i - 1) % 16) v)

-- what a configuration comes to: a cause and its place, or its numbers and its bytes
pub data ConfigurationAnswer : Type 0 where
  misconfigures : Cause → ℕ → ConfigurationAnswer
  configures : List ℕ → ℕ → ConfigurationAnswer

-- number i at byte `at`, 17 before 19; where it is good, what comes behind it
abbrev pub number_then : Option Number → List ℕ → ℕ → ℕ → (ℕ → ℕ → ConfigurationAnswer) → ConfigurationAnswer
number_then None ns i at rest = misconfigures BrokenRecord at
number_then (Some number) ns i at rest = pick (value_ok ns i number.value) (rest number.value number.used) (misconfigures InvalidState 0)

-- k more numbers, from number i at byte `at` on, at the front of l
unfoldable pub configuration_from : ℕ → List ℕ → ℕ → ℕ → List ℕ → ConfigurationAnswer
configuration_from zero ns i at l = configures ns at
configuration_from (suc k) ns i at l = number_then (read_number l) ns i at (λ v u. configuration_from k (set ns i v) (i + 1) (at + u) (drop u l))

-- the 33 numbers of a configuration at the front of l
abbrev pub configuration_at : List ℕ → ConfigurationAnswer
configuration_at l = configuration_from number_count (replicate number_count 0) 0 0 l

-- the numbers and the bytes of a configuration, or its fault
abbrev pub configuration_of : ConfigurationAnswer → Result Configuration Fault
configuration_of (configures ns n) = Ok (record { numbers = ns; used = n })
configuration_of (misconfigures c p) = Err (record { cause = c; place = p })

-- what an entry comes to: the verdict on the log, or the next ledger and the entry's bytes
pub data Next : Type 0 where
  over : LogVerdict → Next
  onward : Ledger → ℕ → Next

-- an entry of u bytes by the audit's answer, behind e entries
abbrev pub judged : ℕ → ℕ → Ledger → Verdict → Next
judged e u next (Err fault) = over (Refused e fault.cause fault.place)
judged e u next (Ok _) = onward next u

-- the container behind u bytes of number goes to the audit
abbrev pub judged_at : Ledger → ℕ → ℕ → List ℕ → ℕ → Next
judged_at s e d l u = judged e (u + container_size) (auditing s d (take container_size (drop u l))).ledger (auditing s d (take container_size (drop u l))).answer

-- an entry at offset o by its number, which is 2·ticks + direction: one that is cut short is 17
abbrev pub framed : Ledger → ℕ → ℕ → List ℕ → Option Number → Next
framed s e o l None = over (Refused e BrokenRecord o)
framed s e o l (Some number) = pick (ltb (length l) (number.used + container_size)) (over (Refused e BrokenRecord o)) (judged_at s e (number.value % 2) l number.used)

-- the entry at the front of l, at offset o, behind e entries
unfoldable pub next_of : Ledger → ℕ → ℕ → List ℕ → Next
next_of s e o l = framed s e o l (read_number l)

-- by what an entry comes to
abbrev pub after : {A : Type 0} → Next → (LogVerdict → A) → (Ledger → ℕ → A) → A
after (over v) f g = f v
after (onward s u) f g = g s u

-- at most k more entries, from offset o on, behind e entries: a byte behind the last of them is 18
unfoldable pub entries_from : ℕ → Ledger → ℕ → ℕ → List ℕ → LogVerdict
entries_from zero s e o l = pick (eqb (length l) 0) (Accepted e) (Refused e TooLong 0)
entries_from (suc k) s e o l =
    pick (eqb (length l) 0) (Accepted e)
    (after (next_of s e o l) (λ v. v) (λ next u. entries_from k next (e + 1) (o + u) (drop u l)))

-- the entries behind a configuration
abbrev pub verdict_by : ℕ → List ℕ → ConfigurationAnswer → LogVerdict
verdict_by limit l (misconfigures c p) = Refused 0 c p
verdict_by limit l (configures ns n) = entries_from limit (ledger_of ns) 0 n (drop n l)

-- the verdict on a log of at most so many entries
unfoldable pub log_verdict : ℕ → List ℕ → LogVerdict
log_verdict limit l = verdict_by limit l (configuration_at l)
