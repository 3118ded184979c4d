-- Small logs, and what is said of them. Assumes nothing.
use Prim.Native.Nat.{ℕ}
use mathlib.Core.Path.{◌≡◌, refl}
use mathlib.Core.List.{List, [], ◌∷◌, ◌++◌}
use lib.ListN.{replicate}
use Rattle.cause.specs.declared.Cause.TheVariants.{BrokenRecord, TooLong, InvalidState}
use Rattle.record.specs.Number.{read_number}
use Rattle.logs.specs.Log.{configuration_from, next_of, entries_from, log_verdict}
use Rattle.logs.specs.Stream.{max_entries}
use Rattle.logs.specs.declared.log.LogVerdict.{LogVerdict}
use Rattle.logs.specs.declared.log.LogVerdict.TheVariants.{Accepted, Refused}

-- a log, the most entries it may have, and its verdict
record Row : Type 0 where
  limit : ℕ
  bytes : List ℕ
  says : LogVerdict

-- X, and for each direction one plane, no push, capacities 0
abbrev least : List ℕ
least = 0 ∷ 1 ∷ replicate 15 0 ++ (1 ∷ replicate 15 0)

abbrev rows : List Row
rows =
    -- a configuration cut short is 17 at the number that is missing
    record { limit = max_entries; bytes = []; says = Refused 0 BrokenRecord 0 }
    ∷ record { limit = max_entries; bytes = 0 ∷ 1 ∷ 0x80 ∷ []; says = Refused 0 BrokenRecord 2 }
    -- each number is judged for form and then for value before the next one is looked at
    ∷ record { limit = max_entries; bytes = 5 ∷ 0x80 ∷ 0 ∷ []; says = Refused 0 InvalidState 0 }
    ∷ record { limit = max_entries; bytes = 0 ∷ 1 ∷ 0x80 ∷ 0 ∷ []; says = Refused 0 BrokenRecord 2 }
    -- a capacity in a missing pool: pool 2 with one plane, pool 12 without push; one over 1,023
    ∷ record { limit = max_entries; bytes = 0 ∷ 1 ∷ 0 ∷ 0 ∷ 7 ∷ 1 ∷ []; says = Refused 0 InvalidState 0 }
    ∷ record { limit = max_entries; bytes = 0 ∷ 1 ∷ 0 ∷ replicate 12 0 ++ (1 ∷ []); says = Refused 0 InvalidState 0 }
    ∷ record { limit = max_entries; bytes = 0 ∷ 1 ∷ 0 ∷ 0x80 ∷ 8 ∷ []; says = Refused 0 InvalidState 0 }
    -- a configuration of 33 bytes and no entries
    ∷ record { limit = max_entries; bytes = least; says = Accepted 0 }
    -- an entry cut short, in its number and in its container
    ∷ record { limit = max_entries; bytes = least ++ (0x80 ∷ []); says = Refused 0 BrokenRecord 33 }
    ∷ record { limit = max_entries; bytes = least ++ (0xAC ∷ 0x02 ∷ replicate 255 0); says = Refused 0 BrokenRecord 33 }
    -- one entry too many, as soon as a byte of it is seen
    ∷ record { limit = 0; bytes = least ++ (0x80 ∷ []); says = Refused 0 TooLong 0 }
    ∷ []

abbrev Hold : List Row → Type 0
Hold [] = Unit {0}
Hold (r ∷ rs) = (log_verdict r.limit r.bytes ≡ r.says) × Hold rs

marked : Hold rows
unfolding log_verdict configuration_from next_of entries_from read_number
marked = (refl, (refl, (refl, (refl, (refl, (refl, (refl, (refl, (refl, (refl, (refl, tt)))))))))))
