-- What the messages that start in a container pay and what its grants give, counted by pool, with causes 14 and 21: by granules, which is
-- by the messages in granule order (`starts-checks`, `starts-pay`, `crdt-checks`, `crdt-gives`).
use Rattle.std.specs.Prelude.{ℕ, ◌+◌, List, ◌∷◌, length, eqb, ltb, Result}
use Rattle.cause.specs.Causes.{header_place}
use Rattle.cause.specs.Checks.{Check, check, first_fault, given}
use Rattle.cause.specs.declared.Fault.{Fault}
use Rattle.cause.specs.declared.Cause.TheVariants.{ContainerLength, HeaderGrantForm}
use Rattle.container.specs.declared.grant.Grant.{Grant}
use Rattle.pools.specs.Pools.{granted_by, pool_count}
use Rattle.pools.specs.Rows.{row}
use Rattle.pools.specs.TalliesMirror.{starts_checks, starts_pay, grant_check, crdt_checks, crdt_gives}
use Rattle.pools.specs.declared.receiver.Receiver.{Receiver}
use Rattle.container.specs.Layout.{container_size, granules}

-- a tally by its checks and what is counted of each pool: a refusal counts nothing
abbrev pub tally_of : List Check → (ℕ → ℕ) → Result (List ℕ) Fault
tally_of checks f = given (first_fault checks) (row f pool_count 0)

-- the messages that start in a container by MsgStart w: 1, then 14 in granule order
abbrev pub begun_checks : Receiver → List ℕ → ℕ → List Check
begun_checks r c w = check (eqb (length c) container_size) ContainerLength 0 ∷ starts_checks r c w granules 0

abbrev pub begun_tally : Receiver → List ℕ → ℕ → Result (List ℕ) Fault
begun_tally r c w = tally_of (begun_checks r c w) (starts_pay c w granules 0)

-- the header's grant n and the CrdtGrants that start in a container: 1, 4 (RP over 7), then 21 in this order
abbrev pub granted_checks : Receiver → Grant → List ℕ → ℕ → List Check
granted_checks r n c w =
    check (eqb (length c) container_size) ContainerLength 0
    ∷ check (ltb n.rp 8) HeaderGrantForm 0
    ∷ grant_check r n header_place
    ∷ crdt_checks r c w granules 0

-- what they give to pool p
abbrev pub grants_give : Grant → List ℕ → ℕ → ℕ → ℕ
grants_give n c w p = granted_by p n + crdt_gives c w granules 0 p

abbrev pub granted_tally : Receiver → Grant → List ℕ → ℕ → Result (List ℕ) Fault
granted_tally r n c w = tally_of (granted_checks r n c w) (grants_give n c w)
