-- A mirror of the code's shape, not a rule: what is counted of an entry granule by granule, proved equal to the definitions of `Pools`.
use Rattle.std.specs.Prelude.{ℕ, zero, suc, ◌+◌, ◌%◌, Bool, ◌&&◌, ◌||◌, not, List, [], ◌∷◌, get_or, eqb, ltb, leb}
use Rattle.lists.specs.Pick.{pick}
use Rattle.cause.specs.Checks.{Check, check}
use Rattle.cause.specs.declared.Cause.TheVariants.{MissingPool, MissingGrantPool}
use Rattle.container.specs.Layout.{start, bit}
use Rattle.container.specs.Grants.{grant_of}
use Rattle.container.specs.declared.grant.Grant.{Grant}
use Rattle.message.specs.Heads.{misc_by, crdt_grant}
use Rattle.message.specs.Charges.{req_pool, dat_pool, charges_by, listed}
use Rattle.pools.specs.Pools.{payable_by, charged_to, grantable, granted_by}
use Rattle.pools.specs.declared.receiver.Receiver.{Receiver}

-- the pool that a message of type t pays, but for push data: RSP or SNP, or the one of DAT or REQ that byte 0 names
abbrev pub pool_by : ℕ → ℕ → ℕ
pool_by t byte0 = pick (leb 3 t && ltb t 6) (pick (eqb t 5) 10 9) (pick (leb 6 t && ltb t 8) (dat_pool byte0) (req_pool byte0))

-- bytes 0 and 1 of what starts in granule g
abbrev pub first_at : List ℕ → ℕ → ℕ
first_at c g = get_or c (start g) 0

abbrev pub second_at : List ℕ → ℕ → ℕ
second_at c g = get_or c (start g + 1) 0

-- byte 0 of what starts in granule g by MsgStart w, 0 where nothing does
abbrev pub started_at : List ℕ → ℕ → ℕ → ℕ
started_at c w g = pick (bit w g) (first_at c g) 0

-- what starts in granule g pays, where bit g of MsgStart w is set
abbrev pub paid_at : List ℕ → ℕ → ℕ → ℕ → ℕ
paid_at c w g p = pick (bit w g) (charged_to p (listed (charges_by (first_at c g % 16) (first_at c g) (second_at c g)))) 0

-- the check of what starts in granule g
abbrev pub start_check : Receiver → List ℕ → ℕ → ℕ → Check
start_check r c w g = check (not (bit w g) || payable_by r (first_at c g % 16) (first_at c g) (second_at c g)) MissingPool g

-- the messages that start in granules g, g + 1, .., k of them: their checks, and what they pay of pool p
unfoldable pub starts_checks : Receiver → List ℕ → ℕ → ℕ → ℕ → List Check
starts_checks r c w zero g = []
starts_checks r c w (suc k) g = start_check r c w g ∷ starts_checks r c w k (g + 1)

unfoldable pub starts_pay : List ℕ → ℕ → ℕ → ℕ → ℕ → ℕ
starts_pay c w zero g p = 0
starts_pay c w (suc k) g p = paid_at c w g p + starts_pay c w k (g + 1) p

-- whether a CrdtGrant starts in granule g, and its grant
abbrev pub grants_at : List ℕ → ℕ → ℕ → Bool
grants_at c w g = bit w g && misc_by (first_at c g % 16) (second_at c g) crdt_grant

abbrev pub grant_at : List ℕ → ℕ → Grant
grant_at c g =
    grant_of (get_or c (start g + 2) 0) (get_or c (start g + 3) 0) (get_or c (start g + 4) 0) (get_or c (start g + 5) 0) (get_or c (start g + 6) 0)

-- the check of a grant at a place, and that of the CrdtGrant that starts in granule g
abbrev pub grant_check : Receiver → Grant → ℕ → Check
grant_check r n p = check (grantable r n) MissingGrantPool p

abbrev pub crdt_check : Receiver → List ℕ → ℕ → ℕ → Check
crdt_check r c w g = check (not (grants_at c w g) || grantable r (grant_at c g)) MissingGrantPool g

-- the CrdtGrants that start in granules g, g + 1, .., k of them: their checks, and what they give to pool p
unfoldable pub crdt_checks : Receiver → List ℕ → ℕ → ℕ → ℕ → List Check
crdt_checks r c w zero g = []
crdt_checks r c w (suc k) g = crdt_check r c w g ∷ crdt_checks r c w k (g + 1)

unfoldable pub crdt_gives : List ℕ → ℕ → ℕ → ℕ → ℕ → ℕ
crdt_gives c w zero g p = 0
crdt_gives c w (suc k) g p = pick (grants_at c w g) (granted_by p (grant_at c g)) 0 + crdt_gives c w k (g + 1) p
