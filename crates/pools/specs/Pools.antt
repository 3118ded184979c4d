-- Pools (document 01, "Pools and the audit"): which pools a receiver has, what messages pay, and what grants give.
use Rattle.std.specs.Prelude.{ℕ, zero, suc, ◌+◌, ◌%◌, Bool, true, false, ◌&&◌, ◌||◌, not, List, [], ◌∷◌, ◌++◌, get_or, eqb, ltb, leb}
use Rattle.lists.specs.Pick.{pick}
use Rattle.lists.specs.Parts.{part, pad}
use Rattle.cause.specs.Causes.{header_place}
use Rattle.cause.specs.Checks.{Check, check}
use Rattle.cause.specs.declared.Cause.{Cause}
use Rattle.cause.specs.declared.Cause.TheVariants.{MissingPool, MissingGrantPool}
use Rattle.container.specs.Grants.{grant_of}
use Rattle.container.specs.declared.grant.Grant.{Grant}
use Rattle.message.specs.Heads.{type_of, class_of, is_misc, crdt_grant}
use Rattle.message.specs.Charges.{shared_crdt, res_plane, charges, shared_req, rsp_pool, snp_pool, shared_dat, data_dat, push_dat}
use Rattle.message.specs.declared.heads.Class.{Class}
use Rattle.message.specs.declared.heads.Class.TheVariants.{Unknown, Request, Response, Snoop, Data, RequestData, Misc}
use Rattle.message.specs.declared.charge.Charge.{Charge}
use Rattle.placement.specs.Cells.{Cell}
use Rattle.pools.specs.declared.receiver.Receiver.{Receiver}

-- the pools of a direction, the most planes of a receiver, and the largest capacity
abbrev pub pool_count : ℕ
pool_count = 14

abbrev pub max_planes : ℕ
max_planes = 8

abbrev pub max_capacity : ℕ
max_capacity = 1023

-- the receiver that sixteen numbers name, from number i on: its planes, push where the next is 1, 14 capacities; zeros behind the last number
abbrev pub receiver_by_numbers : List ℕ → ℕ → Receiver
receiver_by_numbers l i = record { planes = get_or l i 0; push = eqb (get_or l (i + 1) 0) 1; capacities = pad pool_count (part (i + 2) pool_count l) }

-- pool p exists: planes 0 to N−1; 12 with push, 13 with push and N ≥ 2; 0, 9, 10 and 11 always
abbrev pub has_pool : Receiver → ℕ → Bool
has_pool r p =
    pick (leb 1 p && leb p max_planes) (leb p r.planes)
    (pick (eqb p data_dat) r.push (pick (eqb p push_dat) (r.push && leb 2 r.planes) (ltb p data_dat)))

-- a capacity is at most 1,023, and that of a missing pool is 0
abbrev pub capacity_ok : Receiver → ℕ → Bool
capacity_ok r p = leb (get_or r.capacities p 0) max_capacity && (has_pool r p || eqb (get_or r.capacities p 0) 0)

-- the capacities of k pools from p on
unfoldable pub capacities_ok : Receiver → ℕ → ℕ → Bool
capacities_ok r zero p = true
capacities_ok r (suc k) p = capacity_ok r p && capacities_ok r k (p + 1)

-- a valid receiver: 1 to 8 planes, and its capacities
abbrev pub receiver_ok : Receiver → Bool
receiver_ok r = (leb 1 r.planes && leb r.planes max_planes) && capacities_ok r pool_count 0

-- whether a class pays a REQ, a DAT of DataS or DataL, or a DAT of push data
abbrev pub pays_req : Class → Bool
pays_req Unknown = false
pays_req Request = true
pays_req Response = false
pays_req Snoop = false
pays_req Data = false
pays_req RequestData = true
pays_req Misc = false

abbrev pub pays_data : Class → Bool
pays_data Unknown = false
pays_data Request = false
pays_data Response = false
pays_data Snoop = false
pays_data Data = true
pays_data RequestData = false
pays_data Misc = false

abbrev pub pays_push : Class → Bool
pays_push Unknown = false
pays_push Request = false
pays_push Response = false
pays_push Snoop = false
pays_push Data = false
pays_push RequestData = true
pays_push Misc = false

-- the pools of a message exist, by its type and its bytes 0 and 1: ResPlane is below N even where shared credit pays; a dedicated DAT charge
-- needs its pool; a WrReqData needs push
abbrev pub payable_by : Receiver → ℕ → ℕ → ℕ → Bool
payable_by r t byte0 byte1 =
    (not (pays_req (class_of t)) || ltb (res_plane byte0) r.planes)
    && ((not (pays_data (class_of t)) || (shared_crdt byte0 || has_pool r data_dat))
    && (not (pays_push (class_of t)) || (r.push && (eqb (byte1 % 2) 1 || has_pool r push_dat))))

abbrev pub payable : Receiver → List ℕ → Bool
payable r m = payable_by r (type_of m) (get_or m 0 0) (get_or m 1 0)

-- the pools of a grant exist: with ShC 0, RP is below N whatever the counts, and a nonzero DAT count needs push and RP 0 or 1
abbrev pub grantable : Receiver → Grant → Bool
grantable r n = n.shc || (ltb n.rp r.planes && (eqb n.dat 0 || (r.push && ltb n.rp 2)))

-- the grant of a CrdtGrant: bytes 2-6 are a grant form
abbrev pub form_in : List ℕ → Grant
form_in m = grant_of (get_or m 2 0) (get_or m 3 0) (get_or m 4 0) (get_or m 5 0) (get_or m 6 0)

-- a message that starts in a cell finds its pools, and so does the grant of a CrdtGrant that starts there
abbrev pub start_payable : Receiver → Cell → Bool
start_payable r e = not e.starts || payable r e.bytes

abbrev pub start_grantable : Receiver → Cell → Bool
start_grantable r e = not (e.starts && is_misc e.bytes crdt_grant) || grantable r (form_in e.bytes)

-- one check of each granule, from g on
unfoldable pub each_granule : (Cell → Bool) → Cause → ℕ → List Cell → List Check
each_granule test k g [] = []
each_granule test k g (e ∷ es) = check (test e) k g ∷ each_granule test k (g + 1) es

-- 14, by the receiver of the direction: the messages that start, in granule order
abbrev pub message_checks : Receiver → List Cell → List Check
message_checks r es = each_granule (start_payable r) MissingPool 0 es

-- 21, by the receiver of the opposite direction: the header's grant n, then the CrdtGrants, in granule order
abbrev pub grant_checks : Receiver → Grant → List Cell → List Check
grant_checks r n es = check (grantable r n) MissingGrantPool header_place ∷ each_granule (start_grantable r) MissingGrantPool 0 es

-- what charges take of pool p
abbrev pub charged_to : ℕ → List Charge → ℕ
charged_to p [] = 0
charged_to p (c ∷ cs) = pick (eqb c.pool p) c.amount 0 + charged_to p cs

-- what messages pay of pool p
unfoldable pub paid_to : ℕ → List (List ℕ) → ℕ
paid_to p [] = 0
paid_to p (m ∷ ms) = charged_to p (charges m) + paid_to p ms

-- what a grant gives to pool p: RSP and SNP counts go to 9 and 10 always; with ShC 1 REQ and DAT counts go to 0 and 11, with ShC 0 to
-- REQ plane RP and to 12 (RP 0) or 13 (RP 1)
abbrev pub granted_by : ℕ → Grant → ℕ
granted_by p n =
    pick (eqb p rsp_pool) n.rsp
    (pick (eqb p snp_pool) n.snp
    (pick n.shc (pick (eqb p shared_req) n.req (pick (eqb p shared_dat) n.dat 0))
    (pick (eqb p (1 + n.rp)) n.req (pick (eqb p (data_dat + n.rp)) n.dat 0))))

unfoldable pub granted_to : ℕ → List Grant → ℕ
granted_to p [] = 0
granted_to p (n ∷ ns) = granted_by p n + granted_to p ns

-- the grants of the CrdtGrants among messages
unfoldable pub grants_in : List (List ℕ) → List Grant
grants_in [] = []
grants_in (m ∷ ms) = pick (is_misc m crdt_grant) (form_in m ∷ []) [] ++ grants_in ms
