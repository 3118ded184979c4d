-- What a message pays (document 01, "Message heads" and "Pools and the audit", with document 02, K3): a list of pools with amounts.
use Rattle.std.specs.Prelude.{ℕ, ◌+◌, ◌/◌, ◌%◌, ◌≡◌, Bool, List, [], ◌∷◌, get_or, eqb}
use Rattle.lists.specs.Pick.{pick}
use Rattle.message.specs.Heads.{type_of, class_of}
use Rattle.message.specs.Places.{responses_by}
use Rattle.message.specs.declared.heads.Class.{Class}
use Rattle.message.specs.declared.heads.Class.TheVariants.{Unknown, Request, Response, Snoop, Data, RequestData, Misc}
use Rattle.message.specs.declared.charge.Charge.{Charge}
use Rattle.message.specs.declared.charge.Charges.{Charges}
use Rattle.message.specs.declared.charge.Charges.TheVariants.{Free, One, Two}

-- byte 0 bit 4 is SharedCrdt, bits 5-7 are ResPlane
abbrev pub shared_crdt : ℕ → Bool
shared_crdt byte0 = eqb (byte0 / 16 % 2) 1

abbrev pub res_plane : ℕ → ℕ
res_plane byte0 = byte0 / 32

-- the pools that a rule names: shared REQ, RSP, SNP, shared DAT, DAT of DataS and DataL, DAT of push data; 1 to 8 are REQ planes 0 to 7
abbrev pub shared_req : ℕ
shared_req = 0

abbrev pub rsp_pool : ℕ
rsp_pool = 9

abbrev pub snp_pool : ℕ
snp_pool = 10

abbrev pub shared_dat : ℕ
shared_dat = 11

abbrev pub data_dat : ℕ
data_dat = 12

abbrev pub push_dat : ℕ
push_dat = 13

-- the pool of a REQ charge: the shared one, or that of the plane
abbrev pub req_pool : ℕ → ℕ
req_pool byte0 = pick (shared_crdt byte0) shared_req (1 + res_plane byte0)

-- the pool of a DAT charge of DataS or DataL
abbrev pub dat_pool : ℕ → ℕ
dat_pool byte0 = pick (shared_crdt byte0) shared_dat data_dat

-- the pool of a DAT charge of push data: byte 1 bit 0 says that shared DAT pays
abbrev pub push_pool : ℕ → ℕ
push_pool byte1 = pick (eqb (byte1 % 2) 1) shared_dat push_dat

-- n credits of a pool, and one
abbrev pub credits_of : ℕ → ℕ → Charge
credits_of n p = record { pool = p; amount = n }

abbrev pub one_of : ℕ → Charge
one_of p = credits_of 1 p

-- what a class pays, by the type and bytes 0 and 1: a credit for each response, as many as the type counts for in its group, and else one of
-- each pool
abbrev pub paid_by : Class → ℕ → ℕ → ℕ → Charges
paid_by Unknown t byte0 byte1 = Free
paid_by Request t byte0 byte1 = One (one_of (req_pool byte0))
paid_by Response t byte0 byte1 = One (credits_of (responses_by t) rsp_pool)
paid_by Snoop t byte0 byte1 = One (one_of snp_pool)
paid_by Data t byte0 byte1 = One (one_of (dat_pool byte0))
paid_by RequestData t byte0 byte1 = Two (one_of (req_pool byte0)) (one_of (push_pool byte1))
paid_by Misc t byte0 byte1 = Free

abbrev pub charges_by : ℕ → ℕ → ℕ → Charges
charges_by t byte0 byte1 = paid_by (class_of t) t byte0 byte1

-- the charges as a list, REQ before DAT
abbrev pub listed : Charges → List Charge
listed Free = []
listed (One a) = a ∷ []
listed (Two a b) = a ∷ b ∷ []

abbrev pub charges : List ℕ → List Charge
charges m = listed (charges_by (type_of m) (get_or m 0 0) (get_or m 1 0))

-- what responses pay, in numbers
pub record ResponsesPay : Type 0 where
  -- "3 / 4 | Resp / Resp2 | 10 / 20 | one RSP", which stays so for Resp
  pub resp : (m : List ℕ) → type_of m ≡ 3 → charges m ≡ record { pool = 9; amount = 1 } ∷ []
  -- "From now on Resp2 pays two RSP credits" (document 02, K3)
  pub resp2 : (m : List ℕ) → type_of m ≡ 4 → charges m ≡ record { pool = 9; amount = 2 } ∷ []
