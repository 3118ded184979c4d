-- Message heads (document 01): what type and op select, and which heads are right; a message is the list of its bytes.
use Rattle.std.specs.Prelude.{ℕ, ◌/◌, ◌%◌, Bool, ◌&&◌, ◌||◌, not, List, [], ◌∷◌, ◌++◌, length, get_or, eqb, ltb, leb}
use Rattle.lists.specs.Parts.{part, zeros}
use Rattle.container.specs.Grants.{form_ok}
use Rattle.message.specs.declared.heads.Class.{Class}
use Rattle.message.specs.declared.heads.Class.TheVariants.{Unknown, Request, Response, Snoop, Data, RequestData, Misc}

-- byte 0 bits 0-3 are the type, and MiscU byte 1 is the op
abbrev pub type_of : List ℕ → ℕ
type_of m = get_or m 0 0 % 16

abbrev pub op_of : List ℕ → ℕ
op_of m = get_or m 1 0

-- types and ops that a rule names
abbrev pub resp : ℕ
resp = 3

abbrev pub resp2 : ℕ
resp2 = 4

abbrev pub misc_u : ℕ
misc_u = 10

abbrev pub link_status : ℕ
link_status = 0

abbrev pub activation : ℕ
activation = 1

abbrev pub crdt_grant : ℕ
crdt_grant = 2

-- bytes of a MiscU by op: LinkStatus, Activation, CrdtGrant, Connect, Property
abbrev pub op_sizes : List ℕ
op_sizes = 10 ∷ 10 ∷ 16 ∷ 10 ∷ 20 ∷ []

-- bytes by type from 0 on, below MiscU: none, ReqS, ReqL, Resp, Resp2, Snoop, DataS, DataL, WrReqDataS, WrReqDataL
abbrev pub plain_sizes : List ℕ
plain_sizes = 0 ∷ 20 ∷ 40 ∷ 10 ∷ 20 ∷ 20 ∷ 80 ∷ 100 ∷ 100 ∷ 120 ∷ []

-- bytes by type from 0 on, those of a MiscU by its op
abbrev pub type_sizes : ℕ → List ℕ
type_sizes o = plain_sizes ++ (get_or op_sizes o 0 ∷ [])

-- bytes by type and op; 0 where either is unknown
abbrev pub size_by : ℕ → ℕ → ℕ
size_by t o = get_or (type_sizes o) t 0

abbrev pub msg_size : List ℕ → ℕ
msg_size m = size_by (type_of m) (op_of m)

-- type and op are known
abbrev pub known : List ℕ → Bool
known m = ltb 0 (msg_size m)

-- which credits a type pays: REQ, RSP, SNP, DAT, REQ and DAT, or none
abbrev pub classes : List Class
classes = Unknown ∷ Request ∷ Request ∷ Response ∷ Response ∷ Snoop ∷ Data ∷ Data ∷ RequestData ∷ RequestData ∷ Misc ∷ []

abbrev pub class_of : ℕ → Class
class_of t = get_or classes t Unknown

-- a MiscU with a given op, by type and op, and of a message
abbrev pub misc_by : ℕ → ℕ → ℕ → Bool
misc_by t o wanted = eqb t misc_u && eqb o wanted

abbrev pub is_misc : List ℕ → ℕ → Bool
is_misc m wanted = misc_by (type_of m) (op_of m) wanted

-- one above the largest value of byte 0 bits 4-7, by type: types 3, 4, 5 and 10 need bits 4-7 zero, types 6 and 7 bits 5-7
abbrev pub flag_bounds : List ℕ
flag_bounds = 0 ∷ 16 ∷ 16 ∷ 1 ∷ 1 ∷ 1 ∷ 2 ∷ 2 ∷ 16 ∷ 16 ∷ 1 ∷ []

abbrev pub flag_bound : ℕ → ℕ
flag_bound t = get_or flag_bounds t 0

abbrev pub flags_ok : List ℕ → Bool
flags_ok m = ltb (get_or m 0 0 / 16) (flag_bound (type_of m))

-- in types 8 and 9, bits 1-7 of byte 1 are zero
abbrev pub push_by : ℕ → ℕ → Bool
push_by t b = not (eqb t 8 || eqb t 9) || ltb b 2

abbrev pub push_ok : List ℕ → Bool
push_ok m = push_by (type_of m) (get_or m 1 0)

-- Activation: byte 2 is 1 to 5
abbrev pub activation_by : ℕ → ℕ → ℕ → Bool
activation_by t o b = not (misc_by t o activation) || (leb 1 b && leb b 5)

abbrev pub activation_ok : List ℕ → Bool
activation_ok m = activation_by (type_of m) (op_of m) (get_or m 2 0)

-- CrdtGrant: bytes 2-6 are a grant form, bytes 7-15 zero
abbrev pub grant_by : ℕ → ℕ → List ℕ → Bool
grant_by t o m = not (misc_by t o crdt_grant) || (form_ok (get_or m 2 0) && zeros (part 7 9 m))

abbrev pub grant_ok : List ℕ → Bool
grant_ok m = grant_by (type_of m) (op_of m) m

-- a head whose bits and bytes are right (term of document 01)
abbrev pub well_headed : List ℕ → Bool
well_headed m = flags_ok m && (push_ok m && (activation_ok m && grant_ok m))

-- a whole message: as long as its type and op say, with a right head
abbrev pub is_message : List ℕ → Bool
is_message m = eqb (msg_size m) (length m) && (known m && well_headed m)
