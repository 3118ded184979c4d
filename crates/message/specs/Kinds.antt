-- The kinds that messages pay (document 02, K8): REQ, RSP, SNP, DAT or nothing.
use Rattle.std.specs.Prelude.{ℕ, ◌≡◌, Bool, true, false, ◌||◌, List, [], ◌∷◌, ◌↔◌, eqb, leb}
use Rattle.lists.specs.Pick.{pick}
use Rattle.message.specs.Heads.{type_of, class_of}
use Rattle.message.specs.Charges.{charges}
use Rattle.message.specs.declared.heads.Class.{Class}
use Rattle.message.specs.declared.heads.Class.TheVariants.{Unknown, Request, Response, Snoop, Data, RequestData, Misc}
use Rattle.message.specs.declared.charge.Charge.{Charge}

-- the numbers of the kinds
abbrev pub req : ℕ
req = 0

abbrev pub rsp : ℕ
rsp = 1

abbrev pub snp : ℕ
snp = 2

abbrev pub dat : ℕ
dat = 3

abbrev pub free : ℕ
free = 4

-- whether a class pays a kind
abbrev pub pays_by : Class → ℕ → Bool
pays_by Unknown k = eqb k free
pays_by Request k = eqb k req
pays_by Response k = eqb k rsp
pays_by Snoop k = eqb k snp
pays_by Data k = eqb k dat
pays_by RequestData k = eqb k req || eqb k dat
pays_by Misc k = eqb k free

-- whether a message pays a kind
abbrev pub pays : ℕ → List ℕ → Bool
pays k m = pays_by (class_of (type_of m)) k

-- the kind of a pool: 0 to 8 are REQ, 9 is RSP, 10 is SNP, and 11 to 13 are DAT
abbrev pub pool_kind : ℕ → ℕ
pool_kind p = pick (leb p 8) req (pick (eqb p 9) rsp (pick (eqb p 10) snp dat))

-- whether one of the charges is of a pool of this kind
abbrev pub charged : ℕ → List Charge → Bool
charged k [] = false
charged k (c ∷ cs) = eqb k (pool_kind c.pool) || charged k cs

-- the kinds of a message are those of the pools that it is charged, and it pays nothing where it has no charge
pub record PaysAsCharged (m : List ℕ) : Type 0 where
  pub kinds : (k : ℕ) → (k ≡ free → ⊥) → pays k m ≡ charged k (charges m)
  pub nothing : (pays free m ≡ true) ↔ (charges m ≡ [])
