-- Pools, what messages pay and what grants give (document 01, "Message heads" and "Pools and the audit", with document 02, K3), sentence by
-- sentence. No test of the checks is named here.
use Rattle.std.specs.Prelude.{ℕ, ◌+◌, ◌/◌, ◌%◌, ◌≤◌, ◌<◌, ◌≡◌, true, false, List, [], ◌∷◌, get_or, T}
use Rattle.container.specs.Layout.{Format, granule}
use Rattle.container.specs.Grants.{header_grant, grant_of}
use Rattle.container.specs.declared.grant.Grant.{Grant}
use Rattle.message.specs.HeadRules.{byte, type, among, Misc}
use Rattle.placement.specs.Rules.{Starts}
use Rattle.pools.specs.declared.receiver.Receiver.{Receiver}

-- "Planes 0 to N−1 exist; 12 exists with push, 13 with push and N ≥ 2; 0, 9, 10 and 11 always."
pub data Exists (r : Receiver) : ℕ → Type 0 where
  always : {p : ℕ} → T (among (0 ∷ 9 ∷ 10 ∷ 11 ∷ []) p) → Exists r p
  -- "1 to 8 REQ planes 0 to 7"
  req_plane : (i : ℕ) → i < 8 → i < r.planes → Exists r (1 + i)
  first : r.push ≡ true → Exists r 12
  second : r.push ≡ true → 2 ≤ r.planes → Exists r 13

abbrev pub capacity_of : Receiver → ℕ → ℕ
capacity_of r p = get_or r.capacities p 0

pub record ValidReceiver (r : Receiver) : Type 0 where
  -- "N planes (1 to 8)"
  pub planes : (1 ≤ r.planes) × (r.planes ≤ 8)
  -- "14 capacities of 0 to 1,023"
  pub most : (p : ℕ) → p < 14 → capacity_of r p ≤ 1023
  -- "A missing pool has capacity 0."
  pub missing : (p : ℕ) → p < 14 → (Exists r p → ⊥) → capacity_of r p ≡ 0

-- "bit 4 SharedCrdt, bits 5-7 ResPlane"; "In types 8 and 9, byte 1 bit 0 says that shared DAT pays"
abbrev pub Shared : List ℕ → Type 0
Shared m = byte m 0 / 16 % 2 ≡ 1

abbrev pub plane : List ℕ → ℕ
plane m = byte m 0 / 32

abbrev pub SharedPush : List ℕ → Type 0
SharedPush m = byte m 1 % 2 ≡ 1

-- m is of one of these types
abbrev pub OfType : List ℕ → List ℕ → Type 0
OfType ts m = T (among ts (type m))

abbrev pub PaysReq : List ℕ → Type 0
PaysReq m = OfType (1 ∷ 2 ∷ 8 ∷ 9 ∷ []) m

abbrev pub IsData : List ℕ → Type 0
IsData m = OfType (6 ∷ 7 ∷ []) m

abbrev pub IsPush : List ℕ → Type 0
IsPush m = OfType (8 ∷ 9 ∷ []) m

-- the column "pays", by pool and credits: "SharedCrdt sends the REQ or DAT charge to the shared pool", "0 shared REQ; 1 to 8 REQ planes 0
-- to 7; 9 RSP; 10 SNP; 11 shared DAT; 12 DAT dedicated 0, for DataS and DataL; 13 DAT dedicated 1, for push data"
pub data Pays (m : List ℕ) : ℕ → ℕ → Type 0 where
  -- pool, credits
  shared_req_case : PaysReq m → Shared m → Pays m 0 1
  req : PaysReq m → (Shared m → ⊥) → Pays m (1 + plane m) 1
  rsp : OfType (3 ∷ []) m → Pays m 9 1
  -- "From now on Resp2 pays two RSP credits" (K3)
  rsp2 : OfType (4 ∷ []) m → Pays m 9 2
  snp : OfType (5 ∷ []) m → Pays m 10 1
  shared_dat_case : IsData m → Shared m → Pays m 11 1
  dat : IsData m → (Shared m → ⊥) → Pays m 12 1
  shared_push : IsPush m → SharedPush m → Pays m 11 1
  push : IsPush m → (SharedPush m → ⊥) → Pays m 13 1

-- what a grant gives, by pool: "Its RSP and SNP counts go to 9 and 10 always; with ShC 1 its REQ and DAT counts go to 0 and 11, with ShC 0
-- to REQ plane RP and to 12 (RP 0) or 13 (RP 1)."
pub data Gives (n : Grant) : ℕ → ℕ → Type 0 where
  -- pool, count
  rsp : Gives n 9 n.rsp
  snp : Gives n 10 n.snp
  shared_req_case : n.shc ≡ true → Gives n 0 n.req
  shared_dat_case : n.shc ≡ true → Gives n 11 n.dat
  req : n.shc ≡ false → Gives n (1 + n.rp) n.req
  dat0 : n.shc ≡ false → n.rp ≡ 0 → Gives n 12 n.dat
  dat1 : n.shc ≡ false → n.rp ≡ 1 → Gives n 13 n.dat

-- a message keeps the rules for pools of the receiver of its direction
pub record PaysRight (r : Receiver) (m : List ℕ) : Type 0 where
  -- "ResPlane must be below N even then."
  pub below : PaysReq m → plane m < r.planes
  -- "Types 8 and 9 need push."
  pub needs : IsPush m → r.push ≡ true
  -- the pools that it pays exist
  pub pools : (p k : ℕ) → Pays m p k → Exists r p

-- a grant keeps the rules for pools of the receiver of the opposite direction
pub record GrantsRight (r : Receiver) (n : Grant) : Type 0 where
  -- "With ShC 0, RP must be below N whatever the counts,"
  pub below : n.shc ≡ false → n.rp < r.planes
  -- "and a nonzero DAT count needs push and RP 0 or 1."
  pub dat : n.shc ≡ false → 0 < n.dat → (r.push ≡ true) × (n.rp < 2)

-- "bytes 2-6 are a grant form": the grant of a CrdtGrant
abbrev pub grant_in : List ℕ → Grant
grant_in m = grant_of (byte m 2) (byte m 3) (byte m 4) (byte m 5) (byte m 6)

-- a container keeps the rules for pools: `own` is the receiver of its direction, `other` that of the opposite one
pub record KeepsPools (own other : Receiver) (fm : Format) (c : List ℕ) : Type 0 where
  pub messages : (g : ℕ) → g < 12 → Starts fm c g → PaysRight own (granule fm g c)
  -- "A grant in a container pays the opposite direction and is judged by that direction's N and push."
  pub heading : GrantsRight other (header_grant fm c)
  pub grants : (g : ℕ) → g < 12 → Starts fm c g → Misc (granule fm g c) 2 → GrantsRight other (grant_in (granule fm g c))
