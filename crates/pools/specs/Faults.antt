-- "Causes and places" (document 01, with document 02, K1), what rows 14 and 21 of the table say: a constructor a way to lack a pool.
use Rattle.std.specs.Prelude.{ℕ, ◌≤◌, ◌<◌, ◌≡◌, false, List, ◌⊎◌}
use Rattle.container.specs.declared.grant.Grant.{Grant}
use Rattle.pools.specs.PoolRules.{PaysReq, IsData, IsPush, Shared, SharedPush, plane}
use Rattle.pools.specs.declared.receiver.Receiver.{Receiver}

-- 14, of a message to a receiver: "missing pool, or push message without push"
pub data PaymentFault (r : Receiver) (m : List ℕ) : Type 0 where
  -- a bad plane, even where shared credit pays
  bad_plane : PaysReq m → r.planes ≤ plane m → PaymentFault r m
  -- a DataS or DataL whose dedicated pool is missing
  dedicated : IsData m → (Shared m → ⊥) → r.push ≡ false → PaymentFault r m
  -- a WrReqData without push, or one whose dedicated pool is missing
  push : IsPush m → (r.push ≡ false) ⊎ ((SharedPush m → ⊥) × (r.planes < 2)) → PaymentFault r m

-- 21, of a grant to a receiver
pub data GrantFault (r : Receiver) (n : Grant) : Type 0 where
  -- "With ShC 0, RP must be below N whatever the counts,"
  bad_plane : n.shc ≡ false → r.planes ≤ n.rp → GrantFault r n
  -- "and a nonzero DAT count needs push and RP 0 or 1."
  dat : n.shc ≡ false → 0 < n.dat → (r.push ≡ false) ⊎ (2 ≤ n.rp) → GrantFault r n
