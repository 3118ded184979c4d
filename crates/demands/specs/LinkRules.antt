-- The link of the bench by the rules in the papers' words (document 01, "Pools and the audit"): which containers it reads, and what it
-- counts in them.
use Rattle.std.specs.Prelude.{ℕ, zero, suc, ◌≤◌, ◌<◌, ◌≡◌, true, List, [], ◌∷◌, ◌++◌, ◌↔◌, length, eqb}
use Rattle.lists.specs.Pick.{pick}
use Rattle.container.specs.Layout.{Format, format_of, granule}
use Rattle.container.specs.declared.grant.Grant.{Grant}
use Rattle.message.specs.Charges.{charges, ResponsesPay}
use Rattle.message.specs.HeadRules.{byte, response_count}
use Rattle.reader.specs.Reading.{carried}
use Rattle.placement.specs.Rules.{Rules, start_bit}
use Rattle.reader.specs.ValidState.{ValidState}
use Rattle.reader.specs.declared.reader.Reader.{Reader}
use Rattle.pools.specs.Pools.{charged_to, granted_by}
use Rattle.pools.specs.PoolRules.{Pays, Gives, KeepsPools}
use Rattle.pools.specs.declared.receiver.Receiver.{Receiver}
use Rattle.history.specs.Link.{Direction, opposite}
use Rattle.ledger.specs.Entries.{starts_in}
use Rattle.demands.specs.Tap.{receiver_for, link_of}

-- "Containers keep the rules above for bytes, heads and placement and these for pools": a container that a reader in this state meets, by
-- the receiver of its direction and that of the opposite one
pub record KeepsRules (own other : Receiver) (s : Reader) (c : List ℕ) : Type 0 where
  pub size : length c ≡ 256
  pub rules : Rules (format_of s.format) (carried s) c
  pub pools : KeepsPools own other (format_of s.format) c

-- the messages that start in the granules below n, upwards, each by its first granule
unfoldable pub started_in : Format → List ℕ → ℕ → List (List ℕ)
started_in fm c zero = []
started_in fm c (suc g) = started_in fm c g ++ pick (eqb (start_bit fm c g) 1) (granule fm g c ∷ []) []

pub record LinkRules : Type 0 where
  -- from a valid state the link reads a container exactly where it keeps the rules for bytes, heads and placement and those for pools
  pub reads_exactly : (f : ℕ) (a b : Receiver) (d : Direction) (s : Reader) (c : List ℕ) → ValidState s
      → ((link_of f a b).reads d s c ≡ true) ↔ KeepsRules (receiver_for a b d) (receiver_for a b (opposite d)) s c
  -- the messages that it counts as begun are those whose start bits are set, in granule order
  pub starts_are : (s : Reader) (c : List ℕ) → starts_in s c ≡ started_in (format_of s.format) c 12
  -- a message is counted in a pool exactly where it pays it, with the credits that it pays
  pub pays_exactly : (m : List ℕ) (p k : ℕ) → byte m 0 < 256 → Pays m p k ↔ ((charged_to p (charges m) ≡ k) × (0 < k))
  -- a Resp pays one RSP credit and a Resp2 two (document 02, K3)
  pub responses_pay : ResponsesPay
  -- "Demand 3 reads "responses" for "messages" in pool 9" (document 02, K3): a message is counted there as often as it counts among the
  -- responses of its group
  pub responses_counted : (m : List ℕ) → byte m 0 < 256 → charged_to 9 (charges m) ≡ response_count m
  -- a response lies in one granule and is never carried, so that it is begun and finished by one entry
  pub responses_whole : (s : Reader) → ValidState s → charged_to 9 (charges (carried s)) ≡ 0
  -- a grant is counted in a pool with the count that it gives, and with nothing where it gives none
  pub gives_exactly : (n : Grant) → n.rp ≤ 7 → (p : ℕ) → p < 14
      → ((k : ℕ) → Gives n p k → granted_by p n ≡ k) × (((k : ℕ) → Gives n p k → ⊥) → granted_by p n ≡ 0)
