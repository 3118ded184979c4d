-- "Causes and places" (document 01, with document 02, K1), the table of an audit: a constructor a row, its number and place at the end.
use Rattle.std.specs.Prelude.{ℕ, ◌+◌, ◌≤◌, ◌<◌, ◌≡◌, List, ◌⊎◌, length}
use Rattle.container.specs.Layout.{format_of, granule}
use Rattle.container.specs.Grants.{header_grant}
use Rattle.message.specs.HeadRules.{Misc}
use Rattle.placement.specs.Rules.{Starts}
use Rattle.reader.specs.Reading.{carried}
use Rattle.pools.specs.PoolRules.{grant_in, capacity_of}
use Rattle.ledger.specs.ValidLedger.{ValidConfiguration, ValidLedger}
use Rattle.pools.specs.Faults.{PaymentFault, GrantFault}
use Rattle.pools.specs.Pools.{paid_to, granted_to}
use Rattle.ledger.specs.Audit.{receiver_of, reader_of, held_of, open_of, opposite, begun, granted}
use Rattle.pools.specs.declared.receiver.Receiver.{Receiver}
use Rattle.ledger.specs.declared.ledger.Ledger.{Ledger}
use Rattle.placement.specs.Faults.{ContainerFault}

-- the message that starts in granule g of an entry c of direction d lacks a pool of the receiver of its own direction
pub record MessageLacksPool (s : Ledger) (d : ℕ) (c : List ℕ) (g : ℕ) : Type 0 where
  pub within : g < 12
  pub starts : Starts (format_of s.format) c g
  pub lacks : PaymentFault (receiver_of s d) (granule (format_of s.format) g c)

-- a grant of an entry c of direction d lacks a pool of the opposite direction's receiver: the header's, whose place is 12, or that of the
-- CrdtGrant which starts in granule g
pub data GrantLacksPool (s : Ledger) (d : ℕ) (c : List ℕ) : ℕ → Type 0 where
  header : GrantFault (receiver_of s (opposite d)) (header_grant (format_of s.format) c) → GrantLacksPool s d c 12
  crdt : (g : ℕ) → g < 12 → Starts (format_of s.format) c g → Misc (granule (format_of s.format) g c) 2
      → GrantFault (receiver_of s (opposite d)) (grant_in (granule (format_of s.format) g c)) → GrantLacksPool s d c g

-- the audit of an entry c of direction d: 19, 1, the container's, 14, 21, 15, 16
pub data AuditFault (s : Ledger) (d : ℕ) (c : List ℕ) : ℕ → ℕ → Type 0 where
  -- 19 | direction, configuration or state not valid | 0
  invalid : (2 ≤ d) ⊎ (ValidLedger s → ⊥) → AuditFault s d c 19 0
  -- 1 | container handed in by itself not 256 bytes | 0
  size : (length c ≡ 256 → ⊥) → AuditFault s d c 1 0
  container : {k p : ℕ} → ContainerFault (format_of s.format) (carried (reader_of s d)) c k p → AuditFault s d c k p
  -- 14 | of a message: missing pool, or push message without push | starting granule
  message : {g : ℕ} → MessageLacksPool s d c g → AuditFault s d c 14 g
  -- 21 | of a grant: missing pool | granule of the CrdtGrant, 12 for the header
  grant : {p : ℕ} → GrantLacksPool s d c p → AuditFault s d c 21 p
  -- 15 | begun over granted | pool: what starts pays more credits than there are of granted minus begun
  over : (p : ℕ) → p < 14 → held_of s d p < paid_to p (begun s d c) → AuditFault s d c 15 p
  -- 16 | granted over capacity + finished | pool
  full : (p : ℕ) → p < 14 → capacity_of (receiver_of s (opposite d)) p < held_of s (opposite d) p + (granted_to p (granted s d c) + open_of s (opposite d) p)
      → AuditFault s d c 16 p

-- a new ledger: 19 | format or configuration not valid | 0
pub data FreshFault (f : ℕ) (a b : Receiver) : ℕ → ℕ → Type 0 where
  invalid : (ValidConfiguration f a b → ⊥) → FreshFault f a b 19 0

-- the report of a direction and pool: 19 | direction or state not valid | 0
pub data ReportFault (s : Ledger) (d p : ℕ) : ℕ → ℕ → Type 0 where
  invalid : (2 ≤ d) ⊎ (14 ≤ p) ⊎ (ValidLedger s → ⊥) → ReportFault s d p 19 0
