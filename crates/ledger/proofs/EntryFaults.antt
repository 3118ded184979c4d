-- The faults of the checks of an entry as they stand, over cells and by cause.
use Prim.Native.Nat.{ℕ, ◌+◌, ◌≤◌, ◌<◌}
use mathlib.Core.Path.{◌≡◌}
use mathlib.Core.Bool.{false}
use mathlib.Core.List.{List}
use mathlib.Core.Logic.{◌⊎◌}
use lib.ListN.{length}
use Rattle.cause.specs.declared.Cause.{Cause}
use Rattle.cause.specs.declared.Cause.TheVariants.{ContainerLength, MissingPool, MissingGrantPool, BegunOverGranted, GrantedOverCapacity, InvalidState}
use Rattle.container.specs.Layout.{format_of}
use Rattle.container.specs.Grants.{header_grant}
use Rattle.placement.specs.Cells.{Cell}
use Rattle.placement.proofs.Keeps.{cell_of}
use Rattle.reader.specs.Reading.{carried}
use Rattle.pools.specs.PoolRules.{capacity_of}
use Rattle.pools.specs.Pools.{grantable, start_payable, start_grantable, paid_to, granted_to}
use Rattle.ledger.specs.Audit.{receiver_of, reader_of, held_of, open_of, ledger_ok, opposite, begun, granted}
use Rattle.ledger.specs.declared.ledger.Ledger.{Ledger}
use Rattle.placement.proofs.CellFaults.{CellFault}

-- granule g of an entry, as it is read
abbrev pub entry_cell : Ledger → ℕ → List ℕ → ℕ → Cell
entry_cell s d c g = cell_of (format_of s.format) c (carried (reader_of s d)) g

-- the audit of an entry c of direction d, by cause and place
pub data AuditCells (s : Ledger) (d : ℕ) (c : List ℕ) : Cause → ℕ → Type 0 where
  invalid : (2 ≤ d) ⊎ (ledger_ok s ≡ false) → AuditCells s d c InvalidState 0
  size : (length c ≡ 256 → ⊥) → AuditCells s d c ContainerLength 0
  container : {k : Cause} {p : ℕ} → CellFault (format_of s.format) (carried (reader_of s d)) c k p → AuditCells s d c k p
  message : (g : ℕ) → g < 12 → start_payable (receiver_of s d) (entry_cell s d c g) ≡ false → AuditCells s d c MissingPool g
  heading : grantable (receiver_of s (opposite d)) (header_grant (format_of s.format) c) ≡ false → AuditCells s d c MissingGrantPool 12
  granting : (g : ℕ) → g < 12 → start_grantable (receiver_of s (opposite d)) (entry_cell s d c g) ≡ false → AuditCells s d c MissingGrantPool g
  over : (p : ℕ) → p < 14 → held_of s d p < paid_to p (begun s d c) → AuditCells s d c BegunOverGranted p
  full : (p : ℕ) → p < 14 → capacity_of (receiver_of s (opposite d)) p < held_of s (opposite d) p + (granted_to p (granted s d c) + open_of s (opposite d) p)
      → AuditCells s d c GrantedOverCapacity p
