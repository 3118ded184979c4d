-- A valid ledger and configuration in the paper's words (document 01, "Causes and places").
use Rattle.std.specs.Prelude.{ℕ, ◌+◌, ◌≤◌, ◌<◌, ◌≡◌}
use Rattle.reader.specs.Reading.{carried}
use Rattle.reader.specs.ValidState.{ValidState}
use Rattle.pools.specs.PoolRules.{ValidReceiver, capacity_of, Pays, PaysRight}
use Rattle.ledger.specs.Audit.{receiver_of, reader_of, held_of, open_of}
use Rattle.pools.specs.declared.receiver.Receiver.{Receiver}
use Rattle.ledger.specs.declared.ledger.Ledger.{Ledger}

pub record ValidConfiguration (f : ℕ) (a b : Receiver) : Type 0 where
  pub format : f < 2
  pub receiver0 : ValidReceiver a
  pub receiver1 : ValidReceiver b

-- direction d of a valid ledger
pub record ValidDirection (s : Ledger) (d : ℕ) : Type 0 where
  pub receiver : ValidReceiver (receiver_of s d)
  -- its carry is that of a valid reader
  pub reader : ValidState (reader_of s d)
  -- "a carried message would pass 14,"
  pub passes : PaysRight (receiver_of s d) (carried (reader_of s d))
  -- "held plus open is at most capacity,"
  pub within : (p : ℕ) → p < 14 → held_of s d p + open_of s d p ≤ capacity_of (receiver_of s d) p
  -- "and open messages follow from the carries": the carried message is open in the pools that it pays, and nothing else is
  pub carrying : (p k : ℕ) → p < 14 → Pays (carried (reader_of s d)) p k → open_of s d p ≡ k
  pub closed : (p : ℕ) → p < 14 → ((k : ℕ) → Pays (carried (reader_of s d)) p k → ⊥) → open_of s d p ≡ 0

pub record ValidLedger (s : Ledger) : Type 0 where
  pub direction0 : ValidDirection s 0
  pub direction1 : ValidDirection s 1
