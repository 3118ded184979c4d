-- Demand 3: the audit accepts exactly the tap records of histories, and its books close over every list of calls.
use Rattle.std.specs.Prelude.{ℕ, ◌<◌, ◌≡◌, true, List, Ok}
use Rattle.record.specs.Records.{records_of}
use Rattle.reader.specs.Reading.{records}
use Rattle.reader.specs.declared.reader.Reader.{Reader}
use Rattle.ledger.specs.Audit.{configured, reported}
use Rattle.pools.specs.declared.receiver.Receiver.{Receiver}
use Rattle.ledger.specs.declared.ledger.Report.{Report}
use Rattle.history.specs.Trace.{Trace}
use Rattle.history.specs.Link.{Direction, number_of}
use Rattle.history.specs.Calls.{Call, after}
use Rattle.history.specs.Delays.{Delays}
use Rattle.history.specs.Demand.{Closed}
use Rattle.demands.specs.LinkRules.{LinkRules}
use Rattle.demands.specs.LogTap.{LogDemand}
use Rattle.ledger.specs.Entries.{ends_in}
use Rattle.demands.specs.Tap.{link_of, auditor_of}

pub record Demand3 : Type 1 where
  -- for every valid format and pair of receivers, for every list of calls from the fresh ledger, each with any direction number and any
  -- bytes, with the ledger that the last call handed back, refused or not
  pub books_close : (f : ℕ) (a b : Receiver) → configured f a b ≡ true → (xs : Trace (Call (List ℕ))) → Closed (link_of f a b) (auditor_of f a b) xs
  -- "At the start and after every call, the audit reports for each direction and pool": no such report is refused
  pub reports : (f : ℕ) (a b : Receiver) → configured f a b ≡ true → (xs : Trace (Call (List ℕ))) (d : Direction) (p : ℕ) → p < 14
      → (report : Report) × (reported (after (auditor_of f a b) xs) (number_of d) p ≡ Ok report)
  -- "Containers keep the rules above for bytes, heads and placement and these for pools", and what is counted in them is what they pay and
  -- grant
  pub rules : LinkRules
  -- "delays are arbitrary"
  pub delays : (f : ℕ) (a b : Receiver) → Delays (link_of f a b)
  -- the messages that end in a container are those that the reader hands out as records
  pub handed_out : (s : Reader) (c : List ℕ) → records s c ≡ records_of (ends_in s c)
  -- "The entries that a log hands to the audit are such a list" (document 01)
  pub logs : LogDemand
