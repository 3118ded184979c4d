-- A mirror of the code's shape, not a rule: what a call says behind a run over its entries, and what it asks of its state before the run.
use Rattle.std.specs.Prelude.{ℕ, ◌+◌, ◌-◌, ◌*◌, Bool, true, ◌&&◌, List, leb, eqb}
use Rattle.lists.specs.Pick.{pick}
use Rattle.cause.specs.declared.Cause.TheVariants.{BrokenRecord, TooLong, InvalidState}
use Rattle.ledger.specs.Audit.{ledger_ok}
use Rattle.logs.specs.Stream.{max_entries, stopped_at, read_from, Outcome, More, Over}
use Rattle.logs.specs.declared.log.LogVerdict.TheVariants.{Accepted, Refused}
use Rattle.logs.specs.declared.log.LogReader.{LogReader}
use Rattle.logs.specs.declared.log.Consumed.{Consumed}

-- what is said behind e entries and o bytes, where no whole entry is at the front of the bytes left, or no more may be: an entry that is
-- not whole is 17 where the log has ended or there are as many bytes as an entry may have
abbrev pub concluding : ℕ → ℕ → ℕ → Bool → Outcome
concluding e o left ended =
    pick (eqb left 0) (pick ended (Over (Accepted e)) More)
    (pick (leb max_entries e) (Over (Refused e TooLong 0)) (pick (pick ended true (leb 261 left)) (Over (Refused e BrokenRecord o)) More))

-- the numbers of a valid state
abbrev pub counts_ok : LogReader → Bool
counts_ok s =
    pick (eqb s.offset 0) (eqb s.entries 0)
    (leb s.entries max_entries && (leb (33 + 257 * s.entries) s.offset && leb s.offset (165 + 261 * s.entries)))

-- the entries from byte `at` of b on; a ledger that is not valid is 19
abbrev pub read_on : LogReader → List ℕ → ℕ → Bool → Consumed
read_on s b at ended =
    pick (ledger_ok s.ledger) (read_from (max_entries - s.entries) ended b at s) (stopped_at at s (Over (Refused s.entries InvalidState 0)))
