-- What an entry brings, as the reader of its direction finds it: messages, grants, and the checks before those of the ledger.
use Rattle.std.specs.Prelude.{ℕ, List, ◌∷◌, ◌++◌}
use Rattle.cause.specs.Checks.{Check}
use Rattle.container.specs.Layout.{Format, format_of, granules}
use Rattle.container.specs.Grants.{header_grant}
use Rattle.container.specs.declared.grant.Grant.{Grant}
use Rattle.placement.specs.Cells.{Cell, cells, endings, startings}
use Rattle.reader.specs.Reading.{carried, state_checks}
use Rattle.reader.specs.declared.reader.Reader.{Reader}
use Rattle.pools.specs.Pools.{message_checks, grant_checks, grants_in}
use Rattle.pools.specs.declared.receiver.Receiver.{Receiver}

-- the cells of a container, the messages that start in it, and those that end in it, as a reader in this state finds them
abbrev pub cells_in : Reader → List ℕ → List Cell
cells_in s c = cells (format_of s.format) c granules 0 (carried s)

abbrev pub starts_in : Reader → List ℕ → List (List ℕ)
starts_in s c = startings (cells_in s c)

abbrev pub ends_in : Reader → List ℕ → List (List ℕ)
ends_in s c = endings (format_of s.format) 0 (cells_in s c) (carried s)

-- the grants of a container in which these messages start: its header's, then those of its CrdtGrants
abbrev pub grants_of : Format → List ℕ → List (List ℕ) → List Grant
grants_of fm c ms = header_grant fm c ∷ grants_in ms

-- the reader's checks, then 14 by the messages that start, by the receiver of the entry's direction, then 21 by the grants, by that of the
-- opposite one, and other checks behind them
abbrev pub checks_then : Receiver → Receiver → Reader → List ℕ → List Check → List Check
checks_then own other s c rest =
    state_checks s c ++ (message_checks own (cells_in s c) ++ (grant_checks other (header_grant (format_of s.format) c) (cells_in s c) ++ rest))
