-- The bench's own reader and pools as a link, and its audit as the audit of that link (document 01, "Pools and the audit").
use Rattle.std.specs.Prelude.{ℕ, ◌&&◌, List, [], length, get_or, eqb, Result, Ok, Err}
use Rattle.cause.specs.Checks.{Check, first_fault, passes}
use Rattle.message.specs.Charges.{charges}
use Rattle.container.specs.Layout.{format_of, container_size}
use Rattle.container.specs.declared.grant.Grant.{Grant}
use Rattle.reader.specs.Reading.{carried, reader_ok, reader_with, next_reader}
use Rattle.reader.specs.declared.reader.Reader.{Reader}
use Rattle.pools.specs.Pools.{payable, charged_to, paid_to, granted_to, pool_count}
use Rattle.ledger.specs.Entries.{starts_in, ends_in, grants_of, checks_then}
use Rattle.ledger.specs.Audit.{fresh_ledger, auditing, reported}
use Rattle.pools.specs.declared.receiver.Receiver.{Receiver}
use Rattle.ledger.specs.declared.ledger.Ledger.{Ledger}
use Rattle.ledger.specs.declared.ledger.Report.{Report}
use Rattle.history.specs.Link.{Direction, direction0, direction1, number_of, opposite, Link}
use Rattle.history.specs.Calls.{Auditor}
use Rattle.cause.specs.declared.Fault.{Fault}

abbrev pub grants_from : Reader → List ℕ → List Grant
grants_from s c = grants_of (format_of s.format) c (starts_in s c)

-- the receiver of a direction, of the two that a and b are
abbrev pub receiver_for : Receiver → Receiver → Direction → Receiver
receiver_for a b direction0 = a
receiver_for a b direction1 = b

-- the rules for bytes, heads and placement, and those for pools: the reader's checks, 14 by messages, and 21 by grants
abbrev pub rule_checks : Receiver → Receiver → Reader → List ℕ → List Check
rule_checks own other s c = checks_then own other s c []

-- the link of a format and two receivers; what messages pay is added up, so that of pool 9 responses are counted (document 02, K3)
abbrev pub link_of : ℕ → Receiver → Receiver → Link
link_of f a b = record {
  Container = List ℕ;
  State = Reader;
  fresh = reader_with f [];
  reads = λ d s c. eqb (length c) container_size && passes (first_fault (rule_checks (receiver_for a b d) (receiver_for a b (opposite d)) s c));
  next = λ d s c. next_reader s c;
  grants = λ d s c p. granted_to p (grants_from s c);
  begins = λ d s c p. paid_to p (starts_in s c);
  finishes = λ d s c p. paid_to p (ends_in s c);
  carried = λ s p. charged_to p (charges (carried s));
  state_ok = λ d s. reader_ok s && payable (receiver_for a b d) (carried s);
  pools = pool_count;
  capacity = λ d p. get_or (receiver_for a b d).capacities p 0;
}

-- the credits held and the messages open that a report tells, 0 where it is refused
abbrev pub held_in : Result Report Fault → ℕ
held_in (Ok report) = report.held.0
held_in (Err _) = 0

abbrev pub open_in : Result Report Fault → ℕ
open_in (Ok report) = report.opened.0
open_in (Err _) = 0

-- the audit: the code's own ledger, what `audit` answers, and what `report` reports
abbrev pub auditor_of : ℕ → Receiver → Receiver → Auditor (List ℕ)
auditor_of f a b = record {
  Ledger = Ledger;
  fresh = fresh_ledger f a b;
  audit = λ l x. record {
    accepts = passes (auditing l x.number x.container).answer;
    ledger = (auditing l x.number x.container).ledger;
  };
  held = λ l d p. held_in (reported l (number_of d) p);
  unfinished = λ l d p. open_in (reported l (number_of d) p);
}
