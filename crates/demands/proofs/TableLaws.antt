-- The table of causes holds of every entry. Assumes nothing.
use Rattle.demands.specs.Demand1.{TableOfCauses, MissingPools}
use Rattle.reader.proofs.ReadTable.{read_refused, read_accepted, judge_refused, judge_accepted}
use Rattle.ledger.proofs.AuditTable.{audit_refused, audit_accepted, tells_message, tells_grant}
use Rattle.writer.proofs.FillTable.{fill_refused, fill_accepted, list_refused, list_accepted}
use Rattle.demands.proofs.FormatTable.{reader_refused, reader_accepted, writer_refused, writer_accepted}
use Rattle.ledger.proofs.LedgerTable.{new_ledger_refused, new_ledger_accepted, report_refused, report_counted}

pub table : TableOfCauses
table = record {
  read_refused = read_refused;
  read_accepted = read_accepted;
  judge_refused = judge_refused;
  judge_accepted = judge_accepted;
  audit_refused = audit_refused;
  audit_accepted = audit_accepted;
  fill_refused = fill_refused;
  fill_accepted = fill_accepted;
  list_refused = list_refused;
  list_accepted = list_accepted;
  reader_refused = reader_refused;
  reader_accepted = reader_accepted;
  writer_refused = writer_refused;
  writer_accepted = writer_accepted;
  new_ledger_refused = new_ledger_refused;
  new_ledger_accepted = new_ledger_accepted;
  report_refused = report_refused;
  report_counted = report_counted;
}

-- a refusal by 14 tells a message, one by 21 a grant
pub missing_pools : MissingPools
missing_pools = record { of_message = tells_message; of_grant = tells_grant }
