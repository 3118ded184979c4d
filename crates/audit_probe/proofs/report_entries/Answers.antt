use mathlib.Core.Path.{sym, ◌∙◌}
use Rattle.audit_probe.proofs.AuditLaws.{report_refused, report_accepted}
use Rattle.audit_probe.proofs.report_entries.Goals as goal

pub returns-in-Err : goal.returns-in-Err
returns-in-Err c = report_refused c.args.numbers.now c.args.entries.now c.args.direction c.args.pool _ _ (sym c.in-Err.is ∙ c.start_ledger.ensures)

pub returns-in-Ok : goal.returns-in-Ok
returns-in-Ok c =
    rw (c.report.ensures, c.run_entries.ensures) (report_accepted c.args.numbers.now c.args.entries.now c.args.direction c.args.pool _ (sym c.in-Ok.is ∙ c.start_ledger.ensures))
