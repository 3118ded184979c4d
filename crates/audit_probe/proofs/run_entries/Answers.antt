use mathlib.Core.Path.{sym, ◌∙◌}
use Rattle.audit_probe.proofs.AuditLaws.{run_refused, run_accepted}
use Rattle.audit_probe.proofs.run_entries.Goals as goal

pub returns-in-Err : goal.returns-in-Err
returns-in-Err c = rw c.stop.ensures (run_refused c.args.numbers.now c.args.entries.now _ _ (sym c.in-Err.is ∙ c.start_ledger.ensures))

pub returns-in-Ok : goal.returns-in-Ok
returns-in-Ok c = c.audit_entries.ensures ∙ run_accepted c.args.numbers.now c.args.entries.now _ (sym c.in-Ok.is ∙ c.start_ledger.ensures)
