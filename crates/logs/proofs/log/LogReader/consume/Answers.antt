use mathlib.Core.Path.{sym, ap, ◌∙◌}
use Rattle.cause.specs.declared.Fault.{Fault}
use Rattle.logs.specs.declared.log.LogVerdict.TheVariants.{Refused}
use Rattle.logs.specs.Stream.{stopped_at, Outcome, Over}
use Rattle.logs.proofs.LogStates.{numbers_start, numbers_bad}
use Rattle.logs.proofs.LogCalls.{call_bad, call_start, call_on}
use Rattle.logs.proofs.log.LogReader.consume.Goals as goal

pub returns-then-not-has_valid_counts : goal.returns-then-not-has_valid_counts
returns-then-not-has_valid_counts c =
    c.stop_at.ensures
    ∙ ap (λ (o : Outcome). stopped_at 0 c.args.self o) (c.refuse_log.ensures ∙ ap (λ (f : Fault). Over (Refused c.args.self.entries f.cause f.place)) c.at.ensures)
    ∙ sym (call_bad _ _ _ (numbers_bad _ (sym c.has_valid_counts.ensures ∙ c.if-not-has_valid_counts.true)))

pub returns-then-offset-eq0 : goal.returns-then-offset-eq0
returns-then-offset-eq0 c =
    c.begin.ensures
    ∙ sym (call_start _ _ _ (numbers_start _ c.if-offset-eq0.true ∙ sym c.has_valid_counts.ensures ∙ c.if-not-has_valid_counts.false) c.if-offset-eq0.true)

pub returns : goal.returns
returns c = c.read_entries.ensures ∙ sym (call_on _ _ _ (sym c.has_valid_counts.ensures ∙ c.if-not-has_valid_counts.false) c.if-offset-eq0.false)
