use mathlib.Core.Path.{◌≡◌, sym, ap, ◌∙◌}
use mathlib.Core.Bool.{Bool}
use Rattle.lists.specs.Pick.{pick}
use Rattle.cause.specs.declared.Cause.TheVariants.{InvalidState}
use Rattle.ledger.specs.declared.ledger.Ledger.{Ledger}
use Rattle.logs.specs.Log.{ConfigurationAnswer, configures, configuration_at}
use Rattle.logs.specs.Stream.{max_entries, stopped_at, read_from, started, start_by, Over}
use Rattle.logs.specs.ConcludingMirror.{read_on}
use Rattle.logs.specs.declared.log.LogVerdict.TheVariants.{Refused}
use Rattle.logs.proofs.ConfigurationLaws.{told_good}
use Rattle.logs.proofs.LogCalls.{started_runs}
use Rattle.logs.proofs.log.LogReader.configure.Goals.{After-start_ledger}
use Rattle.logs.proofs.log.LogReader.configure.Goals as goal

-- the configuration is taken

taken : (c : After-start_ledger) → let r = c.in-Ok.configuration in
    configuration_at c.args.bytes.now ≡ configures r.numbers r.used
taken c = told_good c.args.bytes.now c.read_configuration.result c.read_configuration.ensures _ c.in-Ok.is

pub read_entries-requires : goal.read_entries-requires
read_entries-requires c = let r = c.in-Ok.configuration in
    let runs = started_runs c.args.bytes.now r.numbers r.used (taken (goal.at.read_entries-requires c).After-start_ledger) in
    (runs.1, runs.0.few, runs.0.near)

pub returns-in-Ok : goal.returns-in-Ok
returns-in-Ok c = let b = c.args.bytes.now in
    let r = c.in-Ok.configuration in
    let set = taken (goal.at.returns-in-Ok c).After-start_ledger in
    c.read_entries.ensures
    ∙ ap (λ (x : Ledger). read_on (record { ledger = x; entries = 0; offset = r.used }) b r.used c.args.ended) c.start_ledger.ensures
    ∙ ap (λ (t : Bool). pick t (read_from max_entries c.args.ended b r.used (started r.numbers r.used)) (stopped_at r.used (started r.numbers r.used) (Over (Refused 0 InvalidState 0)))) (started_runs b r.numbers r.used set).0.kept
    ∙ ap (λ (t : ConfigurationAnswer). start_by c.args.self b c.args.ended t) (sym set)
