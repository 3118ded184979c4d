use Prim.Native.Nat.{ℕ, ◌+◌, ◌-◌, ◌*◌, ◌≤◌}
use mathlib.Core.Path.{◌≡◌, sym, ap, ◌∙◌}
use mathlib.Core.List.{List}
use lib.ListN.{length, drop, length-drop}
use borrow.Author.Rules.{rules}
use Rattle.lists.proofs.PartLaws.{rest_is}
use Rattle.ledger.specs.Run.{run_over}
use Rattle.logs.specs.Stream.{max_entries, stopped_at, Outcome}
use Rattle.logs.specs.ConcludingMirror.{concluding}
use Rattle.logs.proofs.LogRuns.{state_by, said_by, call_run, run_room}
use Rattle.logs.proofs.log.LogReader.read_entries.Goals.{After-audit_entries-run}
use Rattle.logs.proofs.log.LogReader.read_entries.Goals as goal
use Rattle.cause.specs.Checks.{Verdict}

-- the run over the entries at hand

ran : (c : After-audit_entries-run) → c.audit_entries-run.result ≡ run_over c.args.self.ledger (max_entries - c.args.self.entries) (drop c.args.from c.args.bytes.now)
ran c =
    c.audit_entries-run.ensures ∙ ap (λ (l : List ℕ). run_over c.args.self.ledger (max_entries - c.args.self.entries) l) (rest_is c.args.bytes.now c.args.from)

room : (c : After-audit_entries-run) → let r = c.audit_entries-run.result in
    (c.args.from + r.used ≤ length c.args.bytes.now) × (c.args.self.entries + r.accepted ≤ max_entries) × (c.args.self.offset + r.used ≤ 165 + 261 * max_entries)
room c =
    run_room c.args.bytes.now c.args.from c.args.ended c.args.self c.audit_entries-run.result (ran c) c.requires.1 c.requires.2 c.requires.0

pub overflow_add-at : goal.overflow_add-at
overflow_add-at c = let r = (room (goal.at.overflow_add-at c).After-audit_entries-run).0 in search rules

pub overflow_add-entries : goal.overflow_add-entries
overflow_add-entries c = let r = (room (goal.at.overflow_add-entries c).After-audit_entries-run).1 in search rules

pub overflow_add-offset : goal.overflow_add-offset
overflow_add-offset c = let r = (room (goal.at.overflow_add-offset c).After-audit_entries-run).2 in search rules

pub overflow_sub-left : goal.overflow_sub-left
overflow_sub-left c = (room (goal.at.overflow_sub-left c).After-audit_entries-run).0

pub returns-in-Err : goal.returns-in-Err
returns-in-Err c = let s = c.args.self in
    let b = c.args.bytes.now in
    let r = c.audit_entries-run.result in
    c.stop_at.ensures
    ∙ ap (λ (o : Outcome). stopped_at (c.args.from + r.used) (state_by b c.args.from c.args.ended s r) o)
    (c.refuse_log.ensures ∙ ap (λ (a : Verdict). said_by a (s.entries + r.accepted) (s.offset + r.used) (length (drop (c.args.from + r.used) b)) c.args.ended) (sym c.in-Err.is))
    ∙ call_run b c.args.from c.args.ended s r c.requires.1 (ran (goal.at.returns-in-Err c).After-audit_entries-run)

pub returns-in-Ok : goal.returns-in-Ok
returns-in-Ok c = let s = c.args.self in
    let b = c.args.bytes.now in
    let r = c.audit_entries-run.result in
    let at = c.args.from + r.used in
    c.stop_at-in-Ok.ensures
    ∙ ap (λ (o : Outcome). stopped_at at (state_by b c.args.from c.args.ended s r) o)
    (c.conclude.ensures
    ∙ ap (λ (n : ℕ). concluding (s.entries + r.accepted) (s.offset + r.used) n c.args.ended) (sym (length-drop at b))
    ∙ ap (λ (a : Verdict). said_by a (s.entries + r.accepted) (s.offset + r.used) (length (drop at b)) c.args.ended) (sym c.in-Ok.is))
    ∙ call_run b c.args.from c.args.ended s r c.requires.1 (ran (goal.at.returns-in-Ok c).After-audit_entries-run)
