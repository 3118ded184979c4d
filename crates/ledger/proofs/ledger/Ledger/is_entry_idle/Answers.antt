use mathlib.Core.Path.{◌≡◌, sym, ◌∙◌}
use mathlib.Core.Bool.{Bool, true}
use lib.ListN.{length}
use borrow.Author.Tests.{ne_eqb}
use borrow.Author.Rules.{rules}
use Rattle.ledger.specs.Audit.{unchanged, auditing}
use Rattle.ledger.specs.CountingMirror.{idle_entry}
use Rattle.ledger.proofs.IdleTheorem.{idle_accepted}
use Rattle.ledger.proofs.ledger.Ledger.is_entry_idle.Goals.{Start}
use Rattle.ledger.proofs.ledger.Ledger.is_entry_idle.Goals as goal

-- an idle entry is accepted and changes nothing, since the ledger's arrays are as long as their types say

kept : (c : Start) {t : Bool} → let s = c.args.self in let d = c.args.entry.direction in let b = c.args.entry.container.now in
    t ≡ idle_entry s d b → t ≡ true → unchanged s ≡ auditing s d b
kept c e q =
    let s = c.args.self in
    let n0 : length s.carry0.bytes ≡ 100 = search rules in
    let n1 : length s.carry1.bytes ≡ 100 = search rules in
    let nh : length s.held ≡ 28 = search rules in
    let nw : length s.opened ≡ 28 = search rules in
    sym (idle_accepted s c.args.entry.direction c.args.entry.container.now c.args.entry.is_direction c.requires n0 n1 nh nw (sym e ∙ q))

pub returns-then-self-eq0-clause-self_value : goal.returns-then-self-eq0-clause-self_value
returns-then-self-eq0-clause-self_value c = kept (goal.at.returns-then-self-eq0-clause-self_value c).Start (rw (c.if-direction-eq0.true, c.if-self-eq0.true) c.is_idle.ensures)

pub returns-then-self-eq0-2-clause-self_value : goal.returns-then-self-eq0-2-clause-self_value
returns-then-self-eq0-2-clause-self_value c = kept (goal.at.returns-then-self-eq0-2-clause-self_value c).Start (rw (ne_eqb _ _ c.if-direction-eq0.false, c.if-self-eq0-2.true) c.is_idle-then-self-eq0-2.ensures)
