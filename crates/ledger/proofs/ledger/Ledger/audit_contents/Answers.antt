use mathlib.Core.Path.{◌≡◌, ap, ◌∙◌}
use borrow.Author.Rules.{rules}
use Rattle.reader.specs.Reading.{judging}
use Rattle.reader.specs.declared.reader.Reader.{Reader}
use Rattle.reader.proofs.AnswerLaws.{judged_refused, judged_accepted}
use Rattle.ledger.specs.Audit.{reader_of}
use Rattle.ledger.proofs.AuditLaws.{read_refused}
use Rattle.ledger.proofs.ledger.Ledger.audit_contents.Goals.{After-judge-judged}
use Rattle.ledger.proofs.ledger.Ledger.audit_contents.Goals as goal

-- what the reader of the entry's direction judges of its container

made : (c : After-judge-judged) → c.judge-judged.result ≡ judging (reader_of c.args.self c.args.entry.direction) c.args.entry.container.now
made c = c.judge-judged.ensures ∙ ap (λ (r : Reader). judging r c.args.entry.container.now) c.choose_reader.ensures

pub audit_read-requires : goal.audit_read-requires
audit_read-requires c = let a = judged_accepted _ _ _ (made (goal.at.audit_read-requires c).After-judge-judged) _ _ c.in-Accepted.is in record { valid = c.requires; container_value = a.0; next_value = ap (λ (r : Reader). r.carry) a.3; grant_value = (a.1, a.2) }

pub returns-in-Refused : goal.returns-in-Refused
returns-in-Refused c = read_refused _ _ _ c.args.entry.is_direction c.requires (search rules) (judged_refused _ _ _ (made (goal.at.returns-in-Refused c).After-judge-judged) _ _ c.in-Refused.is) c.at.ensures c.refuse.ensures
