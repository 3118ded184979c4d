use mathlib.Core.Path.{ap, ◌∙◌}
use Rattle.container.specs.Layout.{format_of, msg_start}
use Rattle.container.specs.Grants.{header_grant}
use Rattle.reader.proofs.AnswerLaws.{judge_entry_refused, judge_checks_refused, judge_checks_accepted, accepted_entry}
use Rattle.reader.specs.Reading.{next_reader}
use Rattle.reader.proofs.NextLaws.{state_fault, state_fine}
use Rattle.reader.proofs.reader.Reader.judge.Goals as goal

pub returns-in-Err : goal.returns-in-Err
returns-in-Err c = c.refuse_judging.ensures ∙ judge_entry_refused c.args.self c.args.container.now _ _ c.in-Err.ensures.refused

pub carry_on-requires : goal.carry_on-requires
carry_on-requires c = let told = c.in-Ok.ensures in
    record { opened = (told.opened.0, told.opened.2); judged = c.in-Ok-judge_container.ensures }

pub returns-in-Err-judge_container : goal.returns-in-Err-judge_container
returns-in-Err-judge_container c = let v = accepted_entry c.args.self _ c.in-Ok.ensures.valid in
    let told = c.in-Ok.ensures in
    c.refuse_judging-in-Err-judge_container.ensures
    ∙ judge_checks_refused c.args.self c.args.container.now v.0 v.1 _ _ (state_fault c.args.self told.opened.0 told.opened.1 told.opened.2 c.judge_container.ensures c.in-Err-judge_container.is)

pub returns-in-Ok-judge_container : goal.returns-in-Ok-judge_container
returns-in-Ok-judge_container c = let v = accepted_entry c.args.self _ c.in-Ok.ensures.valid in
    let told = c.in-Ok.ensures in
    let f = told.opened.0 in
    let b = told.opened.1 in
    let k = c.in-Ok.contents in
    let e = state_fine c.args.self f b told.opened.2 c.judge_container.ensures c.in-Ok-judge_container.is in
    let next = c.carry_on.ensures ∙ ap (next_reader c.args.self) b in
    judge_checks_accepted c.args.self c.args.container.now v.0 v.1 e _ next _ (k.granted ∙ (λ i. header_grant (format_of (f i)) (b i))) _ (k.starts ∙ (λ i. msg_start (format_of (f i)) (b i)))
