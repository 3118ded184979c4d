use Rattle.std.proofs.Common.{length, ◌≡◌, leb, rules, tests, ◌∙◌}
use Rattle.std.proofs.lemmas.Iterator.{YieldsList-from_slice}
use Rattle.std.proofs.lemmas.Iterator.Search.{any_from_yields_List}
use Rattle.reader.proofs.MarkLaws.{any_activation}
use Rattle.reader.proofs.group.has_activation.Goals as goal

pub returns : goal.returns
returns c =
    let marks = c.args.marks in
    let long : length marks ≡ 12 = search rules in
    any_from_yields_List (leb 128) _ _ c.any.result c.any.ensures.ran (YieldsList-from_slice marks cc) (λ x b q k. search (rules, tests)) ∙ any_activation marks long
