use Rattle.feeder.proofs.FoundLaws.{found_empty, found_bad, whole_within, found_whole}
use borrow.Author.Rules.{rules}
use Rattle.feeder.proofs.found.find_record.Goals as goal

pub returns-in-Empty : goal.returns-in-Empty
returns-in-Empty c = found_empty _ _ _ _ c.read_record.ensures c.in-Empty.is

pub returns-in-Bad : goal.returns-in-Bad
returns-in-Bad c = found_bad _ _ _ _ c.read_record.ensures c.in-Bad.is

pub overflow_add-at : goal.overflow_add-at
overflow_add-at c = let fits = whole_within c.args.list _ _ _ c.read_record.ensures c.requires _ _ c.in-Whole.is in search rules

pub overflow_add-at-in-Whole : goal.overflow_add-at-in-Whole
overflow_add-at-in-Whole c = let fits = whole_within c.args.list _ _ _ c.read_record.ensures c.requires _ _ c.in-Whole.is in search rules

pub returns-in-Whole : goal.returns-in-Whole
returns-in-Whole c = found_whole _ _ _ _ c.read_record.ensures c.requires _ _ c.in-Whole.is _ c.byte_at.ensures _ c.belongs.ensures _ c.then_some.ensures
