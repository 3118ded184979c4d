use Rattle.reader.proofs.CellLaws.{granule_part, same_answer}
use Rattle.reader.proofs.contents.Contents.judge_cell.Goals as goal

pub returns : goal.returns
returns c = let part = granule_part c.args.self.format c.args.g _ c.measure_granule-size.result c.args.self.container.now c.locate_granule-a.ensures c.measure_granule-size.ensures in
    same_answer c.args.self.format c.args.g c.args.owed c.goes_on-on.ensures c.measure_granule-size.ensures c.starts_at.ensures part c.judge_part.ensures
