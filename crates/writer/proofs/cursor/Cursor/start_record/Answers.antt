use Rattle.record.specs.declared.list.First.TheVariants.{Whole}
use Rattle.record.proofs.RecordLaws.{found}
use Rattle.writer.proofs.SaneLaws.{first_record}
use Rattle.writer.proofs.cursor.Cursor.start_record.Goals as goal

pub start_message-requires-clause-skip_bound : goal.start_message-requires-clause-skip_bound
start_message-requires-clause-skip_bound c =
    let f = c.in-Whole in
    let r = c.read_record in
    let e = found c.args.input.list.now c.args.self.at r.result (Whole f.start f.end) r.ensures f.is in
    let w = first_record c.args.input.list.now c.args.self.at f.start f.end c.requires.sane.used e in
    (w.ten, w.inside)
