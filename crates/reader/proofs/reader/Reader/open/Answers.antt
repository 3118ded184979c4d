use mathlib.Core.Path.{sym, ◌∙◌}
use Rattle.reader.proofs.CarryLaws.{reader_ok_valid}
use Rattle.reader.proofs.reader.Reader.open.Goals as goal

pub new-requires : goal.new-requires
new-requires c = (reader_ok_valid c.args.self.now (sym c.is_valid.ensures ∙ c.if-not-is_valid.false)).carry
