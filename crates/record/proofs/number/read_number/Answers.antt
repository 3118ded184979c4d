use Rattle.record.specs.Number.{read_number}
use Rattle.record.proofs.number.read_number.Goals as goal

pub returns : goal.returns
unfolding read_number
returns c = c.read_groups.ensures
