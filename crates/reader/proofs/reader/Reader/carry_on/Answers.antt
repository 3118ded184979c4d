use Rattle.reader.proofs.NextLaws.{next_kept, next_from, next_going, next_carried}
use Rattle.reader.proofs.reader.Reader.carry_on.Goals as goal

pub gather_carry-requires : goal.gather_carry-requires
gather_carry-requires c = let k = c.args.contents in
    let judged = c.requires.judged in
    record {
      kept_le_carry = next_kept k.format k.container.now k.carry.now k.carries k.whole judged;
      from_bound = (next_from k.format k.container.now k.carry.now k.carries k.whole judged, next_going k.format k.container.now k.carry.now k.carries k.whole judged);
    }

pub returns : goal.returns
returns c = let k = c.args.contents in
    next_carried k.format k.container.now k.carry.now k.carries k.whole c.requires.judged c.args.self c.requires.opened.0 c.requires.opened.1 c.gather_carry.ensures
