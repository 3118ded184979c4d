use Rattle.reader.proofs.WriteLaws.{writing_none, writing_all, writing_asks, writing_more}
use Rattle.reader.proofs.contents.Contents.write_endings.Goals as goal

pub loop-g-init : goal.loop-g-init
loop-g-init c = writing_none _ _ _ _ _ c.carried-track.ensures

pub write_ending-at-requires : goal.write_ending-at-requires
write_ending-at-requires c = let both = writing_asks _ _ _ _ _ _ _ _ _ c.args.self.whole c.requires c.args.self.starts c.args.self.carries c.loop-g.invariant c.loop-g-test.true in record { kept_le_carry = both.0; from_le_g = both.1.0; ending = both.1.1.0; g_in_bounds = both.1.1.1 }

pub loop-g-preserved : goal.loop-g-preserved
loop-g-preserved c = writing_more _ _ _ _ _ _ _ _ _ c.args.self.whole c.requires c.args.self.starts c.args.self.carries c.loop-g.invariant c.loop-g-test.true _ _ _ c.write_ending-at.ensures.end c.write_ending-at.ensures.room c.pass-track.ensures

pub returns : goal.returns
returns c = let both = writing_all _ _ _ _ _ _ _ _ _ c.args.self.whole c.requires c.args.self.starts c.args.self.carries c.loop-g.invariant c.loop-g-test.false in record { end = both.0; room = both.1 }
