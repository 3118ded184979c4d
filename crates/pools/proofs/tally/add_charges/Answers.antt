use native.Mathlib.Omega.{arith}
use Rattle.pools.proofs.TallyLaws.{Counts}
use Rattle.pools.proofs.TypeLaws.{add_push, add_both}
use Rattle.pools.proofs.tally.add_charges.Goals.{Start}
use Rattle.pools.proofs.tally.add_charges.Goals as goal

counts : (s : Start) → Counts 65535 s.args.counts.now
counts s = record { long = s.told-counts; most = s.requires }

pub add_count-requires-2 : goal.add_count-requires-2
add_count-requires-2 two = add_push two.args.byte0 two.args.byte1 (omega arith) two.args.counts.now (counts (goal.at.add_count-requires-2 two).Start) two.choose_pool.ensures two.count_credits.ensures two.add_count.ensures two.choose_push.ensures two.count_push.ensures

pub returns : goal.returns
returns c = add_both c.args.byte0 c.args.byte1 (omega arith) c.args.counts.now (counts (goal.at.returns c).Start) c.choose_pool.ensures c.count_credits.ensures c.add_count.ensures c.choose_push.ensures c.count_push.ensures c.add_count-2.ensures
