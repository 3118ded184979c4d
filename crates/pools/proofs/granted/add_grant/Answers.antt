use native.Mathlib.Omega.{arith}
use Rattle.pools.proofs.TallyLaws.{Counts}
use Rattle.pools.proofs.GrantedLaws.{Bytes, add_rsp, add_snp, add_dat, add_all}
use Rattle.pools.proofs.granted.add_grant.Goals.{Start}
use Rattle.pools.proofs.granted.add_grant.Goals as goal

counts : (s : Start) → Counts 65535 s.args.counts.now
counts s = record { long = s.told-counts; most = s.requires.small_counts }

bytes : (s : Start) → Bytes s.args.grant
bytes s = record { req = omega arith; rsp = omega arith; snp = omega arith; dat = omega arith }

pub add_count-requires-2 : goal.add_count-requires-2
add_count-requires-2 c = add_rsp c.args.grant c.args.counts.now (counts (goal.at.add_count-requires-2 c).Start) (bytes (goal.at.add_count-requires-2 c).Start) c.requires.rp_bound.0 c.choose_req.ensures c.add_count.ensures

pub add_count-requires-3 : goal.add_count-requires-3
add_count-requires-3 c = add_snp c.args.grant c.args.counts.now (counts (goal.at.add_count-requires-3 c).Start) (bytes (goal.at.add_count-requires-3 c).Start) c.requires.rp_bound.0 c.choose_req.ensures c.add_count.ensures c.add_count-2.ensures

pub add_count-requires-4 : goal.add_count-requires-4
add_count-requires-4 c = add_dat c.args.grant c.args.counts.now (counts (goal.at.add_count-requires-4 c).Start) (bytes (goal.at.add_count-requires-4 c).Start) c.requires.rp_bound.0 c.choose_req.ensures c.add_count.ensures c.add_count-2.ensures c.add_count-3.ensures c.choose_dat.ensures

pub returns : goal.returns
returns c = add_all c.args.grant c.args.counts.now (counts (goal.at.returns c).Start) (bytes (goal.at.returns c).Start) c.requires.rp_bound.0 c.choose_req.ensures c.add_count.ensures c.add_count-2.ensures c.add_count-3.ensures c.choose_dat.ensures c.requires.rp_bound.1 c.add_count-4.ensures
