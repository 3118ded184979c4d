use Prim.Native.Nat.{◌-◌}
use mathlib.Core.Path.{ap}
use native.Mathlib.Omega.{arith}
use lib.ListN.{length, take, drop}
use Rattle.record.proofs.NumberLaws.{used_groups}
use Rattle.record.specs.Number.{used_of}
use Rattle.record.proofs.number.+read_groups.Goals as goal

pub join_group-requires : goal.join_group-requires
join_group-requires t c =
    let few = used_groups (c.args.left - 1) (take (length c.args.list.now - 1) (drop 1 c.args.list.now)) in
    let same = ap used_of (c.in_ok-rest.ensures) in
    omega (arith, c.requires)
