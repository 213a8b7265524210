use Rattle.std.proofs.Common.{◌/◌, ◌^◌, ◌<◌, ◌∷◌, arith, rules}
use Rattle.std.proofs.Math.Nat.{div-le_self}
use Rattle.hss_keys.proofs.CapacityLaws.{leaf_below, capacity_pos, capacity_small, small_below}
use Rattle.hss_keys.proofs.branch.leaf_of.Goals as goal

pub capacity-requires : goal.capacity-requires
capacity-requires c = small_below c.args.level c.args.below.now c.requires.small

pub nonzero_div-result : goal.nonzero_div-result
nonzero_div-result c = rw c.capacity.ensures (capacity_pos c.args.below.now)

pub overflow_cast-result : goal.overflow_cast-result
overflow_cast-result c =
    let most = capacity_small (c.args.level ∷ c.args.below.now) c.requires.small in
    let less = div-le_self c.args.index c.capacity.result in
    let fits : c.args.index / c.capacity.result < 2 ^ 32 = omega (arith, c.requires.index) in
    search rules

pub returns-clause-leaf : goal.returns-clause-leaf
returns-clause-leaf c = rw c.capacity.ensures (leaf_below c.args.level c.args.below.now c.args.index c.requires.index)
