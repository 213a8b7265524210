use Rattle.std.proofs.Common.{◌<◌, arith}
use Rattle.hss_keys.proofs.CapacityLaws.{capacity_pos}
use Rattle.hss_keys.proofs.branch.rest_of.Goals as goal

pub nonzero_rem-result : goal.nonzero_rem-result
nonzero_rem-result c = rw c.capacity.ensures (capacity_pos c.args.below.now)

pub returns-clause-index : goal.returns-clause-index
returns-clause-index c =
    let some : 0 < c.capacity.result = rw c.capacity.ensures (capacity_pos c.args.below.now) in
    omega (arith, c.capacity.ensures)
