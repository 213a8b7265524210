use Rattle.std.proofs.Common.{◌≡◌, ◌*◌, arith}
use Rattle.lms_tree.specs.Types.{leaf_count}
use Rattle.hss_keys.proofs.CapacityLaws.{capacity-nil, capacity-cons}
use Rattle.hss_keys.proofs.flat.last_index.Goals as goal

pub returns-then-has_types-clause-bound : goal.returns-then-has_types-clause-bound
returns-then-has_types-clause-bound c =
    let types = c.has_types.ensures.0 c.if-has_types.true in
    let one : leaf_count c.args.level * 1 ≡ leaf_count c.args.level = omega arith in
    rw (capacity-cons, capacity-nil, one, c.from.ensures, c.u32_at.ensures) types.leaf
