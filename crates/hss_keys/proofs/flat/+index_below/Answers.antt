-- The index is below the capacity, which fits 64 bits.
use Rattle.std.proofs.Common.{ℕ, ◌+◌, ◌*◌, ◌^◌, ◌<◌, ◌∷◌, length, arith, rules, tests}
use Rattle.std.proofs.lemmas.Slice.{first_rest}
use Rattle.lms_ots.specs.declared.parameters.OtsType.TheVariants.{W1}
use Rattle.lms_ots.specs.Words.{u32_at}
use Rattle.lms_tree.specs.declared.types.LmsType.TheVariants.{H5}
use Rattle.lms_tree.specs.declared.types.Level.{Level}
use Rattle.lms_tree.specs.Types.{leaf_count, sig_len}
use Rattle.hss_keys.specs.Levels.{capacity}
use Rattle.hss_keys.proofs.CapacityLaws.{index_fits, capacity_small}
use Rattle.hss_keys.proofs.flat.+index_below.Goals as goal
use Rattle.hss_keys.proofs.flat.+index_below.Goals.{After-capacity}

within : (t : ℕ) (c : After-capacity t) → c.from.result * c.capacity.result + c.in_ok-low.low < capacity (c.args.level ∷ c.args.below.now)
within t c =
    let below = c.args.below.now in
    let types = (c.is_above.ensures.0 c.if-not-is_above.false).types in
    let read = c.word_law.ensures.word_within c.args.sig.now 0 (sig_len c.args.level) 0 (omega arith) in
    let leaf : u32_at c.args.sig.now 0 < leaf_count c.args.level = rw read at types.leaf in
    let d : Level = record { lms = H5; ots = W1 } in
    let some : 0 < length below = search (rules, tests) in
    let split = first_rest below d some in
    let low : c.in_ok-low.low < capacity below = rw (← split) at c.in_ok-low.ensures.bound in
    rw (c.from.ensures, c.u32_at.ensures, c.capacity.ensures) (index_fits c.args.level below (u32_at c.args.sig.now 0) c.in_ok-low.low leaf low)

pub overflow_mul-result : goal.overflow_mul-result
overflow_mul-result t c =
    let most = capacity_small (c.args.level ∷ c.args.below.now) c.requires in
    let h = within t c in
    let fits : c.from.result * c.capacity.result < 2 ^ 64 = omega arith in
    search rules

pub overflow_add-result : goal.overflow_add-result
overflow_add-result t c =
    let most = capacity_small (c.args.level ∷ c.args.below.now) c.requires in
    let h = within t c in
    let fits : c.from.result * c.capacity.result + c.in_ok-low.low < 2 ^ 64 = omega arith in
    search rules

pub returns-clause-bound : goal.returns-clause-bound
returns-clause-bound t c = within t c
