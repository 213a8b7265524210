-- Capacities of levels: one level more on top, and the bound for levels that sign.
use Rattle.std.proofs.Common.{◌≡◌, inl, inr, ℕ, suc, ◌+◌, ◌*◌, ◌/◌, ◌^◌, ◌<◌, ◌≤◌, List, [], ◌∷◌, length, get_or, refl, ap, ◌∙◌, arith}
use Rattle.std.specs.List.{sum_by}
use Rattle.std.proofs.lemmas.List.Sums.{sum_by-cons}
use Rattle.std.proofs.Math.Nat.{mul_comm, div-lt_iff_lt-mul}
use Rattle.std.proofs.lemmas.Nat.{mul-add-lt}
use Rattle.std.proofs.Math.Pow.{pow_pos, pow_mono, pow-add}
use Rattle.lms_tree.specs.declared.types.Level.{Level}
use Rattle.lms_tree.specs.Types.{height, leaf_count}
use Rattle.hss_keys.specs.Levels.{CanSign, IsLevels, capacity}

pub capacity-nil : capacity [] ≡ 1
unfolding capacity
capacity-nil = refl

pub capacity-cons : (level : Level) (below : List Level) → capacity (level ∷ below) ≡ leaf_count level * capacity below
unfolding capacity
capacity-cons level below =
    ap (λ n. 2 ^ n) (sum_by-cons height level below) ∙ pow-add 2 (height level) (sum_by height below)

pub capacity_pos : (levels : List Level) → 0 < capacity levels
unfolding capacity
capacity_pos levels = pow_pos (sum_by height levels)

pub can_sign_bound : (level : Level) → CanSign level → height level ≤ 10
can_sign_bound level (inl e) = omega arith
can_sign_bound level (inr e) = omega arith

pub small_heights : (levels : List Level) → ((k : ℕ) (d : Level) → k < length levels → CanSign (get_or levels k d)) → sum_by height levels ≤ 10 * length levels
small_heights [] each = omega arith
small_heights (level ∷ below) each =
    let first = can_sign_bound level (each 0 level (omega arith)) in
    let rest = small_heights below (λ k d h. each (suc k) d (omega arith)) in
    omega (arith, sum_by-cons height level below, first, rest)

pub IsLevels-small : (levels : List Level) → IsLevels levels → sum_by height levels ≤ 30
IsLevels-small levels is = omega (arith, small_heights levels is.each, is.most)

-- a leaf number above an index of the levels below is an index
pub index_fits : (level : Level) (below : List Level) (q low : ℕ) → q < leaf_count level → low < capacity below → q * capacity below + low < capacity (level ∷ below)
index_fits level below q low h k =
    rw (capacity-cons level below, mul_comm (leaf_count level) (capacity below)) (mul-add-lt q (capacity below) low (leaf_count level) h k)

pub capacity_small : (levels : List Level) → sum_by height levels ≤ 30 → capacity levels ≤ 2 ^ 30
unfolding capacity
capacity_small levels h = pow_mono h

pub capacity_bound : (levels : List Level) → IsLevels levels → capacity levels ≤ 1073741824
capacity_bound levels is = omega (arith, capacity_small levels (IsLevels-small levels is))

-- the leaf on the way to an index
pub leaf_below : (level : Level) (below : List Level) (index : ℕ) → index < capacity (level ∷ below) → index / capacity below < leaf_count level
leaf_below level below index h =
    let whole : index < leaf_count level * capacity below = rw (← capacity-cons) h in
    (div-lt_iff_lt-mul (capacity_pos below)).1 whole

pub small_below : (level : Level) (below : List Level) → sum_by height (level ∷ below) ≤ 30 → sum_by height below ≤ 30
small_below level below h = omega (arith, sum_by-cons height level below)
