-- The bytes of a signature of levels that sign: at most 8844 a level.
use Rattle.std.proofs.Common.{ℕ, suc, ◌+◌, ◌*◌, ◌<◌, ◌≤◌, List, [], ◌∷◌, length, get_or, arith}
use Rattle.lms_ots.specs.declared.parameters.OtsType.{OtsType}
use Rattle.lms_ots.specs.declared.parameters.OtsType.TheVariants.{W1, W2, W4, W8}
use Rattle.lms_ots.specs.Parameters.{parameters}
use Rattle.lms_tree.specs.declared.types.Level.{Level}
use Rattle.lms_tree.specs.Types.{sig_len}
use Rattle.hss_keys.specs.Levels.{CanSign, IsLevels, below_len}
use Rattle.hss_keys.specs.Signers.{hss_sig_len}
use Rattle.hss_keys.proofs.CapacityLaws.{can_sign_bound}

ots_len_bound : (ots : OtsType) → (parameters ots).sig_len ≤ 8516
ots_len_bound W1 = omega arith
ots_len_bound W2 = omega arith
ots_len_bound W4 = omega arith
ots_len_bound W8 = omega arith

sig_len_bound : (level : Level) → CanSign level → sig_len level ≤ 8844
sig_len_bound level can = omega (arith, ots_len_bound level.ots, can_sign_bound level can)

below_len_bound : (below : List Level) (level : Level) → CanSign level → ((k : ℕ) (d : Level) → k < length below → CanSign (get_or below k d))
    → below_len level below ≤ 8844 + 8900 * length below
below_len_bound [] level can each = omega (arith, sig_len_bound level can)
below_len_bound (next ∷ below) level can each =
    let first = sig_len_bound level can in
    let rest = below_len_bound below next (each 0 next (omega arith)) (λ k d h. each (suc k) d (omega arith)) in
    omega (arith, first, rest)

pub hss_sig_len_bound : (levels : List Level) → IsLevels levels → hss_sig_len levels ≤ 26648
hss_sig_len_bound [] is = absurd (omega (arith, is.some))
hss_sig_len_bound (level ∷ below) is =
    let all = below_len_bound below level (is.each 0 level (omega arith)) (λ k d h. is.each (suc k) d (omega arith)) in
    omega (arith, all, is.most)
