-- The one-time signature in an LMS signature.
use Rattle.std.proofs.Common.{◌≡◌, ℕ, ◌+◌, ◌≤◌, List, length, Some, false, nat_lt, ◌∙◌, arith, add-zero}
use Rattle.lms_ots.specs.declared.parameters.OtsType.{OtsType}
use Rattle.lms_ots.specs.declared.parameters.OtsType.TheVariants.{W1, W2, W4, W8}
use Rattle.lms_ots.specs.Words.{u32_at, part}
use Rattle.lms_ots.specs.Parameters.{parameters}
use Rattle.lms_ots.specs.OneTime.{front_type}
use Rattle.lms_ots.specs.Laws.{OtsLaws, WordLaws}

sig_len_bound : (kind : OtsType) → 1000 ≤ (parameters kind).sig_len
sig_len_bound W1 = omega arith
sig_len_bound W2 = omega arith
sig_len_bound W4 = omega arith
sig_len_bound W8 = omega arith

-- the type that stands first in the part of a signature
pub front_type-part : WordLaws → OtsLaws → (s : List ℕ) (k : ℕ) (kind : OtsType) → k + (parameters kind).sig_len ≤ length s → u32_at s k ≡ (parameters kind).code → front_type (part s k (parameters kind).sig_len) ≡ Some kind
front_type-part words one_time s k kind room code =
    let n = (parameters kind).sig_len in
    let long = sig_len_bound kind in
    let len = words.part_len s k n room in
    let enough : nat_lt (length (part s k n)) 4 ≡ false = search (arith, len, long) in
    let first = rw add-zero at (words.word_within s k n 0 (omega arith)) ∙ code in
    rw (enough, first) (one_time.known kind)
