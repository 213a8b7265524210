-- Levels read in a part of a string.
use Rattle.std.proofs.Common.{◌≡◌, ℕ, ◌≤◌, List, refl, arith, add-zero}
use Rattle.lms_ots.specs.Words.{part}
use Rattle.lms_ots.specs.Laws.{WordLaws}
use Rattle.lms_tree.specs.Types.{level_at}

pub level_at-within : WordLaws → (s : List ℕ) (k n : ℕ) → 8 ≤ n → level_at (part s k n) 0 ≡ level_at s k
level_at-within words s k n h =
    let first = rw add-zero at (words.word_within s k n 0 (omega arith)) in
    let second = words.word_within s k n 4 (omega arith) in
    rw (first, second) refl
