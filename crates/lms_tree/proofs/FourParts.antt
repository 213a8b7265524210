-- Four strings joined: where each is read again.
use Rattle.std.proofs.Common.{◌≡◌, ℕ, ◌+◌, ◌^◌, ◌<◌, List, ◌++◌, length, ap, ◌∙◌, arith, append_assoc, length-append}
use Rattle.lms_ots.specs.Words.{u32str, u32_at, part}
use Rattle.lms_ots.specs.Laws.{WordLaws}

module _ (a b c d : List ℕ) where
  halves : a ++ b ++ c ++ d ≡ (a ++ b) ++ (c ++ d)
  halves = append_assoc (a ++ b) c d

  behind_first : a ++ b ++ c ++ d ≡ a ++ (b ++ (c ++ d))
  behind_first = halves ∙ append_assoc a b (c ++ d)

  pub length-four : length (a ++ b ++ c ++ d) ≡ length a + length b + length c + length d
  length-four = omega (arith, length-append (a ++ b ++ c) d, length-append (a ++ b) c, length-append a b)

  module _ (words : WordLaws) where
    pub second : (k n : ℕ) → length a ≡ k → length b ≡ n → part (a ++ b ++ c ++ d) k n ≡ b
    second k n h e = ap (λ x. part x k n) halves ∙ words.part_middle a b (c ++ d) k n h e

    pub third : (k n : ℕ) → length a + length b ≡ k → length c ≡ n → part (a ++ b ++ c ++ d) k n ≡ c
    third k n h e = words.part_middle (a ++ b) c d k n (length-append a b ∙ h) e

    pub fourth : (k m n : ℕ) → length a + length b + length c ≡ k → part (a ++ b ++ c ++ d) (k + m) n ≡ part d m n
    fourth k m n h = words.part_behind (a ++ b ++ c) d k m n (length-append (a ++ b) c ∙ ap (λ x. x + length c) (length-append a b) ∙ h)

    pub word_second : (k : ℕ) → length a ≡ k → u32_at (a ++ b ++ c ++ d) k ≡ u32_at (b ++ (c ++ d)) 0
    word_second k h = ap (λ x. u32_at x k) behind_first ∙ words.word_behind a (b ++ (c ++ d)) k h

    pub word_third : (k : ℕ) → length a + length b ≡ k → u32_at (a ++ b ++ c ++ d) k ≡ u32_at (c ++ d) 0
    word_third k h = ap (λ x. u32_at x k) halves ∙ words.word_behind (a ++ b) (c ++ d) k (length-append a b ∙ h)

pub word_first : WordLaws → (x : ℕ) (b c d : List ℕ) → x < 2 ^ 32 → u32_at (u32str x ++ b ++ c ++ d) 0 ≡ x
word_first words x b c d h =
    ap (λ s. u32_at s 0) (behind_first (u32str x) b c d) ∙ words.word_first x (b ++ (c ++ d)) h
