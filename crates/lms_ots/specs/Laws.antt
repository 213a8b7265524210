-- Laws over words and parts of byte strings, and over all one-time keys.
use Rattle.std.specs.Prelude.{◌≡◌, ℕ, ◌+◌, ◌*◌, ◌^◌, ◌<◌, ◌≤◌, List, [], ◌++◌, length, Some}
use Rattle.lms_ots.specs.declared.chains.OtsAt.{OtsAt}
use Rattle.lms_ots.specs.declared.parameters.OtsType.{OtsType}
use Rattle.lms_ots.specs.Words.{u32str, u32_at, part, joined}
use Rattle.lms_ots.specs.Parameters.{parameters, type_of_code}
use Rattle.lms_ots.specs.Chains.{chain, secret}
use Rattle.lms_ots.specs.OneTime.{front_type, ots_candidate, ots_key, ots_sig}

-- words and parts are read again where they stand, in a string and in a part of one
pub record WordLaws : Type 0 where
  pub word_len : (x : ℕ) → length (u32str x) ≡ 4
  pub word_first : (x : ℕ) (rest : List ℕ) → x < 2 ^ 32 → u32_at (u32str x ++ rest) 0 ≡ x
  pub word_behind : (front rest : List ℕ) (k : ℕ) → length front ≡ k → u32_at (front ++ rest) k ≡ u32_at rest 0
  pub word_within : (s : List ℕ) (k n j : ℕ) → j + 4 ≤ n → u32_at (part s k n) j ≡ u32_at s (k + j)
  pub part_len : (s : List ℕ) (k n : ℕ) → k + n ≤ length s → length (part s k n) ≡ n
  pub part_whole : (s : List ℕ) (n : ℕ) → length s ≡ n → part s 0 n ≡ s
  pub part_behind : (front rest : List ℕ) (k m n : ℕ) → length front ≡ k → part (front ++ rest) (k + m) n ≡ part rest m n
  pub part_middle : (front middle rest : List ℕ) (k n : ℕ) → length front ≡ k → length middle ≡ n
      → part (front ++ middle ++ rest) k n ≡ middle
  pub joined_none : (f : ℕ → List ℕ) → joined f 0 ≡ []
  pub joined_more : (f : ℕ → List ℕ) (n : ℕ) → joined f (n + 1) ≡ joined f n ++ f n
  pub joined_len : (f : ℕ → List ℕ) (m n : ℕ) → ((i : ℕ) → i < n → length (f i) ≡ m) → length (joined f n) ≡ m * n
  pub joined_part : (f : ℕ → List ℕ) (m n i : ℕ) → ((j : ℕ) → j < n → length (f j) ≡ m) → i < n
      → part (joined f n) (m * i) m ≡ f i

-- a type is found by its code, and a secret has 32 bytes; the steps of a chain up to some place and
-- those from there on make the whole chain, so a signature of any seed, on any message, has its type's
-- code and length, and the seed's key as its candidate key
pub record OtsLaws : Type 0 where
  pub known : (kind : OtsType) → type_of_code (parameters kind).code ≡ Some kind
  pub secret_len : (place : OtsAt) (i : ℕ) (seed : List ℕ) → length (secret place i seed) ≡ 32
  pub chain_whole : (place : OtsAt) (i first middle end : ℕ) (x : List ℕ) → first ≤ middle → middle ≤ end
      → chain place i middle end (chain place i first middle x) ≡ chain place i first end x
  pub len : (kind : OtsType) (place : OtsAt) (seed msg : List ℕ)
      → length (ots_sig kind place seed msg) ≡ (parameters kind).sig_len
  pub typed : (kind : OtsType) (place : OtsAt) (seed msg : List ℕ)
      → front_type (ots_sig kind place seed msg) ≡ Some kind
  pub key : (kind : OtsType) (place : OtsAt) (seed msg : List ℕ)
      → ots_candidate kind place (ots_sig kind place seed msg) msg ≡ ots_key kind place seed
