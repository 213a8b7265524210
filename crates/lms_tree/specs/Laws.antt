-- Laws over all trees.
use Rattle.std.specs.Prelude.{◌≡◌, ℕ, ◌<◌, List, length, Some}
use Rattle.lms_ots.specs.Words.{u32_at}
use Rattle.lms_tree.specs.declared.types.Level.{Level}
use Rattle.lms_tree.specs.Types.{leaf_count, level_at, sig_len}
use Rattle.lms_tree.specs.Nodes.{child_id, lms_public, lms_sig}
use Rattle.lms_tree.specs.Verifies.{HasTypes, LmsVerifies}

-- the signature of any leaf of any tree, on any message, has its level's length and types, begins with
-- the leaf's number and verifies under the tree's public key, which has 56 bytes and names the level;
-- the identifier of a tree below a leaf has 16 bytes
pub record LmsLaws : Type 0 where
  pub len : (level : Level) (id seed : List ℕ) (q : ℕ) (msg : List ℕ) → length id ≡ 16 → q < leaf_count level
      → length (lms_sig level id seed q msg) ≡ sig_len level
  pub types : (level : Level) (id seed : List ℕ) (q : ℕ) (msg : List ℕ) → length id ≡ 16 → q < leaf_count level
      → HasTypes level (lms_sig level id seed q msg)
  pub leaf : (level : Level) (id seed : List ℕ) (q : ℕ) (msg : List ℕ) → length id ≡ 16 → q < leaf_count level
      → u32_at (lms_sig level id seed q msg) 0 ≡ q
  pub public_len : (level : Level) (id seed : List ℕ) → length id ≡ 16 → length (lms_public level id seed) ≡ 56
  pub known : (level : Level) (id seed : List ℕ) → length id ≡ 16 → level_at (lms_public level id seed) 0 ≡ Some level
  pub verifies : (level : Level) (id seed : List ℕ) (q : ℕ) (msg : List ℕ) → length id ≡ 16 → q < leaf_count level
      → LmsVerifies (lms_public level id seed) (lms_sig level id seed q msg) msg
  pub child_len : (id seed : List ℕ) (q : ℕ) → length (child_id id seed q) ≡ 16
