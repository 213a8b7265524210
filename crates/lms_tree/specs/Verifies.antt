-- When an LMS signature verifies (RFC 8554, 5.4.2, algorithms 6 and 6a).
use Rattle.std.specs.Prelude.{◌≡◌, ℕ, ◌+◌, ◌*◌, ◌/◌, ◌%◌, ◌<◌, ◌==◌, List, [], ◌∷◌, length, map, Some, if◌then◌else◌}
use Rattle.std.specs.List.{range_with_len}
use Rattle.lms_ots.specs.Words.{u32_at, part}
use Rattle.lms_ots.specs.Parameters.{parameters}
use Rattle.lms_ots.specs.OneTime.{ots_candidate}
use Rattle.lms_tree.specs.declared.types.Level.{Level}
use Rattle.lms_tree.specs.Types.{lms_parameters, height, leaf_count, sig_len, level_at}
use Rattle.lms_tree.specs.Nodes.{key_name, leaf, parent}

-- the node above r, from the value of r and that of the node beside it
abbrev pub above : List ℕ → ℕ → List ℕ → List ℕ → List ℕ
above id r value beside =
    if r % 2 == 1 then parent id (r / 2) beside value else parent id (r / 2) value beside

-- the root over node r with this value, along a path from that node up
unfoldable pub root_from : List ℕ → ℕ → List ℕ → List (List ℕ) → List ℕ
root_from id r value [] = value
root_from id r value (beside ∷ path) = root_from id (r / 2) (above id r value beside) path

-- the n hashes of s from byte k on
unfoldable pub hashes : List ℕ → ℕ → ℕ → List (List ℕ)
hashes s k n = map (λ i. part s (k + 32 * i) 32) (range_with_len 0 n)

-- the candidate root of a signature under the identifier I
unfoldable pub root_of_sig : Level → List ℕ → List ℕ → List ℕ → List ℕ
root_of_sig level id sig msg =
    let q = u32_at sig 0 in
    let ots = (parameters level.ots).sig_len in
    let key = ots_candidate level.ots (key_name id q) (part sig 4 ots) msg in
    root_from id (leaf_count level + q) (leaf id (leaf_count level + q) key) (hashes sig (8 + ots) (height level))

-- a signature has the length and the type codes of a level, and q is the number of a leaf
pub record HasTypes (level : Level) (sig : List ℕ) : Type 0 where
  pub whole : length sig ≡ sig_len level
  pub ots_code : u32_at sig 4 ≡ (parameters level.ots).code
  pub lms_code : u32_at sig (4 + (parameters level.ots).sig_len) ≡ (lms_parameters level.lms).code
  pub leaf : u32_at sig 0 < leaf_count level

-- a signature verifies a message under a public key: the key has 56 bytes and its type codes are known,
-- the signature has its types, and the root is the key's T[1]
pub record LmsVerifies (public sig msg : List ℕ) : Type 0 where
  pub whole : length public ≡ 56
  pub level : Level
  pub known : level_at public 0 ≡ Some level
  pub types : HasTypes level sig
  pub root : root_of_sig level (part public 8 16) sig msg ≡ part public 24 32
