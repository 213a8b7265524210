-- When an HSS signature verifies, and which index its leaf numbers spell (RFC 8554, 6.2 and 6.3).
use Rattle.std.specs.Prelude.{◌≡◌, ℕ, zero, suc, ◌+◌, ◌*◌, ◌≤◌, List, [], ◌∷◌, length, drop, Some}
use Rattle.lms_ots.specs.Words.{u32_at, part}
use Rattle.lms_tree.specs.declared.types.Level.{Level}
use Rattle.lms_tree.specs.Types.{sig_len, level_at}
use Rattle.lms_tree.specs.Verifies.{HasTypes, LmsVerifies}
use Rattle.hss_keys.specs.Levels.{capacity}

-- an LMS key, with `count` levels below it, verifies a message: its signature, the first n bytes,
-- verifies the 56 bytes of the next key behind it, and that key what follows; on the last level all
-- that is left is its signature on the message
abbrev pub VerifiesBelow : ℕ → List ℕ → List ℕ → List ℕ → Type 0
VerifiesBelow zero public sig msg = LmsVerifies public sig msg
VerifiesBelow (suc count) public sig msg = (n : ℕ) × (n + 56 ≤ length sig)
    × LmsVerifies public (part sig 0 n) (part sig n 56) × VerifiesBelow count (part sig n 56) (drop (n + 56) sig) msg

-- an HSS signature verifies a message under an HSS key: the key has 60 bytes and counts 1 to 8 levels,
-- the first word of the signature is one less, and the levels verify
pub record HssVerifies (key sig msg : List ℕ) : Type 0 where
  pub whole : length key ≡ 60
  pub some : 1 ≤ u32_at key 0
  pub most : u32_at key 0 ≤ 8
  pub enough : 4 ≤ length sig
  pub count : u32_at sig 0 + 1 ≡ u32_at key 0
  pub levels : VerifiesBelow (u32_at sig 0) (part key 4 56) (drop 4 sig) msg

-- a level's signature and the next key behind it have the lengths and the type codes of these levels
pub record IsAbove (level next : Level) (sig : List ℕ) : Type 0 where
  pub room : sig_len level + 56 ≤ length sig
  pub types : HasTypes level (part sig 0 (sig_len level))
  pub known : level_at sig (sig_len level) ≡ Some next

-- the leaf numbers of a level's signature and of those below it spell an index, where the lengths and
-- all type codes are those of the levels
abbrev pub IndexBelow : Level → List Level → List ℕ → ℕ → Type 0
IndexBelow level [] sig index = HasTypes level sig × (u32_at sig 0 ≡ index)
IndexBelow level (next ∷ below) sig index = (low : ℕ) × IsAbove level next sig
    × IndexBelow next below (drop (sig_len level + 56) sig) low
    × (index ≡ u32_at sig 0 * capacity (next ∷ below) + low)

-- the leaf numbers of an HSS signature of these levels spell this index
abbrev pub FlatIndex : List Level → List ℕ → ℕ → Type 0
FlatIndex [] sig index = ⊥
FlatIndex (level ∷ below) sig index =
    (4 ≤ length sig) × (u32_at sig 0 ≡ length below) × IndexBelow level below (drop 4 sig) index
