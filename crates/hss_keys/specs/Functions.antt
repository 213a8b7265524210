-- Whether a signature verifies, which index it has and whether a key names levels, as functions, beside the relations
-- (RFC 8554, 5.4.2, 6.1 and 6.3).
use Rattle.std.specs.Prelude.{◌≡◌, ◌↔◌, ℕ, zero, suc, ◌+◌, ◌*◌, Bool, true, false, ◌&&◌, ◌==◌, nat_le, nat_lt, List, [], ◌∷◌, length, drop, Option, None, Some, if◌then◌else◌}
use Rattle.std.specs.Str.{bytes_eq}
use Rattle.lms_ots.specs.Words.{u32_at, part}
use Rattle.lms_ots.specs.Parameters.{parameters}
use Rattle.lms_tree.specs.declared.types.Level.{Level}
use Rattle.lms_tree.specs.Types.{lms_parameters, leaf_count, sig_len, level_at}
use Rattle.lms_tree.specs.Verifies.{root_of_sig}
use Rattle.hss_keys.specs.Levels.{capacity}
use Rattle.hss_keys.specs.Keys.{NamesLevels}
use Rattle.hss_keys.specs.Verifies.{HssVerifies, FlatIndex}

-- a signature has a level's length and types, and numbers a leaf
abbrev pub has_types : Level → List ℕ → Bool
has_types level sig =
    length sig == sig_len level
    && (u32_at sig 4 == (parameters level.ots).code
    && (u32_at sig (4 + (parameters level.ots).sig_len) == (lms_parameters level.lms).code
    && nat_lt (u32_at sig 0) (leaf_count level)))

-- a signature verifies under a key of this level
abbrev pub verifies_at : Option Level → List ℕ → List ℕ → List ℕ → Bool
verifies_at None public sig msg = false
verifies_at (Some level) public sig msg =
    length public == 56 && (has_types level sig && bytes_eq (root_of_sig level (part public 8 16) sig msg) (part public 24 32))

-- an LMS signature verifies
unfoldable pub lms_verifies : List ℕ → List ℕ → List ℕ → Bool
lms_verifies public sig msg = verifies_at (level_at public 0) public sig msg

-- the length of the top signature, by the key's types; of an unknown key it is 0
abbrev pub len_at : Option Level → ℕ
len_at None = 0
len_at (Some level) = sig_len level

-- so many levels below a key verify
unfoldable pub verifies_below : ℕ → List ℕ → List ℕ → List ℕ → Bool
verifies_below zero public sig msg = lms_verifies public sig msg
verifies_below (suc count) public sig msg =
    let n = len_at (level_at public 0) in
    nat_le (n + 56) (length sig) && (lms_verifies public (part sig 0 n) (part sig n 56) && verifies_below count (part sig n 56) (drop (n + 56) sig) msg)

-- an HSS signature verifies
unfoldable pub hss_verifies : List ℕ → List ℕ → List ℕ → Bool
hss_verifies key sig msg =
    length key == 60 && (nat_le 1 (u32_at key 0) && (nat_le (u32_at key 0) 8 && (nat_le 4 (length sig) && (u32_at sig 0 + 1 == u32_at key 0
    && verifies_below (u32_at sig 0) (part key 4 56) (drop 4 sig) msg))))

-- the same level, by its codes
abbrev pub same_level : Level → Option Level → Bool
same_level level None = false
same_level level (Some other) = (lms_parameters level.lms).code == (lms_parameters other.lms).code && (parameters level.ots).code == (parameters other.ots).code

-- a level's signature and the next key behind it are those of these levels
abbrev pub is_above : Level → Level → List ℕ → Bool
is_above level next sig =
    nat_le (sig_len level + 56) (length sig) && (has_types level (part sig 0 (sig_len level)) && same_level next (level_at sig (sig_len level)))

-- the index with what the levels below spell
abbrev pub joined_index : ℕ → Option ℕ → Option ℕ
joined_index high None = None
joined_index high (Some low) = Some (high + low)

-- the index that the leaf numbers of a level and of those below it spell
unfoldable pub index_below : Level → List Level → List ℕ → Option ℕ
index_below level [] sig = if has_types level sig then Some (u32_at sig 0) else None
index_below level (next ∷ below) sig =
    if is_above level next sig
    then joined_index (u32_at sig 0 * capacity (next ∷ below)) (index_below next below (drop (sig_len level + 56) sig)) else None

-- the index that the leaf numbers of an HSS signature spell
unfoldable pub flat_index : List Level → List ℕ → Option ℕ
flat_index [] sig = None
flat_index (level ∷ below) sig =
    if nat_le 4 (length sig) && u32_at sig 0 == length below then index_below level below (drop 4 sig) else None

-- a key names these levels
unfoldable pub names_levels : List Level → List ℕ → Bool
names_levels [] key = false
names_levels (level ∷ below) key = length key == 60 && (u32_at key 0 == length (level ∷ below) && same_level level (level_at key 4))

-- the laws that tie them to the relations
abbrev pub VerifiesExactly : Type 0
VerifiesExactly = (key sig msg : List ℕ) → (hss_verifies key sig msg ≡ true) ↔ HssVerifies key sig msg

abbrev pub IndexExactly : Type 0
IndexExactly = (levels : List Level) (sig : List ℕ) (index : ℕ) → (flat_index levels sig ≡ Some index) ↔ FlatIndex levels sig index

abbrev pub NamesExactly : Type 0
NamesExactly = (levels : List Level) (key : List ℕ) → (names_levels levels key ≡ true) ↔ NamesLevels levels key
