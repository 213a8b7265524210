-- What a public key says of its levels (RFC 8554, 6.1).
use Rattle.std.specs.Prelude.{◌≡◌, ℕ, ◌≤◌, List, length, slice_get}
use Rattle.lms_ots.specs.Words.{u32_at}
use Rattle.lms_tree.specs.declared.types.Level.{Level}
use Rattle.lms_tree.specs.Types.{level_at}

-- u32str(L) || pub[0] names these levels: it has 60 bytes, counts them, and has the type codes of the
-- first of them (6.1)
pub record NamesLevels (levels : List Level) (key : List ℕ) : Type 0 where
  pub some : 1 ≤ length levels
  pub whole : length key ≡ 60
  pub count : u32_at key 0 ≡ length levels
  pub top : level_at key 4 ≡ slice_get levels 0
