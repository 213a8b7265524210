-- Levels of trees, as this project's signer has them (RFC 8554, section 6).
use Rattle.std.specs.Prelude.{◌≡◌, ◌⊎◌, ℕ, ◌+◌, ◌^◌, ◌≤◌, List, [], ◌∷◌, length, All}
use Rattle.std.specs.List.{sum_by}
use Rattle.lms_tree.specs.declared.types.Level.{Level}
use Rattle.lms_tree.specs.Types.{height, sig_len}

-- a level whose trees are small enough to be kept
abbrev pub CanSign : Level → Type 0
CanSign level = (height level ≡ 5) ⊎ (height level ≡ 10)

-- one to three such levels, from the top down
pub record IsLevels (levels : List Level) : Type 0 where
  pub some : 1 ≤ length levels
  pub most : length levels ≤ 3
  pub each : All CanSign levels

-- how many messages levels sign: 2 to the sum of their heights
unfoldable pub capacity : List Level → ℕ
capacity levels = 2 ^ sum_by height levels

-- the bytes of the signatures and next keys of a level and those below it
abbrev pub below_len : Level → List Level → ℕ
below_len level [] = sig_len level
below_len level (next ∷ below) = sig_len level + 56 + below_len next below
