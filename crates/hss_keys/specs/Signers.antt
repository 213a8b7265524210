-- A signer, as contracts see it, and what it keeps.
use Rattle.std.specs.Prelude.{◌≡◌, ℕ, ◌+◌, ◌<◌, List, [], ◌∷◌, length}
use Rattle.std.specs.List.{between}
use Rattle.lms_tree.specs.declared.types.Level.{Level}
use Rattle.lms_tree.specs.Trees.{TreeKey}
use Rattle.hss_keys.specs.declared.branch.Child.{Child}
use Rattle.hss_keys.specs.Levels.{IsLevels, below_len, capacity}
use Rattle.hss_keys.specs.Branches.{IsBranch}

-- a signer: its levels, the top tree's identifier and seed, and the index that is prepared
pub record SignerKey : Type 0 where
  pub levels : List Level
  pub id : List ℕ
  pub seed : List ℕ
  pub prepared : ℕ

-- the levels below the first one
abbrev pub below_top : List Level → List Level
below_top levels = between 1 (length levels) levels

-- a signer keeps the top tree, and below it those of the prepared index
pub record IsSigner (levels : List Level) (top : TreeKey) (index : ℕ) (lower : List Child) : Type 0 where
  pub named : length top.id ≡ 16
  pub valid : IsLevels levels
  pub first : levels ≡ top.level ∷ below_top levels
  pub below : index < capacity levels
  pub held : IsBranch top (below_top levels) index lower

-- the bytes of a signature of these levels
abbrev pub hss_sig_len : List Level → ℕ
hss_sig_len [] = 0
hss_sig_len (level ∷ below) = 4 + below_len level below
