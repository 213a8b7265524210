-- What a prepared signer keeps: the trees on the way to an index, each with the signature of its key.
use Rattle.std.specs.Prelude.{◌≡◌, ℕ, ◌/◌, ◌%◌, List, [], ◌∷◌}
use Rattle.lms_tree.specs.declared.types.Level.{Level}
use Rattle.lms_tree.specs.Trees.{TreeKey}
use Rattle.hss_keys.specs.declared.branch.Child.{Child}
use Rattle.hss_keys.specs.Levels.{capacity}
use Rattle.hss_keys.specs.Signing.{child_key, signed_child}

-- below a tree, these are the trees on the way to the index, with what the tree above signed of each
abbrev pub IsBranch : TreeKey → List Level → ℕ → List Child → Type 0
IsBranch key [] index lower = lower ≡ []
IsBranch key (next ∷ below) index [] = ⊥
IsBranch key (next ∷ below) index (child ∷ rest) =
    let q = index / capacity (next ∷ below) in
    (child.tree ≡ child_key next key q) × (child.signed.items ≡ signed_child next key q)
    × IsBranch (child_key next key q) below (index % capacity (next ∷ below)) rest
