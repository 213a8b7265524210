-- The strings that are hashed, and that two of them collide.
use Rattle.std.specs.Prelude.{◌≡◌, ◌≢◌, ℕ, zero, suc, ◌-◌, ◌==◌, nat_lt, nat_le, ◌&&◌, if◌then◌else◌, List, [], ◌∷◌, ◌++◌, length, take, drop, reverse, Bool, true, false, Option, Some, None, option_map, Contains}
use Rattle.std.specs.Option.{option_to_list}
use Rattle.sha2.specs.Sha256.{sha256}
use Rattle.merkle_tree.specs.Mth.{leaf_hash, split_point, mth}
use Rattle.merkle_tree.specs.Paths.{root_down}
use Rattle.merkle_tree.specs.Consistency.{roots_down}

-- a string of the first list and a different one of the second have the same hash
pub record Collides (some others : List (List ℕ)) : Type 0 where
  pub one : List ℕ
  pub other : List ℕ
  pub among : Contains some one
  pub beside : Contains others other
  pub differ : one ≢ other
  pub same : sha256 one ≡ sha256 other

-- what a node's hash is taken of
abbrev pub node_input : List ℕ → List ℕ → List ℕ
node_input left right = 1 ∷ left ++ right

-- the strings that MTH(D) hashes, going down at most so many levels
unfoldable pub inputs_within : ℕ → List (List ℕ) → List (List ℕ)
inputs_within levels [] = [] ∷ []
inputs_within levels (d ∷ []) = (0 ∷ d) ∷ []
inputs_within zero (d ∷ e ∷ rest) = []
inputs_within (suc levels) (d ∷ e ∷ rest) = let all = d ∷ e ∷ rest in let k = split_point (length all) in
    node_input (mth (take k all)) (mth (drop k all)) ∷ inputs_within levels (take k all) ++ inputs_within levels (drop k all)

-- TreeInputs(D)
unfoldable pub tree_inputs : List (List ℕ) → List (List ℕ)
tree_inputs entries = inputs_within (length entries) entries

-- the strings that RootFrom hashes for m < n, and the one of the leaf: a node's where there is a root below it
unfoldable pub inputs_down : ℕ → ℕ → List ℕ → List (List ℕ) → List (List ℕ)
inputs_down m n entry [] = (0 ∷ entry) ∷ []
inputs_down m n entry (other ∷ below) = let k = split_point n in
    if nat_lt n 2 then (0 ∷ entry) ∷ []
    else (if nat_lt m k then option_to_list (option_map (λ r. node_input r other) (root_down m k (leaf_hash entry) below)) ++ inputs_down m k entry below
    else option_to_list (option_map (λ r. node_input other r) (root_down (m - k) (n - k) (leaf_hash entry) below)) ++ inputs_down (m - k) (n - k) entry below)

-- PathInputs(m, n, e, path): the strings that are hashed to lead from an entry to the root
abbrev pub path_inputs : ℕ → ℕ → List ℕ → List (List ℕ) → List (List ℕ)
path_inputs m n entry path = if nat_lt m n then inputs_down m n entry (reverse path) else (0 ∷ entry) ∷ []

-- both nodes over a part that is common, at the left
abbrev pub two_inputs : List ℕ → Option (List ℕ × List ℕ) → List (List ℕ)
two_inputs left None = []
two_inputs left (Some r) = node_input left r.0 ∷ node_input left r.1 ∷ []

-- the strings that RootsFrom hashes for 0 < m <= n
unfoldable pub pair_inputs : ℕ → ℕ → Bool → List ℕ → List (List ℕ) → List (List ℕ)
pair_inputs m n whole old [] = []
pair_inputs m n whole old (other ∷ below) = let k = split_point n in
    if m == n then []
    else (if nat_le m k then option_to_list (option_map (λ r. node_input r.1 other) (roots_down m k whole old below)) ++ pair_inputs m k whole old below
    else two_inputs other (roots_down (m - k) (n - k) false old below) ++ pair_inputs (m - k) (n - k) false old below)

-- ProofInputs(m, n, old root, path)
abbrev pub proof_inputs : ℕ → ℕ → List ℕ → List (List ℕ) → List (List ℕ)
proof_inputs m n old path = if nat_lt 0 m && nat_le m n then pair_inputs m n true old (reverse path) else []
