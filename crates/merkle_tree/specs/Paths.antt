-- Inclusion proofs (RFC 9162, 2.1.3).
use Rattle.std.specs.Prelude.{ℕ, zero, suc, ◌-◌, ◌==◌, nat_lt, if◌then◌else◌, List, [], ◌∷◌, ◌++◌, length, take, drop, reverse, Option, Some, None, option_map}
use Rattle.merkle_tree.specs.Mth.{leaf_hash, node_hash, split_point, root_within}

-- PATH by the recursion of the standard, going down at most so many levels (RFC 9162, 2.1.3.1):
--   PATH(0, {d[0]}) = {},
--   PATH(m, D[n]) = PATH(m, D[0:k]) : MTH(D[k:n]) for m < k,
--   PATH(m, D[n]) = PATH(m - k, D[k:n]) : MTH(D[0:k]) for m >= k
unfoldable pub path_within : (List ℕ → List ℕ) → ℕ → ℕ → List (List ℕ) → List (List ℕ)
path_within leaf levels m [] = []
path_within leaf levels m (d ∷ []) = []
path_within leaf zero m (d ∷ e ∷ rest) = []
path_within leaf (suc levels) m (d ∷ e ∷ rest) = let all = d ∷ e ∷ rest in let k = split_point (length all) in
    if nat_lt m k then path_within leaf levels m (take k all) ++ root_within leaf levels (drop k all) ∷ []
    else path_within leaf levels (m - k) (drop k all) ++ root_within leaf levels (take k all) ∷ []

-- PATH(m, D)
unfoldable pub path_of : ℕ → List (List ℕ) → List (List ℕ)
path_of m entries = path_within leaf_hash (length entries) m entries

-- the same over the hashes of the leaves
unfoldable pub tree_path : ℕ → List (List ℕ) → List (List ℕ)
tree_path m leaves = path_within (λ h. h) (length leaves) m leaves

-- RootFrom for m < n, by the siblings from the root down: with none the leaf is all there is, else the
-- first one is the part of the tree that the leaf isn't in
unfoldable pub root_down : ℕ → ℕ → List ℕ → List (List ℕ) → Option (List ℕ)
root_down m n leaf [] = if n == 1 then Some leaf else None
root_down m n leaf (other ∷ below) = let k = split_point n in
    if nat_lt n 2 then None
    else (if nat_lt m k then option_map (λ r. node_hash r other) (root_down m k leaf below)
    else option_map (λ r. node_hash other r) (root_down (m - k) (n - k) leaf below))

-- RootFrom(m, n, leaf, path): the root of a tree of n leaves that the path from leaf m leads to. A path
-- has its siblings from the leaf up
abbrev pub root_from : ℕ → ℕ → List ℕ → List (List ℕ) → Option (List ℕ)
root_from m n leaf path = if nat_lt m n then root_down m n leaf (reverse path) else None
