-- Consistency proofs (RFC 9162, 2.1.4).
use Rattle.std.specs.Prelude.{ℕ, zero, suc, ◌-◌, ◌==◌, nat_lt, nat_le, ◌&&◌, if◌then◌else◌, List, [], ◌∷◌, ◌++◌, length, take, drop, reverse, Bool, true, false, Option, Some, None, option_map}
use Rattle.merkle_tree.specs.Mth.{leaf_hash, node_hash, split_point, root_within}

-- a root where it isn't known to the other side
abbrev pub unless_whole : Bool → List ℕ → List (List ℕ)
unless_whole true root = []
unless_whole false root = root ∷ []

-- SUBPROOF by the recursion of the standard, going down at most so many levels (RFC 9162, 2.1.4.1):
--   SUBPROOF(n, D[n], true) = {}, SUBPROOF(n, D[n], false) = {MTH(D)},
--   SUBPROOF(m, D[n], b) = SUBPROOF(m, D[0:k], b) : MTH(D[k:n]) for m <= k,
--   SUBPROOF(m, D[n], b) = SUBPROOF(m - k, D[k:n], false) : MTH(D[0:k]) for k < m < n
unfoldable pub sub_within : (List ℕ → List ℕ) → ℕ → ℕ → Bool → List (List ℕ) → List (List ℕ)
sub_within leaf levels m whole [] = []
sub_within leaf levels m whole (d ∷ []) = unless_whole whole (leaf d)
sub_within leaf zero m whole (d ∷ e ∷ rest) = []
sub_within leaf (suc levels) m whole (d ∷ e ∷ rest) = let all = d ∷ e ∷ rest in let k = split_point (length all) in
    if m == length all then unless_whole whole (root_within leaf (length all) all)
    else (if nat_le m k then sub_within leaf levels m whole (take k all) ++ root_within leaf levels (drop k all) ∷ []
    else sub_within leaf levels (m - k) false (drop k all) ++ root_within leaf levels (take k all) ∷ [])

-- SUBPROOF(m, D, b)
unfoldable pub sub_of : ℕ → Bool → List (List ℕ) → List (List ℕ)
sub_of m whole entries = sub_within leaf_hash (length entries) m whole entries

-- PROOF(m, D), which is empty for m = n
abbrev pub proof_of : ℕ → List (List ℕ) → List (List ℕ)
proof_of m entries = sub_of m true entries

-- the same over the hashes of the leaves
unfoldable pub tree_sub : ℕ → Bool → List (List ℕ) → List (List ℕ)
tree_sub m whole leaves = sub_within (λ h. h) (length leaves) m whole leaves

abbrev pub tree_proof : ℕ → List (List ℕ) → List (List ℕ)
tree_proof m leaves = tree_sub m true leaves

-- both roots where the two trees are one: it is the old one, or the only element
abbrev pub at_one_tree : Bool → List ℕ → List (List ℕ) → Option (List ℕ × List ℕ)
at_one_tree true old [] = Some (old, old)
at_one_tree true old (first ∷ more) = None
at_one_tree false old [] = None
at_one_tree false old (root ∷ []) = Some (root, root)
at_one_tree false old (first ∷ second ∷ more) = None

-- RootsFrom for 0 < m <= n, by the path's elements from the root down
unfoldable pub roots_down : ℕ → ℕ → Bool → List ℕ → List (List ℕ) → Option (List ℕ × List ℕ)
roots_down m n whole old [] = if m == n then at_one_tree whole old [] else None
roots_down m n whole old (other ∷ below) = let k = split_point n in
    if m == n then at_one_tree whole old (other ∷ below)
    else (if nat_le m k then option_map (λ r. (r.0, node_hash r.1 other)) (roots_down m k whole old below)
    else option_map (λ r. (node_hash other r.0, node_hash other r.1)) (roots_down (m - k) (n - k) false old below))

-- RootsFrom(m, n, old, path): the roots of the old tree of m leaves and of the new one of n
abbrev pub roots_from : ℕ → ℕ → List ℕ → List (List ℕ) → Option (List ℕ × List ℕ)
roots_from m n old path = if nat_lt 0 m && nat_le m n then roots_down m n true old (reverse path) else None
