-- The paths of a tree lead to its root, and its consistency proofs to both roots.
use Rattle.std.proofs.Common.{get_or, ◌≡◌, ℕ, zero, suc, ◌+◌, ◌-◌, ◌≤◌, ◌<◌, inl, inr, Bool, true, false, cond, List, [], ◌∷◌, ◌++◌, length, take, drop, map, reverse, refl, sym, arith, ◌∙◌, ap, length-drop, eqb, nat_lt, nat_le, ◌&&◌}
use Rattle.std.specs.Prelude.{Option, Some, None, option_map, slice_get}
use Rattle.std.proofs.lemmas.Option.{slice_get_within, get_or_from_slice_get}
use Rattle.std.proofs.lemmas.Bool.{false≢true, and_from, cases_lt, lt-ltb, le-ltb, le-leb, lt-leb, eq-eqb, ne_eqb}
use Rattle.std.proofs.lemmas.List.{append-nil, take_all, take-take, drop-take, length-take-le, get_or-take, get_or-drop, length-map, take-map, drop-map, reverse-append}
use Rattle.merkle_tree.specs.Mth.{leaf_hash, node_hash, split_point, root_within, mth, tree_root}
use Rattle.merkle_tree.specs.Paths.{path_within, path_of, tree_path, root_down, root_from}
use Rattle.merkle_tree.specs.Consistency.{unless_whole, sub_within, proof_of, tree_sub, tree_proof, at_one_tree, roots_down, roots_from, sub_of}
use Rattle.merkle_tree.proofs.Splits.{Splits, split_point-splits}
use Rattle.merkle_tree.proofs.Roots.{root_of, root_of-node, root_within-levels, root_within-map, node_of}
use Rattle.merkle_tree.proofs.Collisions.{split_point-same}

cond_same : (b : Bool) (x y u v : List (List ℕ)) → x ≡ u → y ≡ v → cond b x y ≡ cond b u v
cond_same b x y u v e f = cc

push_same : (xs ys : List (List ℕ)) (x y : List ℕ) → xs ≡ ys → x ≡ y → xs ++ x ∷ [] ≡ ys ++ y ∷ []
push_same xs ys x y e f = cc

cond_two : (b c : Bool) (x y z u v w : List (List ℕ)) → x ≡ u → y ≡ v → z ≡ w → cond b x (cond c y z) ≡ cond b u (cond c v w)
cond_two b c x y z u v w d e f = cc

-- the parts of a list at its split point
pub record Parts (k : ℕ) (all : List (List ℕ)) : Type 0 where
  pub some : 1 ≤ k
  pub below : k < length all
  pub front : length (take k all) ≡ k
  pub back : length (drop k all) ≡ length all - k

pub parts_of : (all : List (List ℕ)) → 2 ≤ length all → Parts (split_point (length all)) all
parts_of all many =
    let k : ℕ = split_point (length all) in
    let splits : Splits (length all) k = split_point-splits (length all) many in
    record { some = splits.some; below = splits.below; front = length-take-le k all (omega (arith, splits.below)); back = length-drop k all }

-- how many levels are allowed makes no difference once there are as many as entries
path_within-levels : (leaf : List ℕ → List ℕ) (i j m : ℕ) (all : List (List ℕ)) → length all ≤ i → length all ≤ j → path_within leaf i m all ≡ path_within leaf j m all
unfolding path_within
path_within-levels leaf i j m [] hi hj = refl
path_within-levels leaf i j m (d ∷ []) hi hj = refl
path_within-levels leaf zero j m (d ∷ e ∷ rest) hi hj = absurd (omega arith)
path_within-levels leaf (suc i) zero m (d ∷ e ∷ rest) hi hj = absurd (omega arith)
path_within-levels leaf (suc i) (suc j) m (d ∷ e ∷ rest) hi hj =
    let all : List (List ℕ) = d ∷ e ∷ rest in
    let k : ℕ = split_point (length all) in
    let parts : Parts k all = parts_of all (omega arith) in
    let fi : length (take k all) ≤ i = omega (arith, parts.front, parts.below) in
    let fj : length (take k all) ≤ j = omega (arith, parts.front, parts.below) in
    let bi : length (drop k all) ≤ i = omega (arith, parts.back, parts.some) in
    let bj : length (drop k all) ≤ j = omega (arith, parts.back, parts.some) in
    cond_same _ _ _ _ _
    (push_same _ _ _ _ (path_within-levels leaf i j m (take k all) fi fj) (root_within-levels leaf i j (drop k all) bi bj))
    (push_same _ _ _ _ (path_within-levels leaf i j (m - k) (drop k all) bi bj) (root_within-levels leaf i j (take k all) fi fj))

-- the path with as many levels as entries
abbrev pub pathed : (List ℕ → List ℕ) → ℕ → List (List ℕ) → List (List ℕ)
pathed leaf m all = path_within leaf (length all) m all

pathed-node : (leaf : List ℕ → List ℕ) (m : ℕ) (all : List (List ℕ)) → 2 ≤ length all → let k = split_point (length all) in
    pathed leaf m all ≡ cond (nat_lt m k) (pathed leaf m (take k all) ++ root_of leaf (drop k all) ∷ []) (pathed leaf (m - k) (drop k all) ++ root_of leaf (take k all) ∷ [])
unfolding path_within
pathed-node leaf m [] many = absurd (omega arith)
pathed-node leaf m (d ∷ []) many = absurd (omega arith)
pathed-node leaf m (d ∷ e ∷ rest) many =
    let all : List (List ℕ) = d ∷ e ∷ rest in
    let i : ℕ = suc (length rest) in
    let k : ℕ = split_point (length all) in
    let parts : Parts k all = parts_of all (omega arith) in
    let fi : length (take k all) ≤ i = omega (arith, parts.front, parts.below) in
    let bi : length (drop k all) ≤ i = omega (arith, parts.back, parts.some) in
    cond_same _ _ _ _ _
    (push_same _ _ _ _ (path_within-levels leaf i (length (take k all)) m (take k all) fi (omega arith)) (root_within-levels leaf i (length (drop k all)) (drop k all) bi (omega arith)))
    (push_same _ _ _ _ (path_within-levels leaf i (length (drop k all)) (m - k) (drop k all) bi (omega arith)) (root_within-levels leaf i (length (take k all)) (take k all) fi (omega arith)))

pub pathed-left : (leaf : List ℕ → List ℕ) (m : ℕ) (all : List (List ℕ)) → 2 ≤ length all → m < split_point (length all)
    → pathed leaf m all ≡ pathed leaf m (take (split_point (length all)) all) ++ root_of leaf (drop (split_point (length all)) all) ∷ []
pathed-left leaf m all many low = pathed-node leaf m all many ∙ ap (λ b. cond b (pathed leaf m (take (split_point (length all)) all) ++ root_of leaf (drop (split_point (length all)) all) ∷ []) (pathed leaf (m - split_point (length all)) (drop (split_point (length all)) all) ++ root_of leaf (take (split_point (length all)) all) ∷ [])) (lt-ltb m (split_point (length all)) low)

pub pathed-right : (leaf : List ℕ → List ℕ) (m : ℕ) (all : List (List ℕ)) → 2 ≤ length all → split_point (length all) ≤ m
    → pathed leaf m all ≡ pathed leaf (m - split_point (length all)) (drop (split_point (length all)) all) ++ root_of leaf (take (split_point (length all)) all) ∷ []
pathed-right leaf m all many high = pathed-node leaf m all many ∙ ap (λ b. cond b (pathed leaf m (take (split_point (length all)) all) ++ root_of leaf (drop (split_point (length all)) all) ∷ []) (pathed leaf (m - split_point (length all)) (drop (split_point (length all)) all) ++ root_of leaf (take (split_point (length all)) all) ∷ [])) (le-ltb m (split_point (length all)) high)

pub pathed-short : (leaf : List ℕ → List ℕ) (m : ℕ) (all : List (List ℕ)) → length all < 2 → pathed leaf m all ≡ []
unfolding path_within
pathed-short leaf m [] few = refl
pathed-short leaf m (d ∷ []) few = refl
pathed-short leaf m (d ∷ e ∷ rest) few = absurd (omega arith)

-- a path's last element comes first, seen from the root
pub reverse_push : (xs : List (List ℕ)) (x : List ℕ) → reverse (xs ++ x ∷ []) ≡ x ∷ reverse xs
reverse_push xs x = reverse-append xs (x ∷ [])

pub root_down-left : (m n : ℕ) (leaf other : List ℕ) (below : List (List ℕ)) → 2 ≤ n → m < split_point n
    → root_down m n leaf (other ∷ below) ≡ option_map (λ r. node_hash r other) (root_down m (split_point n) leaf below)
unfolding root_down
root_down-left m n leaf other below many low =
    let a : nat_lt n 2 ≡ false = le-ltb n 2 many in
    let b : nat_lt m (split_point n) ≡ true = lt-ltb m (split_point n) low in
    rw (a, b) refl

pub root_down-right : (m n : ℕ) (leaf other : List ℕ) (below : List (List ℕ)) → 2 ≤ n → split_point n ≤ m
    → root_down m n leaf (other ∷ below) ≡ option_map (λ r. node_hash other r) (root_down (m - split_point n) (n - split_point n) leaf below)
unfolding root_down
root_down-right m n leaf other below many high =
    let a : nat_lt n 2 ≡ false = le-ltb n 2 many in
    let b : nat_lt m (split_point n) ≡ false = le-ltb m (split_point n) high in
    rw (a, b) refl

leads_one : (leaf : List ℕ → List ℕ) (m : ℕ) (all : List (List ℕ)) → length all < 2 → m < length all
    → root_down m (length all) (leaf (get_or all m [])) (reverse (pathed leaf m all)) ≡ Some (root_of leaf all)
unfolding root_down path_within root_within
leads_one leaf m [] few inside = absurd (omega arith)
leads_one leaf zero (d ∷ []) few inside = refl
leads_one leaf (suc m) (d ∷ []) few inside = absurd (omega arith)
leads_one leaf m (d ∷ e ∷ rest) few inside = absurd (omega arith)

some_same : (x y : List ℕ) → x ≡ y → Some x ≡ Some y
some_same x y e = ap Some e

pub leads_up : (levels : ℕ) (leaf : List ℕ → List ℕ) (m : ℕ) (all : List (List ℕ)) → length all ≤ levels → m < length all
    → root_down m (length all) (leaf (get_or all m [])) (reverse (pathed leaf m all)) ≡ Some (root_of leaf all)
leads_up zero leaf m all few inside = absurd (omega arith)
leads_up (suc levels) leaf m all few inside = elim (cases_lt (length all) 2) [
  | inl short ↦ leads_one leaf m all short inside
  | inr many ↦
      let n : ℕ = length all in
      let k : ℕ = split_point n in
      let front : List (List ℕ) = take k all in
      let back : List (List ℕ) = drop k all in
      let parts : Parts k all = parts_of all many in
      elim (cases_lt m k) [
        | inl low ↦
            let turned : reverse (pathed leaf m all) ≡ root_of leaf back ∷ reverse (pathed leaf m front) = ap reverse (pathed-left leaf m all many low) ∙ reverse_push (pathed leaf m front) (root_of leaf back) in
            let inner : root_down m (length front) (leaf (get_or front m [])) (reverse (pathed leaf m front)) ≡ Some (root_of leaf front) =
            leads_up levels leaf m front (omega (arith, parts.front, parts.below)) (omega (arith, parts.front)) in
            let here : root_down m k (leaf (get_or all m [])) (reverse (pathed leaf m front)) ≡ Some (root_of leaf front) =
            ap (λ i. root_down m i (leaf (get_or all m [])) (reverse (pathed leaf m front))) (sym parts.front)
            ∙ ap (λ e. root_down m (length front) (leaf e) (reverse (pathed leaf m front))) (sym (get_or-take k all m [] low)) ∙ inner in
            ap (root_down m n (leaf (get_or all m []))) turned
            ∙ root_down-left m n _ (root_of leaf back) _ many low
            ∙ ap (option_map (λ r. node_hash r (root_of leaf back))) here
            ∙ ap Some (sym (root_of-node leaf all many))
        | inr high ↦
            let turned : reverse (pathed leaf m all) ≡ root_of leaf front ∷ reverse (pathed leaf (m - k) back) = ap reverse (pathed-right leaf m all many high) ∙ reverse_push (pathed leaf (m - k) back) (root_of leaf front) in
            let inner : root_down (m - k) (length back) (leaf (get_or back (m - k) [])) (reverse (pathed leaf (m - k) back)) ≡ Some (root_of leaf back) =
            leads_up levels leaf (m - k) back (omega (arith, parts.back, parts.some)) (omega (arith, parts.back)) in
            let place : k + (m - k) ≡ m = omega arith in
            let at : get_or all m [] ≡ get_or back (m - k) [] = ap (λ i. get_or all i []) (sym place) ∙ sym (get_or-drop k all (m - k) []) in
            let here : root_down (m - k) (n - k) (leaf (get_or all m [])) (reverse (pathed leaf (m - k) back)) ≡ Some (root_of leaf back) =
            ap (λ i. root_down (m - k) i (leaf (get_or all m [])) (reverse (pathed leaf (m - k) back))) (sym parts.back)
            ∙ ap (λ e. root_down (m - k) (length back) (leaf e) (reverse (pathed leaf (m - k) back))) at ∙ inner in
            ap (root_down m n (leaf (get_or all m []))) turned
            ∙ root_down-right m n _ (root_of leaf front) _ many high
            ∙ ap (option_map (λ r. node_hash (root_of leaf front) r)) here
            ∙ ap Some (sym (root_of-node leaf all many))
      ]
]

-- the path over entries is that over their leaf hashes
path_within-map : (leaf : List ℕ → List ℕ) (levels m : ℕ) (all : List (List ℕ)) → path_within leaf levels m all ≡ path_within (λ h. h) levels m (map leaf all)
unfolding path_within
path_within-map leaf levels m [] = refl
path_within-map leaf levels m (d ∷ []) = refl
path_within-map leaf zero m (d ∷ e ∷ rest) = refl
path_within-map leaf (suc levels) m (d ∷ e ∷ rest) =
    let all : List (List ℕ) = d ∷ e ∷ rest in
    let k : ℕ = split_point (length all) in
    rw (length-map rest leaf, take-map leaf k all, drop-map leaf k all)
    (cond_same _ _ _ _ _
    (push_same _ _ _ _ (path_within-map leaf levels m (take k all)) (root_within-map leaf levels (drop k all)))
    (push_same _ _ _ _ (path_within-map leaf levels (m - k) (drop k all)) (root_within-map leaf levels (take k all))))

pub path_of-map : (m : ℕ) (entries : List (List ℕ)) → path_of m entries ≡ tree_path m (map leaf_hash entries)
unfolding path_of tree_path
path_of-map m entries = rw (length-map entries leaf_hash) (path_within-map leaf_hash (length entries) m entries)

-- what is a path of the leaves is one of the entries that have these hashes
pub path_of_entries : (m : ℕ) (path leaves entries : List (List ℕ)) → path ≡ tree_path m leaves → map leaf_hash entries ≡ leaves → path ≡ path_of m entries
path_of_entries m path leaves entries is are = is ∙ ap (tree_path m) (sym are) ∙ sym (path_of-map m entries)

-- the same three steps of a consistency proof
sub_within-levels : (leaf : List ℕ → List ℕ) (i j m : ℕ) (whole : Bool) (all : List (List ℕ)) → length all ≤ i → length all ≤ j → sub_within leaf i m whole all ≡ sub_within leaf j m whole all
unfolding sub_within
sub_within-levels leaf i j m whole [] hi hj = refl
sub_within-levels leaf i j m whole (d ∷ []) hi hj = refl
sub_within-levels leaf zero j m whole (d ∷ e ∷ rest) hi hj = absurd (omega arith)
sub_within-levels leaf (suc i) zero m whole (d ∷ e ∷ rest) hi hj = absurd (omega arith)
sub_within-levels leaf (suc i) (suc j) m whole (d ∷ e ∷ rest) hi hj =
    let all : List (List ℕ) = d ∷ e ∷ rest in
    let k : ℕ = split_point (length all) in
    let parts : Parts k all = parts_of all (omega arith) in
    let fi : length (take k all) ≤ i = omega (arith, parts.front, parts.below) in
    let fj : length (take k all) ≤ j = omega (arith, parts.front, parts.below) in
    let bi : length (drop k all) ≤ i = omega (arith, parts.back, parts.some) in
    let bj : length (drop k all) ≤ j = omega (arith, parts.back, parts.some) in
    cond_two (eqb m (length all)) (nat_le m k) (unless_whole whole (root_within leaf (length all) all)) _ _ (unless_whole whole (root_within leaf (length all) all)) _ _ refl
    (push_same _ _ _ _ (sub_within-levels leaf i j m whole (take k all) fi fj) (root_within-levels leaf i j (drop k all) bi bj))
    (push_same _ _ _ _ (sub_within-levels leaf i j (m - k) false (drop k all) bi bj) (root_within-levels leaf i j (take k all) fi fj))

abbrev pub subbed : (List ℕ → List ℕ) → ℕ → Bool → List (List ℕ) → List (List ℕ)
subbed leaf m whole all = sub_within leaf (length all) m whole all

-- where the old tree is all
pub subbed-whole : (leaf : List ℕ → List ℕ) (m : ℕ) (whole : Bool) (all : List (List ℕ)) → 0 < m → m ≡ length all → subbed leaf m whole all ≡ unless_whole whole (root_of leaf all)
unfolding sub_within root_within
subbed-whole leaf m whole [] some is = absurd (omega arith)
subbed-whole leaf m whole (d ∷ []) some is = refl
subbed-whole leaf m whole (d ∷ e ∷ rest) some is = let same : eqb m (suc (suc (length rest))) ≡ true = eq-eqb m (suc (suc (length rest))) is in rw same refl

subbed-node : (leaf : List ℕ → List ℕ) (m : ℕ) (whole : Bool) (all : List (List ℕ)) → 2 ≤ length all → m < length all → let k = split_point (length all) in
    subbed leaf m whole all ≡ cond (nat_le m k) (subbed leaf m whole (take k all) ++ root_of leaf (drop k all) ∷ []) (subbed leaf (m - k) false (drop k all) ++ root_of leaf (take k all) ∷ [])
unfolding sub_within
subbed-node leaf m whole [] many less = absurd (omega arith)
subbed-node leaf m whole (d ∷ []) many less = absurd (omega arith)
subbed-node leaf m whole (d ∷ e ∷ rest) many less =
    let all : List (List ℕ) = d ∷ e ∷ rest in
    let i : ℕ = suc (length rest) in
    let k : ℕ = split_point (length all) in
    let parts : Parts k all = parts_of all (omega arith) in
    let fi : length (take k all) ≤ i = omega (arith, parts.front, parts.below) in
    let bi : length (drop k all) ≤ i = omega (arith, parts.back, parts.some) in
    let ne : eqb m (suc (suc (length rest))) ≡ false = ne_eqb m (suc (suc (length rest))) (λ e. omega arith) in
    rw ne
    (cond_same _ _ _ _ _
    (push_same _ _ _ _ (sub_within-levels leaf i (length (take k all)) m whole (take k all) fi (omega arith)) (root_within-levels leaf i (length (drop k all)) (drop k all) bi (omega arith)))
    (push_same _ _ _ _ (sub_within-levels leaf i (length (drop k all)) (m - k) false (drop k all) bi (omega arith)) (root_within-levels leaf i (length (take k all)) (take k all) fi (omega arith))))

pub subbed-left : (leaf : List ℕ → List ℕ) (m : ℕ) (whole : Bool) (all : List (List ℕ)) → 2 ≤ length all → m < length all → m ≤ split_point (length all)
    → subbed leaf m whole all ≡ subbed leaf m whole (take (split_point (length all)) all) ++ root_of leaf (drop (split_point (length all)) all) ∷ []
subbed-left leaf m whole all many less low = subbed-node leaf m whole all many less ∙ ap (λ b. cond b (subbed leaf m whole (take (split_point (length all)) all) ++ root_of leaf (drop (split_point (length all)) all) ∷ []) (subbed leaf (m - split_point (length all)) false (drop (split_point (length all)) all) ++ root_of leaf (take (split_point (length all)) all) ∷ [])) (le-leb m (split_point (length all)) low)

pub subbed-right : (leaf : List ℕ → List ℕ) (m : ℕ) (whole : Bool) (all : List (List ℕ)) → 2 ≤ length all → m < length all → split_point (length all) < m
    → subbed leaf m whole all ≡ subbed leaf (m - split_point (length all)) false (drop (split_point (length all)) all) ++ root_of leaf (take (split_point (length all)) all) ∷ []
subbed-right leaf m whole all many less high = subbed-node leaf m whole all many less ∙ ap (λ b. cond b (subbed leaf m whole (take (split_point (length all)) all) ++ root_of leaf (drop (split_point (length all)) all) ∷ []) (subbed leaf (m - split_point (length all)) false (drop (split_point (length all)) all) ++ root_of leaf (take (split_point (length all)) all) ∷ [])) (lt-leb m (split_point (length all)) high)

pub roots_down-whole : (m n : ℕ) (whole : Bool) (old : List ℕ) (siblings : List (List ℕ)) → m ≡ n → roots_down m n whole old siblings ≡ at_one_tree whole old siblings
unfolding roots_down
roots_down-whole m n whole old [] one = let same : eqb m n ≡ true = eq-eqb m n one in rw same refl
roots_down-whole m n whole old (other ∷ below) one = let same : eqb m n ≡ true = eq-eqb m n one in rw same refl

pub roots_down-left : (m n : ℕ) (whole : Bool) (old other : List ℕ) (below : List (List ℕ)) → m < n → m ≤ split_point n
    → roots_down m n whole old (other ∷ below) ≡ option_map (λ r. (r.0, node_hash r.1 other)) (roots_down m (split_point n) whole old below)
unfolding roots_down
roots_down-left m n whole old other below less low =
    let ne : eqb m n ≡ false = ne_eqb m n (λ e. omega arith) in
    let le : nat_le m (split_point n) ≡ true = le-leb m (split_point n) low in
    rw (ne, le) refl

pub roots_down-right : (m n : ℕ) (whole : Bool) (old other : List ℕ) (below : List (List ℕ)) → m < n → split_point n < m
    → roots_down m n whole old (other ∷ below) ≡ option_map (λ r. (node_hash other r.0, node_hash other r.1)) (roots_down (m - split_point n) (n - split_point n) false old below)
unfolding roots_down
roots_down-right m n whole old other below less high =
    let ne : eqb m n ≡ false = ne_eqb m n (λ e. omega arith) in
    let gt : nat_le m (split_point n) ≡ false = lt-leb m (split_point n) high in
    rw (ne, gt) refl

two_roots : (a b c d : List ℕ) → a ≡ c → b ≡ d → ◌≡◌ {A = Option (List ℕ × List ℕ)} (Some (a, b)) (Some (c, d))
two_roots a b c d e f =
    let first : ◌≡◌ {A = List ℕ × List ℕ} (a, b) (c, b) = ap (λ x. (x, b)) e in
    let second : ◌≡◌ {A = List ℕ × List ℕ} (c, b) (c, d) = ap (λ y. (c, y)) f in
    ap Some (first ∙ second)

joins_whole : (leaf : List ℕ → List ℕ) (whole : Bool) (old : List ℕ) (front all : List (List ℕ)) → front ≡ all → (whole ≡ true → old ≡ root_of leaf front)
    → at_one_tree whole old (reverse (unless_whole whole (root_of leaf all))) ≡ Some (root_of leaf front, root_of leaf all)
joins_whole leaf true old front all is known = two_roots _ _ _ _ (known refl) (known refl ∙ ap (root_of leaf) is)
joins_whole leaf false old front all is known = two_roots _ _ _ _ (ap (root_of leaf) (sym is)) refl

-- the root of a longer front, by its parts
front_root : (leaf : List ℕ → List ℕ) (m n : ℕ) (all : List (List ℕ)) → length all ≡ n → 2 ≤ n → split_point n < m → m ≤ n
    → root_of leaf (take m all) ≡ node_hash (root_of leaf (take (split_point n) all)) (root_of leaf (take (m - split_point n) (drop (split_point n) all)))
front_root leaf m n all len many high within =
    let k : ℕ = split_point n in
    let len_m : length (take m all) ≡ m = length-take-le m all (omega arith) in
    let splits : Splits n k = split_point-splits n many in
    let point : split_point (length (take m all)) ≡ k = ap split_point len_m ∙ split_point-same m n many high within in
    let is : k + (m - k) ≡ m = omega arith in
    let front : take (split_point (length (take m all))) (take m all) ≡ take k all = ap (λ i. take i (take m all)) point ∙ take-take k m all (omega arith) in
    let back : drop (split_point (length (take m all))) (take m all) ≡ take (m - k) (drop k all) =
    ap (λ i. drop i (take m all)) point ∙ ap (λ i. drop k (take i all)) (sym is) ∙ drop-take k (m - k) all in
    root_of-node leaf (take m all) (omega (arith, len_m, splits.some)) ∙ node_of _ _ _ _ (ap (root_of leaf) front) (ap (root_of leaf) back)

pub joins_up : (levels : ℕ) (leaf : List ℕ → List ℕ) (m : ℕ) (whole : Bool) (old : List ℕ) (all : List (List ℕ)) → length all ≤ levels → 0 < m → m ≤ length all → (whole ≡ true → old ≡ root_of leaf (take m all))
    → roots_down m (length all) whole old (reverse (subbed leaf m whole all)) ≡ Some (root_of leaf (take m all), root_of leaf all)
joins_up zero leaf m whole old all few some within known = absurd (omega arith)
joins_up (suc levels) leaf m whole old all few some within known = elim (cases_lt m (length all)) [
  | inr same ↦
      let one : m ≡ length all = omega arith in
      ap (λ s. roots_down m (length all) whole old (reverse s)) (subbed-whole leaf m whole all some one)
      ∙ roots_down-whole m (length all) whole old _ one
      ∙ joins_whole leaf whole old (take m all) all (take_all m all (omega arith)) known
  | inl less ↦
      let n : ℕ = length all in
      let many : 2 ≤ n = omega arith in
      let k : ℕ = split_point n in
      let front : List (List ℕ) = take k all in
      let back : List (List ℕ) = drop k all in
      let parts : Parts k all = parts_of all many in
      elim (cases_lt k m) [
        | inr low ↦
            let turned : reverse (subbed leaf m whole all) ≡ root_of leaf back ∷ reverse (subbed leaf m whole front) = ap reverse (subbed-left leaf m whole all many less low) ∙ reverse_push (subbed leaf m whole front) (root_of leaf back) in
            let fronts : take m front ≡ take m all = take-take m k all low in
            let inner : roots_down m (length front) whole old (reverse (subbed leaf m whole front)) ≡ Some (root_of leaf (take m front), root_of leaf front) =
            joins_up levels leaf m whole old front (omega (arith, parts.front, parts.below)) some (omega (arith, parts.front)) (λ w. known w ∙ ap (root_of leaf) (sym fronts)) in
            let here : roots_down m k whole old (reverse (subbed leaf m whole front)) ≡ Some (root_of leaf (take m front), root_of leaf front) =
            ap (λ i. roots_down m i whole old (reverse (subbed leaf m whole front))) (sym parts.front) ∙ inner in
            ap (roots_down m n whole old) turned
            ∙ roots_down-left m n whole old (root_of leaf back) _ less low
            ∙ ap (option_map (λ (r : List ℕ × List ℕ). (r.0, node_hash r.1 (root_of leaf back)))) here
            ∙ two_roots _ _ _ _ (ap (root_of leaf) fronts) (sym (root_of-node leaf all many))
        | inl high ↦
            let turned : reverse (subbed leaf m whole all) ≡ root_of leaf front ∷ reverse (subbed leaf (m - k) false back) = ap reverse (subbed-right leaf m whole all many less high) ∙ reverse_push (subbed leaf (m - k) false back) (root_of leaf front) in
            let inner : roots_down (m - k) (length back) false old (reverse (subbed leaf (m - k) false back)) ≡ Some (root_of leaf (take (m - k) back), root_of leaf back) =
            joins_up levels leaf (m - k) false old back (omega (arith, parts.back, parts.some)) (omega arith) (omega (arith, parts.back)) (λ w. absurd (false≢true w)) in
            let here : roots_down (m - k) (n - k) false old (reverse (subbed leaf (m - k) false back)) ≡ Some (root_of leaf (take (m - k) back), root_of leaf back) =
            ap (λ i. roots_down (m - k) i false old (reverse (subbed leaf (m - k) false back))) (sym parts.back) ∙ inner in
            ap (roots_down m n whole old) turned
            ∙ roots_down-right m n whole old (root_of leaf front) _ less high
            ∙ ap (option_map (λ (r : List ℕ × List ℕ). (node_hash (root_of leaf front) r.0, node_hash (root_of leaf front) r.1))) here
            ∙ two_roots _ _ _ _ (sym (front_root leaf m n all refl many high within)) (sym (root_of-node leaf all many))
      ]
]

sub_within-map : (leaf : List ℕ → List ℕ) (levels m : ℕ) (whole : Bool) (all : List (List ℕ)) → sub_within leaf levels m whole all ≡ sub_within (λ h. h) levels m whole (map leaf all)
unfolding sub_within
sub_within-map leaf levels m whole [] = refl
sub_within-map leaf levels m whole (d ∷ []) = refl
sub_within-map leaf zero m whole (d ∷ e ∷ rest) = refl
sub_within-map leaf (suc levels) m whole (d ∷ e ∷ rest) =
    let all : List (List ℕ) = d ∷ e ∷ rest in
    let k : ℕ = split_point (length all) in
    rw (length-map rest leaf, take-map leaf k all, drop-map leaf k all)
    (cond_two (eqb m (length all)) (nat_le m k) (unless_whole whole (root_within leaf (length all) all)) _ _ (unless_whole whole (root_within (λ h. h) (length all) (map leaf all))) _ _
    (ap (unless_whole whole) (root_within-map leaf (length all) all))
    (push_same _ _ _ _ (sub_within-map leaf levels m whole (take k all)) (root_within-map leaf levels (drop k all)))
    (push_same _ _ _ _ (sub_within-map leaf levels (m - k) false (drop k all)) (root_within-map leaf levels (take k all))))

pub proof_of-map : (m : ℕ) (entries : List (List ℕ)) → proof_of m entries ≡ tree_proof m (map leaf_hash entries)
unfolding sub_of tree_sub
proof_of-map m entries = rw (length-map entries leaf_hash) (sub_within-map leaf_hash (length entries) m true entries)

pub proof_of_entries : (m : ℕ) (path leaves entries : List (List ℕ)) → path ≡ tree_proof m leaves → map leaf_hash entries ≡ leaves → path ≡ proof_of m entries
proof_of_entries m path leaves entries is are = is ∙ ap (tree_proof m) (sym are) ∙ sym (proof_of-map m entries)

-- from a path as it is written
pub from_path : (leaf : List ℕ → List ℕ) (m : ℕ) (entry : List ℕ) (all : List (List ℕ)) → slice_get all m ≡ Some entry → root_from m (length all) (leaf entry) (pathed leaf m all) ≡ Some (root_of leaf all)
from_path leaf m entry all at =
    let inside : m < length all = slice_get_within all m entry at in
    let is : get_or all m [] ≡ entry = get_or_from_slice_get all m entry [] at in
    let test : nat_lt m (length all) ≡ true = lt-ltb m (length all) inside in
    ap (λ b. cond b (root_down m (length all) (leaf entry) (reverse (pathed leaf m all))) None) test
    ∙ ap (λ e. root_down m (length all) (leaf e) (reverse (pathed leaf m all))) (sym is)
    ∙ leads_up (length all) leaf m all (omega arith) inside

pub from_proof : (leaf : List ℕ → List ℕ) (m : ℕ) (all : List (List ℕ)) → 0 < m → m ≤ length all
    → roots_from m (length all) (root_of leaf (take m all)) (subbed leaf m true all) ≡ Some (root_of leaf (take m all), root_of leaf all)
from_proof leaf m all some within =
    let test : (nat_lt 0 m && nat_le m (length all)) ≡ true = and_from _ _ (lt-ltb 0 m some) (le-leb m (length all) within) in
    ap (λ b. cond b (roots_down m (length all) true (root_of leaf (take m all)) (reverse (subbed leaf m true all))) None) test
    ∙ joins_up (length all) leaf m true (root_of leaf (take m all)) all (omega arith) some within (λ w. refl)

pub path_of-leads : (m : ℕ) (entry : List ℕ) (entries : List (List ℕ)) → slice_get entries m ≡ Some entry → root_from m (length entries) (leaf_hash entry) (path_of m entries) ≡ Some (mth entries)
unfolding path_of mth
path_of-leads m entry entries at = from_path leaf_hash m entry entries at

pub tree_path-leads : (m : ℕ) (leaf : List ℕ) (leaves : List (List ℕ)) → slice_get leaves m ≡ Some leaf → root_from m (length leaves) leaf (tree_path m leaves) ≡ Some (tree_root leaves)
unfolding tree_path tree_root
tree_path-leads m leaf leaves at = from_path (λ h. h) m leaf leaves at

pub proof_of-joins : (m : ℕ) (entries : List (List ℕ)) → 0 < m → m ≤ length entries → roots_from m (length entries) (mth (take m entries)) (proof_of m entries) ≡ Some (mth (take m entries), mth entries)
unfolding sub_of mth
proof_of-joins m entries some within = from_proof leaf_hash m entries some within

pub tree_proof-joins : (m : ℕ) (leaves : List (List ℕ)) → 0 < m → m ≤ length leaves → roots_from m (length leaves) (tree_root (take m leaves)) (tree_proof m leaves) ≡ Some (tree_root (take m leaves), tree_root leaves)
unfolding tree_sub tree_root
tree_proof-joins m leaves some within = from_proof (λ h. h) m leaves some within

pub path_of-one : (m : ℕ) (entry : List ℕ) → path_of m (entry ∷ []) ≡ []
unfolding path_of path_within
path_of-one m entry = refl

pub path_of-left : (m : ℕ) (entries : List (List ℕ)) → 2 ≤ length entries → m < split_point (length entries)
    → path_of m entries ≡ path_of m (take (split_point (length entries)) entries) ++ mth (drop (split_point (length entries)) entries) ∷ []
unfolding path_of mth
path_of-left m entries many low = pathed-left leaf_hash m entries many low

pub path_of-right : (m : ℕ) (entries : List (List ℕ)) → 2 ≤ length entries → split_point (length entries) ≤ m
    → path_of m entries ≡ path_of (m - split_point (length entries)) (drop (split_point (length entries)) entries) ++ mth (take (split_point (length entries)) entries) ∷ []
unfolding path_of mth
path_of-right m entries many high = pathed-right leaf_hash m entries many high

-- what the code that writes a path adds
pub tree_path-short : (m : ℕ) (leaves path : List (List ℕ)) → length leaves < 2 → path ≡ path ++ tree_path m leaves
unfolding tree_path
tree_path-short m leaves path few = sym (append-nil path) ∙ ap (λ more. path ++ more) (sym (pathed-short (λ h. h) m leaves few))

pub tree_path-left : (m : ℕ) (leaves : List (List ℕ)) → 2 ≤ length leaves → m < split_point (length leaves)
    → tree_path m leaves ≡ tree_path m (take (split_point (length leaves)) leaves) ++ tree_root (drop (split_point (length leaves)) leaves) ∷ []
unfolding tree_path tree_root
tree_path-left m leaves many low = pathed-left (λ h. h) m leaves many low

pub tree_path-right : (m : ℕ) (leaves : List (List ℕ)) → 2 ≤ length leaves → split_point (length leaves) ≤ m
    → tree_path m leaves ≡ tree_path (m - split_point (length leaves)) (drop (split_point (length leaves)) leaves) ++ tree_root (take (split_point (length leaves)) leaves) ∷ []
unfolding tree_path tree_root
tree_path-right m leaves many high = pathed-right (λ h. h) m leaves many high

pub tree_sub-whole : (m : ℕ) (whole : Bool) (leaves : List (List ℕ)) → 0 < m → m ≡ length leaves → tree_sub m whole leaves ≡ unless_whole whole (tree_root leaves)
unfolding tree_sub tree_root
tree_sub-whole m whole leaves some is = subbed-whole (λ h. h) m whole leaves some is

pub tree_sub-left : (m : ℕ) (whole : Bool) (leaves : List (List ℕ)) → 2 ≤ length leaves → m < length leaves → m ≤ split_point (length leaves)
    → tree_sub m whole leaves ≡ tree_sub m whole (take (split_point (length leaves)) leaves) ++ tree_root (drop (split_point (length leaves)) leaves) ∷ []
unfolding tree_sub tree_root
tree_sub-left m whole leaves many less low = subbed-left (λ h. h) m whole leaves many less low

pub tree_sub-right : (m : ℕ) (whole : Bool) (leaves : List (List ℕ)) → 2 ≤ length leaves → m < length leaves → split_point (length leaves) < m
    → tree_sub m whole leaves ≡ tree_sub (m - split_point (length leaves)) false (drop (split_point (length leaves)) leaves) ++ tree_root (take (split_point (length leaves)) leaves) ∷ []
unfolding tree_sub tree_root
tree_sub-right m whole leaves many less high = subbed-right (λ h. h) m whole leaves many less high

-- the standard's three equations
pub sub_of-whole : (m : ℕ) (whole : Bool) (entries : List (List ℕ)) → 0 < m → m ≡ length entries → sub_of m whole entries ≡ unless_whole whole (mth entries)
unfolding sub_of mth
sub_of-whole m whole entries some is = subbed-whole leaf_hash m whole entries some is

pub sub_of-left : (m : ℕ) (whole : Bool) (entries : List (List ℕ)) → 2 ≤ length entries → m < length entries → m ≤ split_point (length entries)
    → sub_of m whole entries ≡ sub_of m whole (take (split_point (length entries)) entries) ++ mth (drop (split_point (length entries)) entries) ∷ []
unfolding sub_of mth
sub_of-left m whole entries many less low = subbed-left leaf_hash m whole entries many less low

pub sub_of-right : (m : ℕ) (whole : Bool) (entries : List (List ℕ)) → 2 ≤ length entries → m < length entries → split_point (length entries) < m
    → sub_of m whole entries ≡ sub_of (m - split_point (length entries)) false (drop (split_point (length entries)) entries) ++ mth (take (split_point (length entries)) entries) ∷ []
unfolding sub_of mth
sub_of-right m whole entries many less high = subbed-right leaf_hash m whole entries many less high
