-- The steps of the code that goes down a path.
use Rattle.std.proofs.Common.{◌≡◌, ℕ, ◌-◌, ◌≤◌, ◌<◌, Bool, true, false, List, [], ◌∷◌, ◌++◌, length, take, drop, reverse, append_assoc, refl, sym, arith, ◌∙◌, ap, subst, eqb, nat_lt}
use Rattle.std.specs.Bool.{then_some}
use Rattle.std.specs.Prelude.{Option, Some, None, option_map, if◌then◌else◌}
use Rattle.std.proofs.lemmas.Bool.{ne_eqb, lt-ltb}
use Rattle.std.proofs.lemmas.List.{append-nil, nil_from_length}
use Rattle.merkle_tree.specs.Mth.{node_hash, split_point, tree_root}
use Rattle.merkle_tree.specs.Paths.{root_down, tree_path}
use Rattle.merkle_tree.specs.Consistency.{roots_down, tree_sub, unless_whole}
use Rattle.merkle_tree.proofs.Leading.{tree_path-left, tree_path-right, tree_sub-whole, tree_sub-left, tree_sub-right, reverse_push, root_down-left, root_down-right, roots_down-left, roots_down-right, roots_down-whole}

turned : (path below : List (List ℕ)) (other : List ℕ) → path ≡ below ++ other ∷ [] → reverse path ≡ other ∷ reverse below
turned path below other is = ap reverse is ∙ reverse_push below other

one_leaf : (b : Bool) (leaf : List ℕ) → then_some b leaf ≡ (if b then Some leaf else None)
one_leaf true leaf = refl
one_leaf false leaf = refl

pub down_none : (m n : ℕ) (leaf : List ℕ) (path : List (List ℕ)) (answer : Option (List ℕ)) → length path ≡ 0 → answer ≡ then_some (eqb n 1) leaf → answer ≡ root_down m n leaf (reverse path)
unfolding root_down
down_none m n leaf path answer none is = is ∙ one_leaf (eqb n 1) leaf ∙ ap (λ p. root_down m n leaf (reverse p)) (sym (nil_from_length path none))

pub down_few : (m n : ℕ) (leaf other : List ℕ) (path below : List (List ℕ)) → path ≡ below ++ other ∷ [] → n < 2 → None ≡ root_down m n leaf (reverse path)
unfolding root_down
down_few m n leaf other path below is few = let test : nat_lt n 2 ≡ true = lt-ltb n 2 few in rw (turned path below other is) (rw test refl)

pub down_left : (m n k : ℕ) (leaf other : List ℕ) (path below : List (List ℕ)) (inner answer : Option (List ℕ)) → path ≡ below ++ other ∷ [] → 2 ≤ n → k ≡ split_point n → m < k
    → inner ≡ root_down m k leaf (reverse below) → answer ≡ option_map (λ r. node_hash r other) inner → answer ≡ root_down m n leaf (reverse path)
down_left m n k leaf other path below inner answer is many point low e f =
    f ∙ ap (option_map (λ r. node_hash r other)) (e ∙ ap (λ k. root_down m k leaf (reverse below)) point)
    ∙ sym (root_down-left m n leaf other (reverse below) many (subst (λ k. m < k) point low))
    ∙ ap (root_down m n leaf) (sym (turned path below other is))

pub down_right : (m n k : ℕ) (leaf other : List ℕ) (path below : List (List ℕ)) (inner answer : Option (List ℕ)) → path ≡ below ++ other ∷ [] → 2 ≤ n → k ≡ split_point n → k ≤ m
    → inner ≡ root_down (m - k) (n - k) leaf (reverse below) → answer ≡ option_map (λ r. node_hash other r) inner → answer ≡ root_down m n leaf (reverse path)
down_right m n k leaf other path below inner answer is many point high e f =
    f ∙ ap (option_map (λ r. node_hash other r)) (e ∙ ap (λ k. root_down (m - k) (n - k) leaf (reverse below)) point)
    ∙ sym (root_down-right m n leaf other (reverse below) many (subst (λ k. k ≤ m) point high))
    ∙ ap (root_down m n leaf) (sym (turned path below other is))

pub both_none : (m n : ℕ) (whole : Bool) (old : List ℕ) (path : List (List ℕ)) → length path ≡ 0 → m < n → None ≡ roots_down m n whole old (reverse path)
unfolding roots_down
both_none m n whole old path none less =
    let ne : eqb m n ≡ false = ne_eqb m n (λ e. omega arith) in
    let bare : None ≡ roots_down m n whole old [] = rw ne refl in
    bare ∙ ap (λ p. roots_down m n whole old (reverse p)) (sym (nil_from_length path none))

pub both_left : (m n k : ℕ) (whole : Bool) (old other : List ℕ) (path below : List (List ℕ)) (inner answer : Option (List ℕ × List ℕ)) → path ≡ below ++ other ∷ [] → m < n → k ≡ split_point n → m ≤ k
    → inner ≡ roots_down m k whole old (reverse below) → answer ≡ option_map (λ r. (r.0, node_hash r.1 other)) inner → answer ≡ roots_down m n whole old (reverse path)
both_left m n k whole old other path below inner answer is less point low e f =
    f ∙ ap (option_map (λ (r : List ℕ × List ℕ). (r.0, node_hash r.1 other))) (e ∙ ap (λ k. roots_down m k whole old (reverse below)) point)
    ∙ sym (roots_down-left m n whole old other (reverse below) less (subst (λ k. m ≤ k) point low))
    ∙ ap (roots_down m n whole old) (sym (turned path below other is))

pub both_right : (m n k : ℕ) (whole : Bool) (old other : List ℕ) (path below : List (List ℕ)) (inner answer : Option (List ℕ × List ℕ)) → path ≡ below ++ other ∷ [] → m < n → k ≡ split_point n → k < m
    → inner ≡ roots_down (m - k) (n - k) false old (reverse below) → answer ≡ option_map (λ r. (node_hash other r.0, node_hash other r.1)) inner → answer ≡ roots_down m n whole old (reverse path)
both_right m n k whole old other path below inner answer is less point high e f =
    f ∙ ap (option_map (λ (r : List ℕ × List ℕ). (node_hash other r.0, node_hash other r.1))) (e ∙ ap (λ k. roots_down (m - k) (n - k) false old (reverse below)) point)
    ∙ sym (roots_down-right m n whole old other (reverse below) less (subst (λ k. k < m) point high))
    ∙ ap (roots_down m n whole old) (sym (turned path below other is))

pub both_whole : (m n : ℕ) (whole : Bool) (old : List ℕ) (path : List (List ℕ)) (answer : Option (List ℕ × List ℕ)) → m ≡ n → answer ≡ Rattle.merkle_tree.specs.Consistency.at_one_tree whole old (reverse path) → answer ≡ roots_down m n whole old (reverse path)
both_whole m n whole old path answer one e = e ∙ sym (roots_down-whole m n whole old (reverse path) one)

-- the steps of the code that writes a path or a proof
pub put_left : (m k : ℕ) (leaves front back old mid new : List (List ℕ)) (root : List ℕ) → 2 ≤ length leaves → k ≡ split_point (length leaves) → m < k
    → front ≡ take k leaves → back ≡ drop k leaves → root ≡ tree_root back → mid ≡ old ++ tree_path m front → new ≡ mid ++ root ∷ [] → new ≡ old ++ tree_path m leaves
put_left m k leaves front back old mid new root many point low f b r e g =
    let fronts : front ≡ take (split_point (length leaves)) leaves = f ∙ ap (λ k. take k leaves) point in
    let backs : back ≡ drop (split_point (length leaves)) leaves = b ∙ ap (λ k. drop k leaves) point in
    g ∙ ap (λ mid. mid ++ root ∷ []) e ∙ append_assoc old (tree_path m front) (root ∷ [])
    ∙ ap (λ front. old ++ (tree_path m front ++ root ∷ [])) fronts
    ∙ ap (λ root. old ++ (tree_path m (take (split_point (length leaves)) leaves) ++ root ∷ [])) (r ∙ ap tree_root backs)
    ∙ ap (λ path. old ++ path) (sym (tree_path-left m leaves many (subst (λ k. m < k) point low)))

pub put_right : (m k : ℕ) (leaves front back old mid new : List (List ℕ)) (root : List ℕ) → 2 ≤ length leaves → k ≡ split_point (length leaves) → k ≤ m
    → front ≡ take k leaves → back ≡ drop k leaves → root ≡ tree_root front → mid ≡ old ++ tree_path (m - k) back → new ≡ mid ++ root ∷ [] → new ≡ old ++ tree_path m leaves
put_right m k leaves front back old mid new root many point high f b r e g =
    let fronts : front ≡ take (split_point (length leaves)) leaves = f ∙ ap (λ k. take k leaves) point in
    let backs : back ≡ drop (split_point (length leaves)) leaves = b ∙ ap (λ k. drop k leaves) point in
    g ∙ ap (λ mid. mid ++ root ∷ []) e ∙ append_assoc old (tree_path (m - k) back) (root ∷ [])
    ∙ ap (λ back. old ++ (tree_path (m - k) back ++ root ∷ [])) backs
    ∙ ap (λ k. old ++ (tree_path (m - k) (drop (split_point (length leaves)) leaves) ++ root ∷ [])) point
    ∙ ap (λ root. old ++ (tree_path (m - split_point (length leaves)) (drop (split_point (length leaves)) leaves) ++ root ∷ [])) (r ∙ ap tree_root fronts)
    ∙ ap (λ path. old ++ path) (sym (tree_path-right m leaves many (subst (λ k. k ≤ m) point high)))

pub put_whole : (m : ℕ) (whole : Bool) (leaves old : List (List ℕ)) → 0 < m → m ≡ length leaves → whole ≡ true → old ≡ old ++ tree_sub m whole leaves
put_whole m whole leaves old some is test =
    sym (append-nil old) ∙ ap (λ more. old ++ more) (sym (tree_sub-whole m whole leaves some is ∙ ap (λ b. unless_whole b (tree_root leaves)) test))

pub put_part : (m : ℕ) (whole : Bool) (leaves old new : List (List ℕ)) (root : List ℕ) → 0 < m → m ≡ length leaves → whole ≡ false → root ≡ tree_root leaves → new ≡ old ++ root ∷ [] → new ≡ old ++ tree_sub m whole leaves
put_part m whole leaves old new root some is test r e =
    e ∙ ap (λ root. old ++ root ∷ []) r ∙ ap (λ more. old ++ more) (sym (tree_sub-whole m whole leaves some is ∙ ap (λ b. unless_whole b (tree_root leaves)) test))

pub put_sub_left : (m k : ℕ) (whole : Bool) (leaves front back old mid new : List (List ℕ)) (root : List ℕ) → 0 < m → m < length leaves → k ≡ split_point (length leaves) → m ≤ k
    → front ≡ take k leaves → back ≡ drop k leaves → root ≡ tree_root back → mid ≡ old ++ tree_sub m whole front → new ≡ mid ++ root ∷ [] → new ≡ old ++ tree_sub m whole leaves
put_sub_left m k whole leaves front back old mid new root some less point low f b r e g =
    let fronts : front ≡ take (split_point (length leaves)) leaves = f ∙ ap (λ k. take k leaves) point in
    let backs : back ≡ drop (split_point (length leaves)) leaves = b ∙ ap (λ k. drop k leaves) point in
    g ∙ ap (λ mid. mid ++ root ∷ []) e ∙ append_assoc old (tree_sub m whole front) (root ∷ [])
    ∙ ap (λ front. old ++ (tree_sub m whole front ++ root ∷ [])) fronts
    ∙ ap (λ root. old ++ (tree_sub m whole (take (split_point (length leaves)) leaves) ++ root ∷ [])) (r ∙ ap tree_root backs)
    ∙ ap (λ path. old ++ path) (sym (tree_sub-left m whole leaves (omega arith) less (subst (λ k. m ≤ k) point low)))

pub put_sub_right : (m k : ℕ) (whole : Bool) (leaves front back old mid new : List (List ℕ)) (root : List ℕ) → 0 < m → m < length leaves → k ≡ split_point (length leaves) → k < m
    → front ≡ take k leaves → back ≡ drop k leaves → root ≡ tree_root front → mid ≡ old ++ tree_sub (m - k) false back → new ≡ mid ++ root ∷ [] → new ≡ old ++ tree_sub m whole leaves
put_sub_right m k whole leaves front back old mid new root some less point high f b r e g =
    let fronts : front ≡ take (split_point (length leaves)) leaves = f ∙ ap (λ k. take k leaves) point in
    let backs : back ≡ drop (split_point (length leaves)) leaves = b ∙ ap (λ k. drop k leaves) point in
    g ∙ ap (λ mid. mid ++ root ∷ []) e ∙ append_assoc old (tree_sub (m - k) false back) (root ∷ [])
    ∙ ap (λ back. old ++ (tree_sub (m - k) false back ++ root ∷ [])) backs
    ∙ ap (λ k. old ++ (tree_sub (m - k) false (drop (split_point (length leaves)) leaves) ++ root ∷ [])) point
    ∙ ap (λ root. old ++ (tree_sub (m - split_point (length leaves)) false (drop (split_point (length leaves)) leaves) ++ root ∷ [])) (r ∙ ap tree_root fronts)
    ∙ ap (λ path. old ++ path) (sym (tree_sub-right m whole leaves (omega arith) less (subst (λ k. k < m) point high)))
