-- Where no two strings that are hashed collide, a root stands for its entries.
use Rattle.std.proofs.Common.{get_or, ◌≡◌, ℕ, zero, suc, ◌+◌, ◌-◌, ◌^◌, ◌≤◌, ◌<◌, ◌⊎◌, inl, inr, Bool, true, false, List, [], ◌∷◌, ◌++◌, length, take, drop, refl, sym, arith, ◌∙◌, ap, subst, length-append, length-drop, eqb, nat_lt, nat_le, if◌then◌else◌}
use Rattle.std.specs.Prelude.{Contains, Option, Some, None, option_map}
use Rattle.std.specs.Option.{option_to_list}
use Rattle.std.specs.Cmp.Lexicographic.{pointwise}
use Rattle.std.proofs.lemmas.Bool.{cases_Bool, cases_lt, both_ways, ltb-true, ltb-false, leb-true, leb-false, eqb-true, eq-eqb, ne_eqb}
use Rattle.std.proofs.lemmas.Bool.Decides.{Decides-eqb}
use Rattle.std.proofs.lemmas.Slice.Eq.{slice_eq-Decides}
use Rattle.std.proofs.lemmas.List.{take_at, drop_at, take_all, take-take, drop-take, take-append-drop, length-take-le, get_or-take, get_or-drop}
use Rattle.std.proofs.lemmas.List.Elements.{Contains-append_left, Contains-append_right}
use Rattle.std.proofs.Math.Nat.{two-pow-succ}
use Rattle.sha2.specs.Sha256.{sha256}
use Rattle.sha2.proofs.Facts256.{length-sha256}
use Rattle.merkle_tree.specs.Mth.{leaf_hash, node_hash, split_point, root_within, mth, IsLargestPowerBelow}
use Rattle.merkle_tree.specs.Paths.{root_down}
use Rattle.merkle_tree.specs.Consistency.{at_one_tree, roots_down}
use Rattle.merkle_tree.specs.Inputs.{Collides, node_input, inputs_within, tree_inputs, inputs_down, two_inputs, pair_inputs}
use Rattle.merkle_tree.proofs.Splits.{Splits, split_point-splits, split_point-largest, split_point-between}
use Rattle.merkle_tree.proofs.Roots.{mth-node}

-- no string of the one list collides with one of the other
pub record Apart (some others : List (List ℕ)) : Type 0 where
  pub same : (a b : List ℕ) → Contains some a → Contains others b → sha256 a ≡ sha256 b → a ≡ b

same_or_not : (a b : List ℕ) → (a ≡ b) ⊎ (a ≡ b → ⊥)
same_or_not a b =
    let d = slice_eq-Decides Decides-eqb a b (pointwise eqb a b) refl in
    elim (cases_Bool (pointwise eqb a b)) [ inl t ↦ inl (d.0 t) | inr f ↦ inr (λ e. both_ways _ f (d.1 e)) ]

pub apart_from : (some others : List (List ℕ)) → (Collides some others → ⊥) → Apart some others
apart_from some others none = record {
  same = λ a b among beside e. elim (same_or_not a b) [
    | inl is ↦ is
    | inr differ ↦ absurd (none (record { one = a; other = b; among = among; beside = beside; differ = differ; same = e }))
  ];
}

-- the same of parts of the lists
apart_in : (A B C D : List (List ℕ)) → Apart A B → ((a : List ℕ) → Contains C a → Contains A a) → ((b : List ℕ) → Contains D b → Contains B b) → Apart C D
apart_in A B C D apart left right = record { same = λ a b among beside e. apart.same a b (left a among) (right b beside) e }

here : (x : List ℕ) (xs : List (List ℕ)) → Contains (x ∷ xs) x
here x xs = (0, omega arith, refl)

there : (x : List ℕ) (xs : List (List ℕ)) (y : List ℕ) → Contains xs y → Contains (x ∷ xs) y
there x xs y c = (suc c.0, omega (arith, c.1), c.2)

-- the parts of two joined lists, where one pair of parts is as long
record SameParts (a b c d : List ℕ) : Type 0 where
  left : a ≡ c
  right : b ≡ d

split_left : (a b c d : List ℕ) → length a ≡ length c → a ++ b ≡ c ++ d → SameParts a b c d
split_left a b c d len e = record {
  left = sym (take_at a b (length a) refl) ∙ ap (take (length a)) e ∙ take_at c d (length a) (sym len);
  right = sym (drop_at a b (length a) refl) ∙ ap (drop (length a)) e ∙ drop_at c d (length a) (sym len);
}

split_right : (a b c d : List ℕ) → length b ≡ length d → a ++ b ≡ c ++ d → SameParts a b c d
split_right a b c d len e = split_left a b c d (omega (arith, len, length-append a b, length-append c d, ap length e)) e

tail_of : (x y : ℕ) (xs ys : List ℕ) → x ∷ xs ≡ y ∷ ys → xs ≡ ys
tail_of x y xs ys e = ap (drop 1) e

-- a root has 32 bytes
pub mth-length : (entries : List (List ℕ)) → length (mth entries) ≡ 32
unfolding mth root_within
mth-length [] = length-sha256 _
mth-length (d ∷ []) = length-sha256 _
mth-length (d ∷ e ∷ rest) = length-sha256 _

-- how many levels are allowed makes no difference once there are as many as entries
two_lists : (x y : List ℕ) (a b c d : List (List ℕ)) → x ≡ y → a ≡ b → c ≡ d → x ∷ a ++ c ≡ y ∷ b ++ d
two_lists x y a b c d e f g = cc

inputs_within-levels : (m n : ℕ) (all : List (List ℕ)) → length all ≤ m → length all ≤ n → inputs_within m all ≡ inputs_within n all
unfolding inputs_within
inputs_within-levels m n [] hm hn = refl
inputs_within-levels m n (d ∷ []) hm hn = refl
inputs_within-levels zero n (d ∷ e ∷ rest) hm hn = absurd (omega arith)
inputs_within-levels (suc m) zero (d ∷ e ∷ rest) hm hn = absurd (omega arith)
inputs_within-levels (suc m) (suc n) (d ∷ e ∷ rest) hm hn =
    let all : List (List ℕ) = d ∷ e ∷ rest in
    let k : ℕ = split_point (length all) in
    let splits : Splits (length all) k = split_point-splits (length all) (omega arith) in
    let front : length (take k all) ≡ k = length-take-le k all (omega (arith, splits.below)) in
    let back : length (drop k all) ≡ length all - k = length-drop k all in
    two_lists _ _ _ _ _ _ refl
    (inputs_within-levels m n (take k all) (omega (arith, splits.below)) (omega (arith, splits.below)))
    (inputs_within-levels m n (drop k all) (omega (arith, splits.some)) (omega (arith, splits.some)))

-- the strings of a list of two and more
tree_inputs-node : (all : List (List ℕ)) → 2 ≤ length all → let k = split_point (length all) in
    tree_inputs all ≡ node_input (mth (take k all)) (mth (drop k all)) ∷ tree_inputs (take k all) ++ tree_inputs (drop k all)
unfolding tree_inputs inputs_within
tree_inputs-node [] some = absurd (omega arith)
tree_inputs-node (d ∷ []) some = absurd (omega arith)
tree_inputs-node (d ∷ e ∷ rest) some =
    let all : List (List ℕ) = d ∷ e ∷ rest in
    let k : ℕ = split_point (length all) in
    let splits : Splits (length all) k = split_point-splits (length all) (omega arith) in
    let front : length (take k all) ≡ k = length-take-le k all (omega (arith, splits.below)) in
    let back : length (drop k all) ≡ length all - k = length-drop k all in
    two_lists _ _ _ _ _ _ refl
    (inputs_within-levels (suc (length rest)) (length (take k all)) (take k all) (omega (arith, splits.below)) (omega arith))
    (inputs_within-levels (suc (length rest)) (length (drop k all)) (drop k all) (omega (arith, splits.some)) (omega arith))

-- what the split of a list at k gives
record IsSplit (k n : ℕ) (all : List (List ℕ)) : Type 0 where
  root : mth all ≡ node_hash (mth (take k all)) (mth (drop k all))
  node : Contains (tree_inputs all) (node_input (mth (take k all)) (mth (drop k all)))
  front : (a : List ℕ) → Contains (tree_inputs (take k all)) a → Contains (tree_inputs all) a
  back : (a : List ℕ) → Contains (tree_inputs (drop k all)) a → Contains (tree_inputs all) a
  front_len : length (take k all) ≡ k
  back_len : length (drop k all) ≡ n - k

split_self : (all : List (List ℕ)) → 2 ≤ length all → IsSplit (split_point (length all)) (length all) all
split_self all some =
    let k : ℕ = split_point (length all) in
    let splits : Splits (length all) k = split_point-splits (length all) some in
    let is = tree_inputs-node all some in
    let front = tree_inputs (take k all) in
    let back = tree_inputs (drop k all) in
    let node = node_input (mth (take k all)) (mth (drop k all)) in
    record {
      root = mth-node all some;
      node = subst (λ inputs. Contains inputs node) (sym is) (here node (front ++ back));
      front = λ a c. subst (λ inputs. Contains inputs a) (sym is) (there node (front ++ back) a (Contains-append_left front back a c));
      back = λ a c. subst (λ inputs. Contains inputs a) (sym is) (there node (front ++ back) a (Contains-append_right front back a c));
      front_len = length-take-le k all (omega (arith, splits.below));
      back_len = length-drop k all;
    }

split_of : (n : ℕ) (all : List (List ℕ)) → length all ≡ n → 2 ≤ n → IsSplit (split_point n) n all
split_of n all len some = subst (λ n. IsSplit (split_point n) n all) len (split_self all (omega arith))

-- the strings of two nodes that hash alike have the same parts
node_strings : (A B : List (List ℕ)) (a b c d : List ℕ) → Apart A B → Contains A (node_input a b) → Contains B (node_input c d) → node_hash a b ≡ node_hash c d → a ++ b ≡ c ++ d
node_strings A B a b c d apart among beside e = tail_of 1 1 _ _ (apart.same (node_input a b) (node_input c d) among beside e)

-- lists with one root and one length are equal
same_short : (A B : List (List ℕ)) → length A < 2 → length A ≡ length B → mth A ≡ mth B → Apart (tree_inputs A) (tree_inputs B) → A ≡ B
unfolding mth root_within tree_inputs inputs_within
same_short [] [] few len roots apart = refl
same_short [] (b ∷ bs) few len roots apart = absurd (omega arith)
same_short (a ∷ more) [] few len roots apart = absurd (omega arith)
same_short (a ∷ []) (b ∷ []) few len roots apart =
    ap (λ x. x ∷ []) (tail_of 0 0 a b (apart.same (0 ∷ a) (0 ∷ b) (here (0 ∷ a) []) (here (0 ∷ b) []) roots))
same_short (a ∷ []) (b ∷ c ∷ bs) few len roots apart = absurd (omega arith)
same_short (a ∷ c ∷ more) (b ∷ bs) few len roots apart = absurd (omega arith)

rejoined : (k : ℕ) (A B : List (List ℕ)) → take k A ≡ take k B → drop k A ≡ drop k B → A ≡ B
rejoined k A B front back = sym (take-append-drop k A) ∙ ap (λ x. x ++ drop k A) front ∙ ap (λ x. take k B ++ x) back ∙ take-append-drop k B

pub same_entries : (levels : ℕ) (A B : List (List ℕ)) → length A ≤ levels → length A ≡ length B → mth A ≡ mth B → Apart (tree_inputs A) (tree_inputs B) → A ≡ B
same_entries zero A B few len roots apart = same_short A B (omega arith) len roots apart
same_entries (suc levels) A B few len roots apart = elim (cases_lt (length A) 2) [
  | inl short ↦ same_short A B short len roots apart
  | inr more ↦
      let n : ℕ = length A in
      let k : ℕ = split_point n in
      let splits : Splits n k = split_point-splits n more in
      let of_a : IsSplit k n A = split_of n A refl more in
      let of_b : IsSplit k n B = split_of n B (sym len) more in
      let texts = node_strings (tree_inputs A) (tree_inputs B) (mth (take k A)) (mth (drop k A)) (mth (take k B)) (mth (drop k B)) apart of_a.node of_b.node (sym of_a.root ∙ roots ∙ of_b.root) in
      let parts : SameParts (mth (take k A)) (mth (drop k A)) (mth (take k B)) (mth (drop k B)) = split_left _ _ _ _ (mth-length (take k A) ∙ sym (mth-length (take k B))) texts in
      let front : take k A ≡ take k B = same_entries levels (take k A) (take k B) (omega (arith, of_a.front_len, splits.below)) (of_a.front_len ∙ sym of_b.front_len) parts.left
      (apart_in _ _ _ _ apart of_a.front of_b.front) in
      let back : drop k A ≡ drop k B = same_entries levels (drop k A) (drop k B) (omega (arith, of_a.back_len, splits.some)) (of_a.back_len ∙ sym of_b.back_len) parts.right
      (apart_in _ _ _ _ apart of_a.back of_b.back) in
      rejoined k A B front back
]

-- what a test or a step that gave something went by
pub given_if : {A : Type 0} (b : Bool) (x y : Option A) (r : A) → (if b then x else y) ≡ Some r → ((b ≡ true) × (x ≡ Some r)) ⊎ ((b ≡ false) × (y ≡ Some r))
given_if true x y r e = inl (refl, e)
given_if false x y r e = inr (refl, e)

record Mapped {A B : Type 0} (f : A → B) (o : Option A) (r : B) : Type 0 where
  from : A
  is : o ≡ Some from
  gives : f from ≡ r

given_map : {A B : Type 0} (f : A → B) (o : Option A) (r : B) → option_map f o ≡ Some r → Mapped f o r
given_map f None r e = absurd (none_given r e)
  where
    none_given : {B : Type 0} (r : B) → None ≡ Some r → ⊥
    none_given r e = cc
given_map f (Some x) r e = record { from = x; is = refl; gives = some_same (f x) r e }
  where
    some_same : {B : Type 0} (x y : B) → Some x ≡ Some y → x ≡ y
    some_same x y e = cc

pub nothing : {A : Type 0} (r : A) → None ≡ Some r → ⊥
nothing r e = cc

same_some : {A : Type 0} (x y : A) → Some x ≡ Some y → x ≡ y
same_some x y e = cc

-- what a leaf's hash leads to has 32 bytes
down_length : (siblings : List (List ℕ)) (m n : ℕ) (leaf root : List ℕ) → length leaf ≡ 32 → root_down m n leaf siblings ≡ Some root → length root ≡ 32
unfolding root_down
down_length [] m n leaf root len leads = elim (given_if (eqb n 1) (Some leaf) None root leads) [
  | inl one ↦ ap length (sym (same_some leaf root one.1)) ∙ len
  | inr more ↦ absurd (nothing root more.1)
]
down_length (other ∷ below) m n leaf root len leads =
    let k : ℕ = split_point n in
    elim (given_if (nat_lt n 2) None (if nat_lt m k then option_map (λ r. node_hash r other) (root_down m k leaf below) else option_map (λ r. node_hash other r) (root_down (m - k) (n - k) leaf below)) root leads) [
      | inl few ↦ absurd (nothing root few.1)
      | inr many ↦ elim (given_if (nat_lt m k) _ _ root many.1) [
        | inl left ↦ let step = given_map (λ r. node_hash r other) (root_down m k leaf below) root left.1 in ap length (sym step.gives) ∙ length-sha256 _
        | inr right ↦ let step = given_map (λ r. node_hash other r) (root_down (m - k) (n - k) leaf below) root right.1 in ap length (sym step.gives) ∙ length-sha256 _
      ]
    ]

-- one step down: the string of the node, and those below
record Leads (some part : List (List ℕ)) (string : List ℕ) : Type 0 where
  node : Contains some string
  rest : (a : List ℕ) → Contains part a → Contains some a

leads_by : (o : Option (List ℕ)) (f : List ℕ → List ℕ) (r : List ℕ) (part : List (List ℕ)) → o ≡ Some r → Leads (option_to_list (option_map f o) ++ part) part (f r)
leads_by o f r part is = subst (λ o. Leads (option_to_list (option_map f o) ++ part) part (f r)) (sym is)
    (record { node = here (f r) part; rest = λ a c. there (f r) part a c })

down_left : (m n : ℕ) (entry other r : List ℕ) (below : List (List ℕ)) → nat_lt n 2 ≡ false → nat_lt m (split_point n) ≡ true → root_down m (split_point n) (leaf_hash entry) below ≡ Some r
    → Leads (inputs_down m n entry (other ∷ below)) (inputs_down m (split_point n) entry below) (node_input r other)
unfolding inputs_down
down_left m n entry other r below many lt is = rw (many, lt) (leads_by _ (λ r. node_input r other) r _ is)

down_right : (m n : ℕ) (entry other r : List ℕ) (below : List (List ℕ)) → nat_lt n 2 ≡ false → nat_lt m (split_point n) ≡ false → root_down (m - split_point n) (n - split_point n) (leaf_hash entry) below ≡ Some r
    → Leads (inputs_down m n entry (other ∷ below)) (inputs_down (m - split_point n) (n - split_point n) entry below) (node_input other r)
unfolding inputs_down
down_right m n entry other r below many ge is = rw (many, ge) (leads_by _ (λ r. node_input other r) r _ is)

-- an entry that leads to the root of a list is the entry at that place
at_one : (m n : ℕ) (entry : List ℕ) (D : List (List ℕ)) → m < n → n ≡ 1 → length D ≡ n → mth D ≡ leaf_hash entry → Apart ((0 ∷ entry) ∷ []) (tree_inputs D) → get_or D m [] ≡ entry
unfolding mth root_within tree_inputs inputs_within
at_one m n entry [] below one len is apart = absurd (omega arith)
at_one m n entry (d ∷ e ∷ rest) below one len is apart = absurd (omega arith)
at_one zero n entry (d ∷ []) below one len is apart = sym (tail_of 0 0 entry d (apart.same (0 ∷ entry) (0 ∷ d) (here (0 ∷ entry) []) (here (0 ∷ d) []) (sym is)))
at_one (suc m) n entry (d ∷ []) below one len is apart = absurd (omega arith)

-- the step at the left and at the right part
pub entry_at : (siblings : List (List ℕ)) (m n : ℕ) (entry root : List ℕ) (D : List (List ℕ)) → m < n → length D ≡ n → root_down m n (leaf_hash entry) siblings ≡ Some root → mth D ≡ root
    → Apart (inputs_down m n entry siblings) (tree_inputs D) → get_or D m [] ≡ entry
unfolding root_down inputs_down
entry_at [] m n entry root D within len leads is apart = elim (given_if (eqb n 1) (Some (leaf_hash entry)) None root leads) [
  | inl one ↦ at_one m n entry D within (eqb-true n 1 one.0) len (is ∙ sym (same_some (leaf_hash entry) root one.1)) apart
  | inr more ↦ absurd (nothing root more.1)
]
entry_at (other ∷ below) m n entry root D within len leads is apart =
    let k : ℕ = split_point n in
    let leaf : List ℕ = leaf_hash entry in
    elim (given_if (nat_lt n 2) None (if nat_lt m k then option_map (λ r. node_hash r other) (root_down m k leaf below) else option_map (λ r. node_hash other r) (root_down (m - k) (n - k) leaf below)) root leads) [
      | inl few ↦ absurd (nothing root few.1)
      | inr many ↦
          let some : 2 ≤ n = ltb-false n 2 many.0 in
          let splits : Splits n k = split_point-splits n some in
          let of : IsSplit k n D = split_of n D len some in
          elim (given_if (nat_lt m k) (option_map (λ r. node_hash r other) (root_down m k leaf below)) (option_map (λ r. node_hash other r) (root_down (m - k) (n - k) leaf below)) root many.1) [
            | inl left ↦
                let step = given_map (λ r. node_hash r other) (root_down m k leaf below) root left.1 in
                let r : List ℕ = step.from in
                let inputs = down_left m n entry other r below many.0 left.0 step.is in
                let texts = node_strings (inputs_down m n entry (other ∷ below)) (tree_inputs D) r other (mth (take k D)) (mth (drop k D)) apart inputs.node of.node (step.gives ∙ sym is ∙ of.root) in
                let parts : SameParts r other (mth (take k D)) (mth (drop k D)) =
                split_left _ _ _ _ (down_length below m k leaf r (length-sha256 _) step.is ∙ sym (mth-length (take k D))) texts in
                let lt : m < k = ltb-true m k left.0 in
                sym (get_or-take k D m [] lt) ∙ entry_at below m k entry r (take k D) lt of.front_len step.is (sym parts.left) (apart_in _ _ _ _ apart inputs.rest of.front)
            | inr right ↦
                let step = given_map (λ r. node_hash other r) (root_down (m - k) (n - k) leaf below) root right.1 in
                let r : List ℕ = step.from in
                let inputs = down_right m n entry other r below many.0 right.0 step.is in
                let texts = node_strings (inputs_down m n entry (other ∷ below)) (tree_inputs D) other r (mth (take k D)) (mth (drop k D)) apart inputs.node of.node (step.gives ∙ sym is ∙ of.root) in
                let parts : SameParts other r (mth (take k D)) (mth (drop k D)) =
                split_right _ _ _ _ (down_length below (m - k) (n - k) leaf r (length-sha256 _) step.is ∙ sym (mth-length (drop k D))) texts in
                let ge : k ≤ m = ltb-false m k right.0 in
                let place : k + (m - k) ≡ m = omega arith in
                ap (λ i. get_or D i []) (sym place) ∙ sym (get_or-drop k D (m - k) []) ∙ entry_at below (m - k) (n - k) entry r (drop k D) (omega arith) of.back_len step.is (sym parts.right) (apart_in _ _ _ _ apart inputs.rest of.back)
          ]
    ]

same_pair : (p q : List ℕ × List ℕ) → Some p ≡ Some q → p ≡ q
same_pair p q e = same_some p q e

-- one tree has one root
one_tree : (whole : Bool) (old : List ℕ) (siblings : List (List ℕ)) (t : List ℕ × List ℕ) → at_one_tree whole old siblings ≡ Some t → t.0 ≡ t.1
one_tree true old [] t e = ap (λ p. p.0) (sym (same_pair (old, old) t e)) ∙ ap (λ p. p.1) (same_pair (old, old) t e)
one_tree true old (first ∷ more) t e = absurd (nothing t e)
one_tree false old [] t e = absurd (nothing t e)
one_tree false old (root ∷ []) t e = ap (λ p. p.0) (sym (same_pair (root, root) t e)) ∙ ap (λ p. p.1) (same_pair (root, root) t e)
one_tree false old (first ∷ second ∷ more) t e = absurd (nothing t e)

-- at one tree both roots are the same, and a new root of more leaves has 32 bytes
roots_same : (siblings : List (List ℕ)) (m n : ℕ) (whole : Bool) (old : List ℕ) (t : List ℕ × List ℕ) → m ≡ n → roots_down m n whole old siblings ≡ Some t → t.0 ≡ t.1
unfolding roots_down
roots_same [] m n whole old t one e = one_tree whole old [] t (rw (eq-eqb m n one) at e)
roots_same (other ∷ below) m n whole old t one e = one_tree whole old (other ∷ below) t (rw (eq-eqb m n one) at e)

-- one step down: the part that is common stands at the right, or at the left
record StepLeft (m n : ℕ) (whole : Bool) (old other : List ℕ) (below : List (List ℕ)) (t r : List ℕ × List ℕ) : Type 0 where
  is : roots_down m (split_point n) whole old below ≡ Some r
  old_root : r.0 ≡ t.0
  new_root : node_hash r.1 other ≡ t.1
  leads : Leads (pair_inputs m n whole old (other ∷ below)) (pair_inputs m (split_point n) whole old below) (node_input r.1 other)

-- the strings of two nodes, and those below
record LeadsTwo (some part : List (List ℕ)) (one two : List ℕ) : Type 0 where
  first : Contains some one
  second : Contains some two
  rest : (a : List ℕ) → Contains part a → Contains some a

leads_two : (some part : List (List ℕ)) (one two : List ℕ) → some ≡ one ∷ two ∷ part → LeadsTwo some part one two
leads_two some part one two is = subst (λ some. LeadsTwo some part one two) (sym is) (record {
  first = here one (two ∷ part);
  second = there one (two ∷ part) two (here two part);
  rest = λ a c. there one (two ∷ part) a (there two part a c);
})

record StepRight (m n : ℕ) (whole : Bool) (old other : List ℕ) (below : List (List ℕ)) (t r : List ℕ × List ℕ) : Type 0 where
  is : roots_down (m - split_point n) (n - split_point n) false old below ≡ Some r
  old_root : node_hash other r.0 ≡ t.0
  new_root : node_hash other r.1 ≡ t.1
  leads : LeadsTwo (pair_inputs m n whole old (other ∷ below)) (pair_inputs (m - split_point n) (n - split_point n) false old below) (node_input other r.0) (node_input other r.1)

pair_leads : (o : Option (List ℕ × List ℕ)) (other : List ℕ) (r : List ℕ × List ℕ) (part : List (List ℕ)) → o ≡ Some r
    → Leads (option_to_list (option_map (λ r. node_input r.1 other) o) ++ part) part (node_input r.1 other)
pair_leads o other r part is = subst (λ o. Leads (option_to_list (option_map (λ r. node_input r.1 other) o) ++ part) part (node_input r.1 other)) (sym is)
    (record { node = here _ part; rest = λ a c. there _ part a c })

left_leads : (m n : ℕ) (whole : Bool) (old other : List ℕ) (below : List (List ℕ)) (r : List ℕ × List ℕ) → eqb m n ≡ false → nat_le m (split_point n) ≡ true
    → roots_down m (split_point n) whole old below ≡ Some r
    → Leads (pair_inputs m n whole old (other ∷ below)) (pair_inputs m (split_point n) whole old below) (node_input r.1 other)
unfolding pair_inputs
left_leads m n whole old other below r ne le is = rw (ne, le) (pair_leads _ other r _ is)

right_leads : (m n : ℕ) (whole : Bool) (old other : List ℕ) (below : List (List ℕ)) → eqb m n ≡ false → nat_le m (split_point n) ≡ false
    → pair_inputs m n whole old (other ∷ below) ≡ two_inputs other (roots_down (m - split_point n) (n - split_point n) false old below) ++ pair_inputs (m - split_point n) (n - split_point n) false old below
unfolding pair_inputs
right_leads m n whole old other below ne gt = rw (ne, gt) refl

pairs_same : (a b c d : List ℕ) (t : List ℕ × List ℕ) → (a, b) ≡ t → c ≡ a → d ≡ b → (c ≡ t.0) × (d ≡ t.1)
pairs_same a b c d t e f g = (f ∙ ap (λ p. p.0) e, g ∙ ap (λ p. p.1) e)

made_left : (m n : ℕ) (whole : Bool) (old other : List ℕ) (below : List (List ℕ)) (t r : List ℕ × List ℕ) → eqb m n ≡ false → nat_le m (split_point n) ≡ true
    → roots_down m (split_point n) whole old below ≡ Some r → (r.0, node_hash r.1 other) ≡ t → StepLeft m n whole old other below t r
made_left m n whole old other below t r ne le is gives =
    let both = pairs_same r.0 (node_hash r.1 other) r.0 (node_hash r.1 other) t gives refl refl in
    record { is = is; old_root = both.0; new_root = both.1; leads = left_leads m n whole old other below r ne le is }

made_right : (m n : ℕ) (whole : Bool) (old other : List ℕ) (below : List (List ℕ)) (t r : List ℕ × List ℕ) → eqb m n ≡ false → nat_le m (split_point n) ≡ false
    → roots_down (m - split_point n) (n - split_point n) false old below ≡ Some r → (node_hash other r.0, node_hash other r.1) ≡ t → StepRight m n whole old other below t r
made_right m n whole old other below t r ne gt is gives =
    let both = pairs_same (node_hash other r.0) (node_hash other r.1) (node_hash other r.0) (node_hash other r.1) t gives refl refl in
    let part : List (List ℕ) = pair_inputs (m - split_point n) (n - split_point n) false old below in
    let are : pair_inputs m n whole old (other ∷ below) ≡ node_input other r.0 ∷ node_input other r.1 ∷ part = right_leads m n whole old other below ne gt ∙ ap (λ o. two_inputs other o ++ part) is in
    record { is = is; old_root = both.0; new_root = both.1; leads = leads_two (pair_inputs m n whole old (other ∷ below)) part (node_input other r.0) (node_input other r.1) are }

roots_left : (m n : ℕ) (whole : Bool) (old other : List ℕ) (below : List (List ℕ)) → eqb m n ≡ false → nat_le m (split_point n) ≡ true
    → roots_down m n whole old (other ∷ below) ≡ option_map (λ r. (r.0, node_hash r.1 other)) (roots_down m (split_point n) whole old below)
unfolding roots_down
roots_left m n whole old other below ne le = rw (ne, le) refl

roots_right : (m n : ℕ) (whole : Bool) (old other : List ℕ) (below : List (List ℕ)) → eqb m n ≡ false → nat_le m (split_point n) ≡ false
    → roots_down m n whole old (other ∷ below) ≡ option_map (λ r. (node_hash other r.0, node_hash other r.1)) (roots_down (m - split_point n) (n - split_point n) false old below)
unfolding roots_down
roots_right m n whole old other below ne gt = rw (ne, gt) refl

step_left : (m n : ℕ) (whole : Bool) (old other : List ℕ) (below : List (List ℕ)) (t : List ℕ × List ℕ) → eqb m n ≡ false → nat_le m (split_point n) ≡ true
    → roots_down m n whole old (other ∷ below) ≡ Some t → (r : List ℕ × List ℕ) × StepLeft m n whole old other below t r
step_left m n whole old other below t ne le e =
    go (given_map (λ (r : List ℕ × List ℕ). (r.0, node_hash r.1 other)) (roots_down m (split_point n) whole old below) t (sym (roots_left m n whole old other below ne le) ∙ e))
  where
    go : Mapped (λ (r : List ℕ × List ℕ). (r.0, node_hash r.1 other)) (roots_down m (split_point n) whole old below) t → (r : List ℕ × List ℕ) × StepLeft m n whole old other below t r
    go step = (step.from, made_left m n whole old other below t step.from ne le step.is step.gives)

step_right : (m n : ℕ) (whole : Bool) (old other : List ℕ) (below : List (List ℕ)) (t : List ℕ × List ℕ) → eqb m n ≡ false → nat_le m (split_point n) ≡ false
    → roots_down m n whole old (other ∷ below) ≡ Some t → (r : List ℕ × List ℕ) × StepRight m n whole old other below t r
step_right m n whole old other below t ne gt e =
    go (given_map (λ (r : List ℕ × List ℕ). (node_hash other r.0, node_hash other r.1)) (roots_down (m - split_point n) (n - split_point n) false old below) t (sym (roots_right m n whole old other below ne gt) ∙ e))
  where
    go : Mapped (λ (r : List ℕ × List ℕ). (node_hash other r.0, node_hash other r.1)) (roots_down (m - split_point n) (n - split_point n) false old below) t → (r : List ℕ × List ℕ) × StepRight m n whole old other below t r
    go step = (step.from, made_right m n whole old other below t step.from ne gt step.is step.gives)

-- nothing leads from fewer leaves to more without an element
none_below : (m n : ℕ) (whole : Bool) (old : List ℕ) (t : List ℕ × List ℕ) → m < n → roots_down m n whole old [] ≡ Some t → ⊥
unfolding roots_down
none_below m n whole old t less e = let ne : eqb m n ≡ false = ne_eqb m n (λ e. omega arith) in nothing t (rw ne at e)

roots_length : (siblings : List (List ℕ)) (m n : ℕ) (whole : Bool) (old : List ℕ) (t : List ℕ × List ℕ) → m < n → roots_down m n whole old siblings ≡ Some t → length t.1 ≡ 32
roots_length [] m n whole old t less e = absurd (none_below m n whole old t less e)
roots_length (other ∷ below) m n whole old t less e =
    let ne : eqb m n ≡ false = ne_eqb m n (λ e. omega arith) in
    elim (cases_Bool (nat_le m (split_point n))) [
      | inl le ↦ let step = step_left m n whole old other below t ne le e in ap length (sym step.1.new_root) ∙ length-sha256 _
      | inr gt ↦ let step = step_right m n whole old other below t ne gt e in ap length (sym step.1.new_root) ∙ length-sha256 _
    ]

-- a number between the split point of n and n is split there too
pub split_point-same : (m n : ℕ) → 2 ≤ n → split_point n < m → m ≤ n → split_point m ≡ split_point n
split_point-same m n some above below =
    let splits : Splits n (split_point n) = split_point-splits n some in
    let largest : IsLargestPowerBelow n (split_point n) = split_point-largest n some in
    let j : ℕ = largest.power.0 in
    let is : split_point n ≡ 2 ^ j = largest.power.1 in
    split_point-between j m (omega arith) (omega (arith, splits.half, two-pow-succ j)) ∙ sym is

front_joined : (k m : ℕ) (A B : List (List ℕ)) → k ≤ m → take k B ≡ take k A → take (m - k) (drop k B) ≡ drop k A → take m B ≡ A
front_joined k m A B low front back =
    let is : k + (m - k) ≡ m = omega arith in
    let rest : drop k (take m B) ≡ take (m - k) (drop k B) = ap (λ i. drop k (take i B)) (sym is) ∙ drop-take k (m - k) B in
    rejoined k (take m B) A (take-take k m B low ∙ front) (rest ∙ back)

new_length : (below : List (List ℕ)) (m k : ℕ) (whole : Bool) (old root : List ℕ) (r : List ℕ × List ℕ) → length root ≡ 32 → root ≡ r.0 → m ≤ k → roots_down m k whole old below ≡ Some r → length r.1 ≡ 32
new_length below m k whole old root r len is low e = elim (cases_lt m k) [
  | inl less ↦ roots_length below m k whole old r less e
  | inr same ↦ let one : m ≡ k = omega arith in ap length (sym (roots_same below m k whole old r one e)) ∙ ap length (sym is) ∙ len
]

-- what is consistent with a list's root is the root of its front
pub front_of : (siblings : List (List ℕ)) (m n : ℕ) (whole : Bool) (old : List ℕ) (t : List ℕ × List ℕ) (A B : List (List ℕ)) → 0 < m → m ≤ n → length A ≡ m → length B ≡ n
    → roots_down m n whole old siblings ≡ Some t → mth A ≡ t.0 → mth B ≡ t.1
    → Apart (pair_inputs m n whole old siblings) (tree_inputs A) → Apart (pair_inputs m n whole old siblings) (tree_inputs B) → Apart (tree_inputs A) (tree_inputs B) → take m B ≡ A
front_of [] m n whole old t A B some within len_a len_b e is_a is_b with_a with_b apart = elim (cases_lt m n) [
  | inl less ↦ absurd (none_below m n whole old t less e)
  | inr same ↦
      let one : m ≡ n = omega arith in
      take_all m B (omega arith) ∙ sym (same_entries (length A) A B (omega arith) (omega arith) (is_a ∙ roots_same [] m n whole old t one e ∙ sym is_b) apart)
]
front_of (other ∷ below) m n whole old t A B some within len_a len_b e is_a is_b with_a with_b apart = elim (cases_lt m n) [
  | inr same ↦
      let one : m ≡ n = omega arith in
      take_all m B (omega arith) ∙ sym (same_entries (length A) A B (omega arith) (omega arith) (is_a ∙ roots_same (other ∷ below) m n whole old t one e ∙ sym is_b) apart)
  | inl less ↦
      let ne : eqb m n ≡ false = ne_eqb m n (λ e. omega arith) in
      let k : ℕ = split_point n in
      let more : 2 ≤ n = omega arith in
      let splits : Splits n k = split_point-splits n more in
      let of_b : IsSplit k n B = split_of n B len_b more in
      let inputs = pair_inputs m n whole old (other ∷ below) in
      elim (cases_Bool (nat_le m k)) [
        | inl le ↦
            let low : m ≤ k = leb-true m k le in
            let found = step_left m n whole old other below t ne le e in
            let r : List ℕ × List ℕ = found.0 in
            let step : StepLeft m n whole old other below t r = found.1 in
            let texts = node_strings inputs (tree_inputs B) r.1 other (mth (take k B)) (mth (drop k B)) with_b step.leads.node of_b.node (step.new_root ∙ sym is_b ∙ of_b.root) in
            let old_is : mth A ≡ r.0 = is_a ∙ sym step.old_root in
            let len : length r.1 ≡ 32 = new_length below m k whole old (mth A) r (mth-length A) old_is low step.is in
            let parts : SameParts r.1 other (mth (take k B)) (mth (drop k B)) = split_left _ _ _ _ (len ∙ sym (mth-length (take k B))) texts in
            sym (take-take m k B low) ∙ front_of below m k whole old r A (take k B) some low len_a of_b.front_len step.is old_is (sym parts.left)
            (apart_in _ _ _ _ with_a step.leads.rest (λ a c. c)) (apart_in _ _ _ _ with_b step.leads.rest of_b.front) (apart_in _ _ _ _ apart (λ a c. c) of_b.front)
        | inr gt ↦
            let high : k < m = leb-false m k gt in
            let found = step_right m n whole old other below t ne gt e in
            let r : List ℕ × List ℕ = found.0 in
            let step : StepRight m n whole old other below t r = found.1 in
            let same_k : split_point m ≡ k = split_point-same m n more high within in
            let of_a : IsSplit k m A = subst (λ k. IsSplit k m A) same_k (split_of m A len_a (omega (arith, splits.some))) in
            let new_texts = node_strings inputs (tree_inputs B) other r.1 (mth (take k B)) (mth (drop k B)) with_b step.leads.second of_b.node (step.new_root ∙ sym is_b ∙ of_b.root) in
            let new_len : length r.1 ≡ 32 = roots_length below (m - k) (n - k) false old r (omega arith) step.is in
            let in_b : SameParts other r.1 (mth (take k B)) (mth (drop k B)) = split_right _ _ _ _ (new_len ∙ sym (mth-length (drop k B))) new_texts in
            let old_texts = node_strings inputs (tree_inputs A) other r.0 (mth (take k A)) (mth (drop k A)) with_a step.leads.first of_a.node (step.old_root ∙ sym is_a ∙ of_a.root) in
            let other_len : length other ≡ 32 = ap length in_b.left ∙ mth-length (take k B) in
            let in_a : SameParts other r.0 (mth (take k A)) (mth (drop k A)) = split_left _ _ _ _ (other_len ∙ sym (mth-length (take k A))) old_texts in
            let fronts : take k A ≡ take k B = same_entries (length (take k A)) (take k A) (take k B) (omega arith) (of_a.front_len ∙ sym of_b.front_len) (sym in_a.left ∙ in_b.left) (apart_in _ _ _ _ apart of_a.front of_b.front) in
            let backs : take (m - k) (drop k B) ≡ drop k A = front_of below (m - k) (n - k) false old r (drop k A) (drop k B) (omega arith) (omega arith) of_a.back_len of_b.back_len step.is (sym in_a.right) (sym in_b.right)
            (apart_in _ _ _ _ with_a step.leads.rest of_a.back) (apart_in _ _ _ _ with_b step.leads.rest of_b.back) (apart_in _ _ _ _ apart of_a.back of_b.back) in
            front_joined k m A B (omega arith) (sym fronts) backs
      ]
]
