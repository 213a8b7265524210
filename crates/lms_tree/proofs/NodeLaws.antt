-- The numbers of the nodes on the way from a leaf to the root, and the values of these nodes.
use Rattle.std.proofs.Common.{◌≡◌, inl, inr, ℕ, zero, suc, ◌+◌, ◌-◌, ◌*◌, ◌/◌, ◌%◌, ◌^◌, ◌<◌, ◌≤◌, List, length, map, refl, ap, sym, ◌∙◌, arith, add-zero}
use Rattle.std.proofs.Math.Nat.{pow-suc, div-lt_iff_lt-mul, div-div-eq-div-mul}
use Rattle.std.proofs.Math.Pow.{pow_pos, pow-add}
use Rattle.std.proofs.lemmas.Bool.{cases_lt}
use Rattle.std.specs.List.{range_with_len}
use Rattle.sha2.proofs.Facts256.{length-sha256}
use Rattle.lms_tree.specs.declared.types.Level.{Level}
use Rattle.lms_tree.specs.Types.{leaf_count}
use Rattle.lms_tree.specs.Nodes.{leaf, parent, node, sibling, path_node}
use Rattle.lms_tree.specs.Verifies.{above, root_from}
use Rattle.lms_tree.proofs.PathLaws.{root_from_next, root_from_ended}

pub node_at_leaf : (level : Level) (id seed : List ℕ) (r : ℕ) → node level id seed 0 r ≡ leaf id r (Rattle.lms_ots.specs.OneTime.ots_key level.ots (Rattle.lms_tree.specs.Nodes.key_name id (r - leaf_count level)) seed)
unfolding node
node_at_leaf level id seed r = refl

pub node_above : (level : Level) (id seed : List ℕ) (up r : ℕ) → node level id seed (suc up) r ≡ parent id r (node level id seed up (2 * r)) (node level id seed up (2 * r + 1))
unfolding node
node_above level id seed up r = refl

pub length-node : (level : Level) (id seed : List ℕ) (up r : ℕ) → length (node level id seed up r) ≡ 32
unfolding node leaf parent
length-node level id seed zero r = length-sha256 _
length-node level id seed (suc up) r = length-sha256 _

-- the number of the node `up` levels above leaf q is one of those at depth d
pub number_low : (up d q : ℕ) → 2 ^ d ≤ (2 ^ (up + d) + q) / 2 ^ up
number_low up d q =
    let x = 2 ^ (up + d) + q in
    elim (cases_lt (x / 2 ^ up) (2 ^ d)) [
      | inl below ↦
          let small = (div-lt_iff_lt-mul (pow_pos up)).0 below in
          let whole = pow-add 2 up d in
          absurd (omega arith)
      | inr h ↦ h
    ]

pub number_high : (up d q : ℕ) → q < 2 ^ (up + d) → (2 ^ (up + d) + q) / 2 ^ up < 2 ^ suc d
number_high up d q h =
    let whole = pow-add 2 up d in
    let twice = pow-suc 2 d in
    let small : 2 ^ (up + d) + q < 2 ^ suc d * 2 ^ up = rw twice (omega arith) in
    (div-lt_iff_lt-mul (pow_pos up)).1 small

-- the node beside one at a depth below the root has that depth too
pub sibling_low : (d r : ℕ) → 2 ^ suc d ≤ r → 2 ^ suc d ≤ sibling r
sibling_low d r h =
    let twice = pow-suc 2 d in
    omega arith

pub sibling_high : (d r : ℕ) → r < 2 ^ suc (suc d) → sibling r < 2 ^ suc (suc d)
sibling_high d r h =
    let twice = pow-suc 2 (suc d) in
    omega arith

-- the value above a node, from its own and that of the node beside it
pub above-node : (level : Level) (id seed : List ℕ) (up r : ℕ) → above id r (node level id seed up r) (node level id seed up (sibling r)) ≡ node level id seed (suc up) (r / 2)
above-node level id seed up r =
    let t = λ (x : ℕ). node level id seed up x in
    let half = r / 2 in
    elim (cases_lt 0 (r % 2)) [
      | inl odd ↦
          let one : r % 2 ≡ 1 = omega arith in
          let left : r + 1 - 2 * 1 ≡ 2 * half = omega arith in
          let right : r ≡ 2 * half + 1 = omega arith in
          rw one (ap (λ x. parent id half (t x) (t r)) left ∙ ap (λ x. parent id half (t (2 * half)) (t x)) right ∙ sym (node_above level id seed up half))
      | inr even ↦
          let none : r % 2 ≡ 0 = omega arith in
          let left : r ≡ 2 * half = omega arith in
          let right : r + 1 - 2 * 0 ≡ 2 * half + 1 = omega arith in
          rw none (ap (λ x. parent id half (t r) (t x)) right ∙ ap (λ x. parent id half (t x) (t (2 * half + 1))) left ∙ sym (node_above level id seed up half))
    ]

pub number_more : (x up : ℕ) → x / 2 ^ up / 2 ≡ x / 2 ^ suc up
number_more x up = div-div-eq-div-mul x (2 ^ up) 2 ∙ ap (λ n. x / n) (sym (pow-suc 2 up))

-- from a node on leaf q's way, the path leads to the node n levels up
pub root_from-path : (level : Level) (id seed : List ℕ) (q n up : ℕ)
    → root_from id ((leaf_count level + q) / 2 ^ up) (node level id seed up ((leaf_count level + q) / 2 ^ up)) (map (path_node level id seed q) (range_with_len up n))
    ≡ node level id seed (up + n) ((leaf_count level + q) / 2 ^ (up + n))
root_from-path level id seed q zero up = rw add-zero (root_from_ended id _ _)
root_from-path level id seed q (suc n) up =
    let x = leaf_count level + q in
    let r = x / 2 ^ up in
    let rest = map (path_node level id seed q) (range_with_len (up + 1) n) in
    let one = root_from_next id r (node level id seed up r) (path_node level id seed q up) rest in
    let reached = above-node level id seed up r in
    let half = number_more x up in
    let next : up + 1 ≡ suc up = omega arith in
    let after : suc up + n ≡ up + suc n = omega arith in
    let ih = rw after at (root_from-path level id seed q n (suc up)) in
    one ∙ rw (reached, half, next) ih
