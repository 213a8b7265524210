-- Runs of leaves: their roots, by parts and from the roots of whole subtrees.
use Rattle.std.proofs.Common.{◌≡◌, ℕ, suc, ◌+◌, ◌-◌, ◌*◌, ◌^◌, ◌<◌, ◌≤◌, List, [], ◌++◌, length, take, drop, get_or, sym, ap, ap₂, ◌∙◌, inl, inr, arith, length-drop}
use Rattle.std.proofs.Math.Nat.{two-pow-succ}
use Rattle.std.proofs.lemmas.Nat.{pow-add, pow_pos}
use Rattle.std.proofs.lemmas.Bool.{cases_lt}
use Rattle.std.proofs.lemmas.List.{length-take-le, take-take, drop-take, drop-drop, take-append-le, drop-append-le, get_or-take, get_or-drop}
use Rattle.merkle_tree.specs.Mth.{node_hash, split_point, tree_root, IsLargestPowerBelow}
use Rattle.merkle_tree.specs.Subtrees.{root_of_run, HasInner, IsAligned}
use Rattle.merkle_tree.proofs.Splits.{below_power, pow_up, Splits, split_point-splits, split_point-largest}
use Rattle.merkle_tree.proofs.Roots.{node_of, tree_root-single, tree_root-node}

-- what stands in front of more leaves
pub run_front : (from len : ℕ) (xs ys : List (List ℕ)) → from + len ≤ length xs → root_of_run (xs ++ ys) from len ≡ root_of_run xs from len
run_front from len xs ys within =
    ap (λ D. tree_root (take len D)) (drop-append-le from xs ys (omega arith)) ∙ ap tree_root (take-append-le len (drop from xs) ys (omega (arith, length-drop from xs)))

pub run_len : (from len : ℕ) (all : List (List ℕ)) → from + len ≤ length all → length (take len (drop from all)) ≡ len
run_len from len all within = length-take-le len (drop from all) (omega (arith, length-drop from all))

-- the two parts of a run
pub front_part : (from len k : ℕ) (all : List (List ℕ)) → k ≤ len → take k (drop from all) ≡ take k (take len (drop from all))
front_part from len k all low = sym (take-take k len (drop from all) low)

pub back_part : (from len k : ℕ) (all : List (List ℕ)) → k ≤ len → take (len - k) (drop (from + k) all) ≡ drop k (take len (drop from all))
back_part from len k all low =
    let is : k + (len - k) ≡ len = omega arith in
    sym (ap (λ n. drop k (take n (drop from all))) (sym is) ∙ drop-take k (len - k) (drop from all) ∙ ap (take (len - k)) (drop-drop k from all))

pub run_node : (from len k : ℕ) (all : List (List ℕ)) → 2 ≤ len → from + len ≤ length all → k ≡ split_point len
    → root_of_run all from len ≡ node_hash (root_of_run all from k) (root_of_run all (from + k) (len - k))
run_node from len k all many within is =
    let part : List (List ℕ) = take len (drop from all) in
    let len_is : length part ≡ len = run_len from len all within in
    let point : split_point (length part) ≡ k = ap split_point len_is ∙ sym is in
    let splits : Splits len (split_point len) = split_point-splits len many in
    let low : k ≤ len = omega (arith, is, splits.below) in
    tree_root-node part (omega (arith, len_is))
    ∙ ap (λ k. node_hash (tree_root (take k part)) (tree_root (drop k part))) point
    ∙ node_of _ _ _ _ (ap tree_root (sym (front_part from len k all low))) (ap tree_root (sym (back_part from len k all low)))

pub run_one : (from : ℕ) (all : List (List ℕ)) → from < length all → get_or all from [] ≡ root_of_run all from 1
run_one from all within =
    let len : length (take 1 (drop from all)) ≡ 1 = run_len from 1 all (omega arith) in
    let place : from + 0 ≡ from = omega arith in
    sym (get_or-take 1 (drop from all) 0 [] (omega arith) ∙ get_or-drop from all 0 [] ∙ ap (λ i. get_or all i []) place)
    ∙ tree_root-single (take 1 (drop from all)) (omega (arith, len)) (omega (arith, len))

-- where runs begin
pub aligned_start : (n : ℕ) → IsAligned 0 n
aligned_start n = record { power = n; count = 0; most = omega (arith, below_power n); place = omega arith }

less_power : (i j : ℕ) → 2 ^ i < 2 ^ j → i < j
less_power i j less = elim (cases_lt i j) [
  | inl lt ↦ lt
  | inr ge ↦ absurd (omega (arith, pow_up j i ge))
]

pub power_parts : (i j : ℕ) → i ≤ j → 2 ^ j ≡ 2 ^ i * 2 ^ (j - i)
power_parts i j low = let is : i + (j - i) ≡ j = omega arith in ap (λ n. 2 ^ n) (sym is) ∙ pow-add 2 i (j - i)

multiple_of : (p r s count from place : ℕ) → r ≡ p * s → from ≡ r * count → from ≡ p * (s * count)
multiple_of p r s count from place is at = at ∙ ap (λ r. r * count) is ∙ (let e : p * s * count ≡ p * (s * count) = omega arith in e)

-- a run of two and more, and the power of two at which it is split
pub record Halves (from len : ℕ) : Type 0 where
  pub power : ℕ
  pub count : ℕ
  pub point : split_point len ≡ 2 ^ power
  pub place : from ≡ 2 ^ power * count
  pub below : split_point len < len
  pub half : len ≤ 2 * split_point len

pub halves_of : (from len : ℕ) → 2 ≤ len → IsAligned from len → Halves from len
halves_of from len many a =
    let largest : IsLargestPowerBelow len (split_point len) = split_point-largest len many in
    let splits : Splits len (split_point len) = split_point-splits len many in
    let i : ℕ = largest.power.0 in
    let point : split_point len ≡ 2 ^ i = largest.power.1 in
    let less : i < a.power = less_power i a.power (omega (arith, splits.below, a.most, point)) in
    record {
      power = i;
      count = 2 ^ (a.power - i) * a.count;
      point = point;
      place = multiple_of (2 ^ i) (2 ^ a.power) (2 ^ (a.power - i)) a.count from 0 (power_parts i a.power (omega arith)) a.place;
      below = splits.below;
      half = splits.half;
    }

pub aligned_left : (from len k : ℕ) → 2 ≤ len → k ≡ split_point len → IsAligned from len → IsAligned from k
aligned_left from len k many is a = let h : Halves from len = halves_of from len many a in
    record { power = h.power; count = h.count; most = omega (arith, is, h.point); place = h.place }

pub aligned_right : (from len k : ℕ) → 2 ≤ len → k ≡ split_point len → IsAligned from len → IsAligned (from + k) (len - k)
aligned_right from len k many is a = let h : Halves from len = halves_of from len many a in
    record { power = h.power; count = h.count + 1; most = omega (arith, is, h.point, h.half); place = omega (arith, is, h.point, h.place) }

-- a whole subtree of two leaves and more stands at its middle
pub run_inner : (from len k : ℕ) (leaves inner : List (List ℕ)) → 2 ≤ len → k ≡ split_point len → len ≡ 2 * k → IsAligned from len → from + len ≤ length leaves → HasInner leaves inner
    → get_or inner (from + k) [] ≡ root_of_run leaves from len
run_inner from len k leaves inner many is whole a within has =
    let largest : IsLargestPowerBelow len (split_point len) = split_point-largest len many in
    let i : ℕ = largest.power.0 in
    let point : k ≡ 2 ^ i = is ∙ largest.power.1 in
    let len_is : len ≡ 2 ^ suc i = omega (arith, whole, point, two-pow-succ i) in
    let less : i < a.power = less_power i a.power (omega (arith, len_is, a.most, two-pow-succ i, pow_pos i)) in
    let q : ℕ = 2 ^ (a.power - suc i) * a.count in
    let place : from ≡ 2 ^ suc i * q = multiple_of (2 ^ suc i) (2 ^ a.power) (2 ^ (a.power - suc i)) a.count from 0 (power_parts (suc i) a.power (omega arith)) a.place in
    let twice : 2 ^ suc i * q ≡ 2 ^ i * q + 2 ^ i * q = ap (λ p. p * q) (two-pow-succ i) ∙ (let e : (2 ^ i + 2 ^ i) * q ≡ 2 ^ i * q + 2 ^ i * q = omega arith in e) in
    let middle : from + k ≡ 2 ^ i * (2 * q + 1) = omega (arith, place, twice, point) in
    let room : 2 ^ suc i * suc q ≤ length leaves = omega (arith, place, len_is, within) in
    ap (λ m. get_or inner m []) middle ∙ has i q room ∙ ap₂ (λ a b. root_of_run leaves a b) (sym place) (sym len_is)
