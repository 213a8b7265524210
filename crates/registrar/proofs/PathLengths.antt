-- How long paths and consistency proofs are.
use Rattle.std.proofs.Common.{◌≡◌, ℕ, zero, suc, ◌+◌, ◌-◌, ◌<◌, ◌≤◌, ◌^◌, Bool, true, false, List, [], ◌∷◌, ◌++◌, length, take, drop, refl, ap, inl, inr, arith, length-append}
use Rattle.std.proofs.Math.Nat.{two-pow-succ, pow-le-pow_right}
use Rattle.std.proofs.lemmas.Bool.{cases_lt}
use Rattle.std.proofs.lemmas.List.{length-take, length-drop}
use Rattle.merkle_tree.specs.Mth.{split_point, mth, IsLargestPowerBelow}
use Rattle.merkle_tree.specs.Paths.{path_of, path_within}
use Rattle.merkle_tree.specs.Consistency.{sub_of, unless_whole}

-- a greater exponent has no smaller power
power_up : (i j : ℕ) → i ≤ j → 2 ^ i ≤ 2 ^ j
power_up i j h = pow-le-pow_right (omega arith) h

abbrev Splits : Type 0
Splits = (n : ℕ) → 2 ≤ n → IsLargestPowerBelow n (split_point n)

-- both parts of at most 2 ^ (j + 1) leaves have some, and at most 2 ^ j
record AreParts (j n k : ℕ) : Type 0 where
  pub front : k ≤ 2 ^ j
  pub back : n ≤ k + 2 ^ j
  pub below : k < n

parts : Splits → (j n : ℕ) → 2 ≤ n → n ≤ 2 ^ suc j → AreParts j n (split_point n)
parts split j n two few =
    let s = split n two in
    let k = split_point n in
    record {
      front = elim (cases_lt j s.power.0) [
        | inl past ↦ absurd (omega (arith, s.power.1, s.below, power_up (suc j) s.power.0 past))
        | inr within ↦ omega (arith, s.power.1, power_up s.power.0 j within)
      ];
      back = elim (cases_lt (2 ^ j) n) [
        | inl more ↦ omega (arith, s.largest j more, two-pow-succ j)
        | inr less ↦ omega arith
      ];
      below = s.below;
    }

small : ((m : ℕ) (entry : List ℕ) → path_of m (entry ∷ []) ≡ []) → (m : ℕ) (entries : List (List ℕ)) → length entries < 2 → path_of m entries ≡ []
unfolding path_of path_within
small one m [] low = refl
small one m (d ∷ []) low = one m d
small one m (d ∷ e ∷ rest) low = absurd (omega (arith, low))

longer : (xs : List (List ℕ)) (x : List ℕ) (all : List (List ℕ)) (n k : ℕ) → n + 1 ≤ k → all ≡ xs ++ x ∷ [] → length xs ≤ n → length all ≤ k
longer xs x all n k more e short = omega (arith, ap length e, length-append xs (x ∷ []), short)

module _ (split : Splits)
    (one : (m : ℕ) (entry : List ℕ) → path_of m (entry ∷ []) ≡ [])
    (left : (m : ℕ) (entries : List (List ℕ)) → 2 ≤ length entries → m < split_point (length entries) → let k = split_point (length entries) in path_of m entries ≡ path_of m (take k entries) ++ mth (drop k entries) ∷ [])
    (right : (m : ℕ) (entries : List (List ℕ)) → 2 ≤ length entries → split_point (length entries) ≤ m → let k = split_point (length entries) in path_of m entries ≡ path_of (m - k) (drop k entries) ++ mth (take k entries) ∷ []) where
  pub path_short : (j m : ℕ) (entries : List (List ℕ)) → length entries ≤ 2 ^ j → length (path_of m entries) ≤ j
  path_short zero m entries few = omega (arith, ap length (small one m entries (omega (arith, few))))
  path_short (suc j) m entries few = elim (cases_lt (length entries) 2) [
    | inl low ↦ omega (arith, ap length (small one m entries low))
    | inr two ↦
        let k = split_point (length entries) in
        let p = parts split j (length entries) two few in
        elim (cases_lt m k) [
          | inl before ↦ longer (path_of m (take k entries)) (mth (drop k entries)) (path_of m entries) j (suc j) (omega arith) (left m entries two before) (path_short j m (take k entries) (omega (arith, length-take k entries, p.front)))
          | inr behind ↦ longer (path_of (m - k) (drop k entries)) (mth (take k entries)) (path_of m entries) j (suc j) (omega arith) (right m entries two behind) (path_short j (m - k) (drop k entries) (omega (arith, length-drop k entries, p.back)))
        ]
  ]

unless_short : (known : Bool) (root : List ℕ) → length (unless_whole known root) ≤ 1
unless_short true root = omega arith
unless_short false root = omega arith

module _ (split : Splits)
    (whole : (m : ℕ) (known : Bool) (entries : List (List ℕ)) → 0 < m → m ≡ length entries → sub_of m known entries ≡ unless_whole known (mth entries))
    (left : (m : ℕ) (known : Bool) (entries : List (List ℕ)) → 2 ≤ length entries → m < length entries → m ≤ split_point (length entries) → let k = split_point (length entries) in sub_of m known entries ≡ sub_of m known (take k entries) ++ mth (drop k entries) ∷ [])
    (right : (m : ℕ) (known : Bool) (entries : List (List ℕ)) → 2 ≤ length entries → m < length entries → split_point (length entries) < m → let k = split_point (length entries) in sub_of m known entries ≡ sub_of (m - k) false (drop k entries) ++ mth (take k entries) ∷ []) where
  at_whole : (m : ℕ) (known : Bool) (entries : List (List ℕ)) (n : ℕ) → 0 < m → m ≡ length entries → length (sub_of m known entries) ≤ n + 1
  at_whole m known entries n some e = omega (arith, ap length (whole m known entries some e), unless_short known (mth entries))

  pub sub_short : (j m : ℕ) (known : Bool) (entries : List (List ℕ)) → 0 < m → m ≤ length entries → length entries ≤ 2 ^ j → length (sub_of m known entries) ≤ j + 1
  sub_short zero m known entries some inside few = at_whole m known entries zero some (omega (arith, few))
  sub_short (suc j) m known entries some inside few = elim (cases_lt m (length entries)) [
    | inr same ↦ at_whole m known entries (suc j) some (omega arith)
    | inl less ↦
        let two : 2 ≤ length entries = omega arith in
        let k = split_point (length entries) in
        let p = parts split j (length entries) two few in
        elim (cases_lt k m) [
          | inl behind ↦ longer (sub_of (m - k) false (drop k entries)) (mth (take k entries)) (sub_of m known entries) (j + 1) (suc j + 1) (omega arith) (right m known entries two less behind)
              (sub_short j (m - k) false (drop k entries) (omega arith) (omega (arith, length-drop k entries)) (omega (arith, length-drop k entries, p.back)))
          | inr before ↦ longer (sub_of m known (take k entries)) (mth (drop k entries)) (sub_of m known entries) (j + 1) (suc j + 1) (omega arith) (left m known entries two less before)
              (sub_short j m known (take k entries) some (omega (arith, length-take k entries, p.below)) (omega (arith, length-take k entries, p.front)))
        ]
  ]
