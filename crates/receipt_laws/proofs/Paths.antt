-- The path of an entry of a log is within the limits of a receipt.
use Rattle.std.proofs.Common.{◌≡◌, ℕ, zero, suc, ◌+◌, ◌-◌, ◌<◌, ◌≤◌, ◌^◌, List, [], ◌∷◌, ◌++◌, length, take, drop, refl, sym, ap, ◌∙◌, subst, inl, inr, arith, length-append}
use Rattle.std.proofs.Math.Nat.{two-pow-succ, pow-le-pow_right}
use Rattle.std.proofs.lemmas.Bool.{cases_lt}
use Rattle.std.proofs.lemmas.List.{length-take, length-drop}
use Rattle.sha2.specs.Sha256.{sha256}
use Rattle.sha2.proofs.Facts256.{length-sha256}
use Rattle.merkle_tree.specs.Mth.{split_point, mth, IsLargestPowerBelow}
use Rattle.merkle_tree.specs.Paths.{path_of, path_within}
use Rattle.receipts.specs.Fits.{AreHashes, IsPath}

-- a greater exponent has no smaller power
power_up : (i j : ℕ) → i ≤ j → 2 ^ i ≤ 2 ^ j
power_up i j h = pow-le-pow_right (omega arith) h

abbrev pub Splits : Type 0
Splits = (n : ℕ) → 2 ≤ n → IsLargestPowerBelow n (split_point n)

-- both parts of at most 2 ^ (j + 1) leaves have some, and at most 2 ^ j
pub record AreParts (j n k : ℕ) : Type 0 where
  pub front : k ≤ 2 ^ j
  pub back : n ≤ k + 2 ^ j
  pub below : k < n

pub parts : Splits → (j n : ℕ) → 2 ≤ n → n ≤ 2 ^ suc j → AreParts j n (split_point n)
parts split j n two few =
    let s = split n two in
    record {
      front = elim (cases_lt j s.power.0) [
        | inl past ↦ absurd (omega (arith, s.power.1, s.below, power_up (suc j) s.power.0 past))
        | inr within ↦ omega (arith, s.power.1, power_up s.power.0 j within)
      ];
      back = elim (cases_lt (2 ^ j) n) [
        | inl more ↦ omega (arith, s.largest j more, two-pow-succ j)
        | inr less ↦ omega arith
      ];
      below = s.below;
    }

-- at most so many hashes
abbrev pub Hashes : ℕ → List (List ℕ) → Type 0
Hashes j path = (length path ≤ j) × AreHashes path

hashes_more : (xs : List (List ℕ)) (x : List ℕ) → AreHashes xs → length x ≡ 32 → AreHashes (xs ++ x ∷ [])
hashes_more [] x are long = (long, tt)
hashes_more (y ∷ ys) x are long = (are.0, hashes_more ys x are.1 long)

no_hashes : (j : ℕ) (path : List (List ℕ)) → path ≡ [] → Hashes j path
no_hashes j path e = subst (Hashes j) (sym e) (omega arith, tt)

pub longer : (xs : List (List ℕ)) (x : List ℕ) (all : List (List ℕ)) (n : ℕ) → all ≡ xs ++ x ∷ [] → length x ≡ 32 → Hashes n xs → Hashes (suc n) all
longer xs x all n e long (short, are) =
    subst (Hashes (suc n)) (sym e) (omega (arith, length-append xs (x ∷ []), short), hashes_more xs x are long)

small : ((m : ℕ) (entry : List ℕ) → path_of m (entry ∷ []) ≡ []) → (m : ℕ) (entries : List (List ℕ)) → length entries < 2 → path_of m entries ≡ []
unfolding path_of path_within
small one m [] low = refl
small one m (d ∷ []) low = one m d
small one m (d ∷ e ∷ rest) low = absurd (omega (arith, low))

module _ (empty : mth [] ≡ sha256 [])
    (single : (entry : List ℕ) → mth (entry ∷ []) ≡ sha256 (0 ∷ entry))
    (more : (entries : List (List ℕ)) → 2 ≤ length entries → let k = split_point (length entries) in mth entries ≡ sha256 (1 ∷ mth (take k entries) ++ mth (drop k entries))) where
  -- a root is a hash
  pub root_is_hash : (entries : List (List ℕ)) → length (mth entries) ≡ 32
  root_is_hash [] = ap length empty ∙ length-sha256 []
  root_is_hash (d ∷ []) = ap length (single d) ∙ length-sha256 (0 ∷ d)
  root_is_hash (d ∷ e ∷ rest) = ap length (more (d ∷ e ∷ rest) (omega arith)) ∙ length-sha256 _

module _ (split : Splits)
    (hash : (entries : List (List ℕ)) → length (mth entries) ≡ 32)
    (one : (m : ℕ) (entry : List ℕ) → path_of m (entry ∷ []) ≡ [])
    (left : (m : ℕ) (entries : List (List ℕ)) → 2 ≤ length entries → m < split_point (length entries) → let k = split_point (length entries) in path_of m entries ≡ path_of m (take k entries) ++ mth (drop k entries) ∷ [])
    (right : (m : ℕ) (entries : List (List ℕ)) → 2 ≤ length entries → split_point (length entries) ≤ m → let k = split_point (length entries) in path_of m entries ≡ path_of (m - k) (drop k entries) ++ mth (take k entries) ∷ []) where
  path_has : (j m : ℕ) (entries : List (List ℕ)) → length entries ≤ 2 ^ j → Hashes j (path_of m entries)
  path_has zero m entries few = no_hashes zero (path_of m entries) (small one m entries (omega (arith, few)))
  path_has (suc j) m entries few = elim (cases_lt (length entries) 2) [
    | inl low ↦ no_hashes (suc j) (path_of m entries) (small one m entries low)
    | inr two ↦
        let k = split_point (length entries) in
        let p = parts split j (length entries) two few in
        elim (cases_lt m k) [
          | inl before ↦ longer (path_of m (take k entries)) (mth (drop k entries)) (path_of m entries) j (left m entries two before) (hash (drop k entries)) (path_has j m (take k entries) (omega (arith, length-take k entries, p.front)))
          | inr behind ↦ longer (path_of (m - k) (drop k entries)) (mth (take k entries)) (path_of m entries) j (right m entries two behind) (hash (take k entries)) (path_has j (m - k) (drop k entries) (omega (arith, length-drop k entries, p.back)))
        ]
  ]

  -- in a tree of at most 65,536 leaves
  pub path_is_path : (m : ℕ) (entries : List (List ℕ)) → length entries ≤ 65536 → IsPath (path_of m entries)
  path_is_path m entries few = let has = path_has 16 m entries few in let short = has.0 in (omega (arith, short), has.1)
