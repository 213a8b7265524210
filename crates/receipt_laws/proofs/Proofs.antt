-- The consistency proof of a log is within the limits of a receipt.
use Rattle.std.proofs.Common.{◌≡◌, ℕ, zero, suc, ◌-◌, ◌<◌, ◌≤◌, ◌^◌, true, false, Bool, List, [], ◌∷◌, ◌++◌, length, take, drop, sym, subst, inl, inr, arith}
use Rattle.std.proofs.lemmas.Bool.{cases_lt}
use Rattle.std.proofs.lemmas.List.{length-take, length-drop}
use Rattle.merkle_tree.specs.Mth.{split_point, mth}
use Rattle.merkle_tree.specs.Consistency.{proof_of, sub_of, unless_whole}
use Rattle.receipts.specs.Fits.{IsPath}
use Rattle.receipt_laws.proofs.Paths.{Splits, Hashes, parts, longer}

at_one : (known : Bool) (root : List ℕ) (j : ℕ) → length root ≡ 32 → Hashes (suc j) (unless_whole known root)
at_one true root j long = (omega arith, tt)
at_one false root j long = (omega arith, (long, tt))

module _ (split : Splits)
    (hash : (entries : List (List ℕ)) → length (mth entries) ≡ 32)
    (whole : (m : ℕ) (known : Bool) (entries : List (List ℕ)) → 0 < m → m ≡ length entries → sub_of m known entries ≡ unless_whole known (mth entries))
    (left : (m : ℕ) (known : Bool) (entries : List (List ℕ)) → 2 ≤ length entries → m < length entries → m ≤ split_point (length entries) → let k = split_point (length entries) in sub_of m known entries ≡ sub_of m known (take k entries) ++ mth (drop k entries) ∷ [])
    (right : (m : ℕ) (known : Bool) (entries : List (List ℕ)) → 2 ≤ length entries → m < length entries → split_point (length entries) < m → let k = split_point (length entries) in sub_of m known entries ≡ sub_of (m - k) false (drop k entries) ++ mth (take k entries) ∷ []) where
  one_tree : (j m : ℕ) (known : Bool) (entries : List (List ℕ)) → 0 < m → m ≡ length entries → Hashes (suc j) (sub_of m known entries)
  one_tree j m known entries some same = subst (Hashes (suc j)) (sym (whole m known entries some same)) (at_one known (mth entries) j (hash entries))

  sub_has : (j m : ℕ) (known : Bool) (entries : List (List ℕ)) → length entries ≤ 2 ^ j → 0 < m → m ≤ length entries → Hashes (suc j) (sub_of m known entries)
  sub_has zero m known entries few some within = one_tree zero m known entries some (omega (arith, few, some, within))
  sub_has (suc j) m known entries few some within = elim (cases_lt m (length entries)) [
    | inr above ↦ one_tree (suc j) m known entries some (omega (arith, above, within))
    | inl below ↦
        let k = split_point (length entries) in
        let two : 2 ≤ length entries = omega (arith, below, some) in
        let p = parts split j (length entries) two few in
        elim (cases_lt k m) [
          | inr before ↦ longer (sub_of m known (take k entries)) (mth (drop k entries)) (sub_of m known entries) (suc j) (left m known entries two below before) (hash (drop k entries)) (sub_has j m known (take k entries) (omega (arith, length-take k entries, p.front)) some (omega (arith, length-take k entries, p.below, before)))
          | inl behind ↦ longer (sub_of (m - k) false (drop k entries)) (mth (take k entries)) (sub_of m known entries) (suc j) (right m known entries two below behind) (hash (take k entries)) (sub_has j (m - k) false (drop k entries) (omega (arith, length-drop k entries, p.back)) (omega (arith, behind)) (omega (arith, length-drop k entries, below, behind)))
        ]
  ]

  -- in a tree of at most 65,536 leaves
  pub proof_is_path : (m : ℕ) (entries : List (List ℕ)) → length entries ≤ 65536 → 0 < m → m ≤ length entries → IsPath (proof_of m entries)
  proof_is_path m entries few some within = let has = sub_has 16 m true entries few some within in let short = has.0 in (omega (arith, short), has.1)
