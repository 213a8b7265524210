-- What a consistency receipt that fails no rule means.
use Rattle.std.proofs.Common.{◌≡◌, ℕ, Bool, true, false, not, ◌||◌, ◌&&◌, List, [], ◌∷◌, length, take, Option, Some, None, refl, sym, ap, ◌∙◌, subst}
use Rattle.std.specs.Prelude.{◌==◌, nat_lt, nat_le, is_none, option_map, option_and_then, unwrap_or}
use Rattle.std.specs.Str.{bytes_eq}
use Rattle.std.proofs.lemmas.Bool.{and_parts, eqb-true}
use Rattle.std.proofs.lemmas.Slice.Eq.{bytes_eq-Decides}
use Rattle.cbor_core.specs.Rows.{first_row}
use Rattle.merkle_tree.specs.Mth.{mth}
use Rattle.merkle_tree.specs.Consistency.{roots_from}
use Rattle.merkle_tree.specs.Inputs.{Collides, proof_inputs, tree_inputs}
use Rattle.receipts.specs.declared.receipt.Receipt.{Receipt}
use Rattle.receipts.specs.declared.receipt.Proof.{Proof}
use Rattle.receipts.specs.declared.receipt.Proof.TheVariants.{Inclusion, Consistency}
use Rattle.receipts.specs.Form.{receipt_of}
use Rattle.relying_party.specs.declared.trust.Trust.{Trust}
use Rattle.relying_party.specs.declared.answers.ConsistencyResult.TheVariants.{Consistent, Refused}
use Rattle.relying_party.specs.Accepts.{service_key, is_signed}
use Rattle.relying_party.specs.Growth.{Grown, grown_by, has_new_size, has_old_size, roots_of, has_old_root, growth_by}
use Rattle.relying_party.specs.Meaning.{MeansGrowth, ReceiptsMeanGrowth}

-- the tree's law: two lists whose roots are joined by a proof begin alike
abbrev pub Joined : Type 0
Joined = (m n : ℕ) (old : List ℕ) (roots : List ℕ × List ℕ) (path entries more : List (List ℕ)) → roots_from m n old path ≡ Some roots
    → length entries ≡ m → length more ≡ n → mth entries ≡ roots.0 → mth more ≡ roots.1
    → (Collides (proof_inputs m n old path) (tree_inputs entries) → ⊥)
    → (Collides (proof_inputs m n old path) (tree_inputs more) → ⊥)
    → (Collides (tree_inputs entries) (tree_inputs more) → ⊥)
    → take m more ≡ entries

not_false : (b : Bool) → not b ≡ false → b ≡ true
not_false true e = refl
not_false false e = sym e

module _ (joined : Joined) (trust : Trust) (bytes : List ℕ) (given : ℕ) (given_root : List ℕ) (r : Receipt) (read : receipt_of bytes ≡ Some r) where
  by_rows : (old size : ℕ) (path : List (List ℕ)) → r.proof ≡ Consistency old size path
      → (key : Option (List ℕ)) (b4 b5 : Bool) (roots : Option (List ℕ × List ℕ)) (b6 b7 : Bool)
      → not (has_old_size given (Some (record { old = old; size = size; path = path }))) ≡ b5 → roots_from old size given_root path ≡ roots → not (has_old_root given_root roots) ≡ b6
      → MeansGrowth bytes given given_root (unwrap_or (option_map Refused (first_row ((false, 1) ∷ (false, 2) ∷ (is_none key, 3) ∷ (b4, 4) ∷ (b5, 5) ∷ (is_none roots || b6, 6) ∷ (b7, 7) ∷ []))) (Consistent size (unwrap_or (option_map (λ (x : List ℕ × List ℕ). x.1) roots) [])))
  by_rows old size path is None b4 b5 roots b6 b7 sizes leads same = tt
  by_rows old size path is (Some key) true b5 roots b6 b7 sizes leads same = tt
  by_rows old size path is (Some key) false true roots b6 b7 sizes leads same = tt
  by_rows old size path is (Some key) false false None b6 b7 sizes leads same = tt
  by_rows old size path is (Some key) false false (Some roots) true b7 sizes leads same = tt
  by_rows old size path is (Some key) false false (Some roots) false true sizes leads same = tt
  by_rows old size path is (Some key) false false (Some roots) false false sizes leads same =
      let rest = nat_lt 0 old && nat_le old size in
      let parts = and_parts (old == given) rest (not_false (old == given && rest) sizes) in
      let at : old ≡ given = eqb-true old given parts.0 in
      let front : roots.0 ≡ given_root = (bytes_eq-Decides roots.0 given_root).0 (not_false (bytes_eq roots.0 given_root) same) in
      let joins : roots_from given size given_root path ≡ Some roots = subst (λ (n : ℕ). roots_from n size given_root path ≡ Some roots) at leads in (
        path,
        (r, read, is ∙ ap (λ (n : ℕ). Consistency n size path) at),
        λ entries more m n one two a b c. joined given size given_root roots path entries more joins m n (one ∙ sym front) two a b c,
      )

  by_proof : (p : Proof) → r.proof ≡ p → MeansGrowth bytes given given_root (growth_by trust given given_root (Some r) (grown_by p))
  by_proof (Inclusion size index path at rule) is = tt
  by_proof (Consistency old size path) is =
      let g : Grown = record { old = old; size = size; path = path } in
      let roots = roots_of given_root g in
      by_rows old size path is (service_key trust r) (not (has_new_size (Some r) (Some g))) (not (has_old_size given (Some g))) roots (not (has_old_root given_root roots)) (not (is_signed (service_key trust r) (Some r) (option_map (λ (x : List ℕ × List ℕ). x.1) roots))) refl refl refl

by_read : Joined → (trust : Trust) (bytes : List ℕ) (given : ℕ) (given_root : List ℕ) (o : Option Receipt) → receipt_of bytes ≡ o
    → MeansGrowth bytes given given_root (growth_by trust given given_root o (option_and_then (λ (r : Receipt). grown_by r.proof) o))
by_read joined trust bytes given given_root None read = tt
by_read joined trust bytes given given_root (Some r) read = by_proof joined trust bytes given given_root r read r.proof refl

pub receipts_mean_growth : Joined → ReceiptsMeanGrowth
receipts_mean_growth joined trust bytes given given_root = by_read joined trust bytes given given_root (receipt_of bytes) refl
