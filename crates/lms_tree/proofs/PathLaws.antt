-- The path of a signature, hash by hash.
use Rattle.std.proofs.Common.{◌≡◌, ℕ, ◌+◌, ◌*◌, ◌/◌, ◌<◌, List, [], ◌∷◌, ◌++◌, length, get_or, drop, refl, ap, sym, ◌∙◌, arith, append_assoc}
use Rattle.std.proofs.lemmas.List.{append-nil, drop_more, drop_all}
use Rattle.std.proofs.lemmas.List.FromFn.{length-map-range_with_len, get_or-map-range_with_len}
use Rattle.lms_ots.specs.Words.{part, joined}
use Rattle.lms_ots.specs.Laws.{WordLaws}
use Rattle.lms_tree.specs.Verifies.{above, hashes, root_from}

pub length-hashes : (s : List ℕ) (k n : ℕ) → length (hashes s k n) ≡ n
unfolding hashes
length-hashes s k n = length-map-range_with_len (λ i. part s (k + 32 * i) 32) 0 n

pub hash_read : (s : List ℕ) (k n i : ℕ) → i < n → get_or (hashes s k n) i [] ≡ part s (k + 32 * i) 32
unfolding hashes
hash_read s k n i h = get_or-map-range_with_len (λ j. part s (k + 32 * j) 32) 0 n i i [] h (omega arith)

-- the rest of a path begins with its next hash
pub hashes_next : (s : List ℕ) (k n i : ℕ) → i < n → drop i (hashes s k n) ≡ part s (k + 32 * i) 32 ∷ drop (i + 1) (hashes s k n)
hashes_next s k n i h =
    let within : i < length (hashes s k n) = omega (arith, length-hashes s k n) in
    drop_more (hashes s k n) i [] within ∙ ap (λ x. x ∷ drop (i + 1) (hashes s k n)) (hash_read s k n i h)

pub hashes_ended : (s : List ℕ) (k n : ℕ) → drop n (hashes s k n) ≡ []
hashes_ended s k n = drop_all n (hashes s k n) (omega (arith, length-hashes s k n))

pub root_from_next : (id : List ℕ) (r : ℕ) (value beside : List ℕ) (path : List (List ℕ)) → root_from id r value (beside ∷ path) ≡ root_from id (r / 2) (above id r value beside) path
unfolding root_from
root_from_next id r value beside path = refl

pub root_from_ended : (id : List ℕ) (r : ℕ) (value : List ℕ) → root_from id r value [] ≡ value
unfolding root_from
root_from_ended id r value = refl

-- a path that is written behind `before`: none of it, and one hash more
module _ (words : WordLaws) (before : List ℕ) (path : ℕ → List ℕ) where
  pub path_begun : before ≡ before ++ joined path 0
  path_begun = sym (ap (λ xs. before ++ xs) (words.joined_none path) ∙ append-nil before)

  pub path_longer : (n : ℕ) (x : List ℕ) → x ≡ path n → (before ++ joined path n) ++ x ≡ before ++ joined path (n + 1)
  path_longer n x e =
      append_assoc before (joined path n) x ∙ ap (λ xs. before ++ xs) (ap (λ y. joined path n ++ y) e ∙ sym (words.joined_more path n))
