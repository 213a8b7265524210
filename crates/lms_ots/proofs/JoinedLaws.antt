-- Joined strings: one more at the end, their length, and each part of 32 bytes.
use Rattle.std.proofs.Common.{◌≡◌, ℕ, zero, suc, ◌+◌, List, [], ◌∷◌, ◌++◌, refl, ap, sym, ◌∙◌, arith, add-zero, append_assoc}
use Rattle.std.specs.List.{range_with_len, flat_map}
use Rattle.std.proofs.lemmas.Grind.{flat_map-append}
use Rattle.std.proofs.lemmas.List.{append-nil}
use Rattle.lms_ots.specs.Words.{joined}

range_more : (a n : ℕ) → range_with_len a (suc n) ≡ range_with_len a n ++ (a + n) ∷ []
range_more a zero = rw add-zero refl
range_more a (suc n) =
    let moved : (a + 1) + n ≡ a + suc n = omega arith in
    ap (λ xs. a ∷ xs) (rw moved at (range_more (a + 1) n))

pub joined_none : (f : ℕ → List ℕ) → joined f 0 ≡ []
unfolding joined
joined_none f = refl

pub joined_next : (f : ℕ → List ℕ) (n : ℕ) → joined f (suc n) ≡ joined f n ++ f n
unfolding joined
joined_next f n =
    let first : 0 + n ≡ n = omega arith in
    ap (flat_map f) (rw first at (range_more 0 n)) ∙ flat_map-append f (range_with_len 0 n) (n ∷ []) ∙ ap (λ xs. flat_map f (range_with_len 0 n) ++ xs) (append-nil (f n))

pub joined_more : (f : ℕ → List ℕ) (n : ℕ) → joined f (n + 1) ≡ joined f n ++ f n
joined_more f n =
    let next : n + 1 ≡ suc n = omega arith in
    rw next (joined_next f n)

-- what stood before, with one more string
pub joined_after : (before : List ℕ) (f : ℕ → List ℕ) (n : ℕ) (x : List ℕ) → x ≡ f n → (before ++ joined f n) ++ x ≡ before ++ joined f (n + 1)
joined_after before f n x e =
    append_assoc before (joined f n) x ∙ ap (λ xs. before ++ xs) (ap (λ y. joined f n ++ y) e ∙ sym (joined_more f n))

pub joined_start : (before : List ℕ) (f : ℕ → List ℕ) → before ++ joined f 0 ≡ before
joined_start before f = ap (λ xs. before ++ xs) (joined_none f) ∙ append-nil before
