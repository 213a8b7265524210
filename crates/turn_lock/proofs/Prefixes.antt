-- Lists that begin a list.
use Rattle.std.proofs.Common.{◌≡◌, ℕ, ◌<◌, ◌≤◌, ◌⊎◌, List, [], ◌∷◌, ◌++◌, length, take, Bool, true, false, refl, sym, ap₂, subst, inl, inr, arith, nat_lt}
use Rattle.std.proofs.lemmas.Bool.{ltb-true, ltb-false}
use mathlib.Core.List.{IsPrefix}
use base.Growing.{prefix_refl}
use Rattle.turn_lock.specs.Told.{Told, longer, Begin}

-- of two beginnings of one list the shorter begins the longer
pub prefix_of_two : (xs ys zs : Told) → IsPrefix xs zs → IsPrefix ys zs → length xs ≤ length ys → IsPrefix xs ys
prefix_of_two [] ys zs p q short = (ys, refl)
prefix_of_two (x ∷ xs) [] zs p q short = absurd (omega arith)
prefix_of_two (x ∷ xs) (y ∷ ys) [] p q short = let e : x ∷ (xs ++ p.0) ≡ [] = p.1 in absurd (cc)
prefix_of_two (x ∷ xs) (y ∷ ys) (z ∷ zs) p q short =
    let e : x ∷ (xs ++ p.0) ≡ z ∷ zs = p.1 in
    let f : y ∷ (ys ++ q.0) ≡ z ∷ zs = q.1 in
    let head : x ≡ y = cc in
    let front : xs ++ p.0 ≡ zs = cc in
    let back : ys ++ q.0 ≡ zs = cc in
    let rest : IsPrefix xs ys = prefix_of_two xs ys zs (p.0, front) (q.0, back) (omega arith) in
    (rest.0, ap₂ (λ (a : List ℕ) (b : Told). a ∷ b) head rest.1)

longer_cases : (xs ys : Told) → ((longer xs ys ≡ ys) × (length xs < length ys)) ⊎ ((longer xs ys ≡ xs) × (length ys ≤ length xs))
longer_cases xs ys = by_test (nat_lt (length xs) (length ys)) refl
  where
    by_test : (b : Bool) → nat_lt (length xs) (length ys) ≡ b → ((longer xs ys ≡ ys) × (length xs < length ys)) ⊎ ((longer xs ys ≡ xs) × (length ys ≤ length xs))
    by_test true is = inl (rw is refl, ltb-true (length xs) (length ys) is)
    by_test false is = inr (rw is refl, ltb-false (length xs) (length ys) is)

-- the longer of two beginnings begins the list too
pub longer_within : (xs ys zs : Told) → IsPrefix xs zs → IsPrefix ys zs → IsPrefix (longer xs ys) zs
longer_within xs ys zs p q = elim (longer_cases xs ys) [
  | inl is ↦ subst (λ (l : Told). IsPrefix l zs) (sym is.0) q
  | inr is ↦ subst (λ (l : Told). IsPrefix l zs) (sym is.0) p
]

-- and each of the two begins the longer one
pub to_longer : (xs ys zs : Told) → IsPrefix xs zs → IsPrefix ys zs → Begin (xs ∷ ys ∷ []) (longer xs ys)
to_longer xs ys zs p q = elim (longer_cases xs ys) [
  | inl is ↦ subst (λ (l : Told). Begin (xs ∷ ys ∷ []) l) (sym is.0) (prefix_of_two xs ys zs p q (omega (arith, is.1)), (prefix_refl ys, tt))
  | inr is ↦ subst (λ (l : Told). Begin (xs ∷ ys ∷ []) l) (sym is.0) (prefix_refl xs, (prefix_of_two ys xs zs q p is.1, tt))
]

-- the longer list is one of the two, and the other begins it
pub longer_of : (xs ys : Told) → Begin (xs ∷ ys ∷ []) (longer xs ys) → (IsPrefix xs ys × (longer xs ys ≡ ys)) ⊎ (IsPrefix ys xs × (longer xs ys ≡ xs))
longer_of xs ys notes = elim (longer_cases xs ys) [
  | inl is ↦ inl (subst (λ (l : Told). IsPrefix xs l) is.0 notes.0, is.0)
  | inr is ↦ inr (subst (λ (l : Told). IsPrefix ys l) is.0 notes.1.0, is.0)
]

pub longer_short : (xs ys : Told) (n : ℕ) → length xs < n → length ys < n → length (longer xs ys) < n
longer_short xs ys n p q = elim (longer_cases xs ys) [
  | inl is ↦ subst (λ (l : Told). length l < n) (sym is.0) q
  | inr is ↦ subst (λ (l : Told). length l < n) (sym is.0) p
]

-- a beginning is what the list is cut to at its length
pub prefix-take : (xs ys : Told) → IsPrefix xs ys → take (length xs) ys ≡ xs
prefix-take [] ys p = refl
prefix-take (x ∷ xs) [] p = let e : x ∷ (xs ++ p.0) ≡ [] = p.1 in absurd (cc)
prefix-take (x ∷ xs) (y ∷ ys) p =
    let e : x ∷ (xs ++ p.0) ≡ y ∷ ys = p.1 in
    let head : y ≡ x = cc in
    let rest : xs ++ p.0 ≡ ys = cc in
    ap₂ (λ (a : List ℕ) (b : Told). a ∷ b) head (prefix-take xs ys (p.0, rest))
