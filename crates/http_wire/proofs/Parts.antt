-- The parts of a value, one after another.
use Rattle.std.proofs.Common.{◌≡◌, ℕ, suc, ◌+◌, ◌<◌, ◌||◌, List, [], ◌∷◌, length, drop, Bool, true, false, ◌==◌, if◌then◌else◌, refl, sym, ap, ◌∙◌, arith, codes}
use Rattle.std.specs.List.{list_any}
use Rattle.http_wire.specs.Tokens.{before, wider, parts_of, is_token, closes}

first_at : (b : ℕ) (bs : List ℕ) (test : Bool) → ((more : List (List ℕ)) × (parts_of bs ≡ before 44 bs ∷ more))
    → (more : List (List ℕ)) × ((if test then [] ∷ parts_of bs else wider b (parts_of bs)) ≡ (if test then [] else b ∷ before 44 bs) ∷ more)
first_at b bs true rest = (parts_of bs, refl)
first_at b bs false rest = (rest.0, ap (wider b) rest.1)

-- the part in front is what stands before the first comma
first_is : (xs : List ℕ) → (more : List (List ℕ)) × (parts_of xs ≡ before 44 xs ∷ more)
first_is [] = ([], refl)
first_is (b ∷ bs) = first_at b bs (b == 44) (first_is bs)

one_at : (b : ℕ) (bs : List ℕ) (test : Bool) → (length (before 44 bs) ≡ length bs → parts_of bs ≡ before 44 bs ∷ [])
    → length (if test then [] else b ∷ before 44 bs) ≡ length (b ∷ bs)
    → (if test then [] ∷ parts_of bs else wider b (parts_of bs)) ≡ (if test then [] else b ∷ before 44 bs) ∷ []
one_at b bs true rest e = absurd (omega (arith, e))
one_at b bs false rest e = ap (wider b) (rest (omega (arith, e)))

-- there is no comma
one_part : (xs : List ℕ) → length (before 44 xs) ≡ length xs → parts_of xs ≡ before 44 xs ∷ []
one_part [] e = refl
one_part (b ∷ bs) e = one_at b bs (b == 44) (one_part bs) e

more_at : (b : ℕ) (bs : List ℕ) (test : Bool)
    → (length (before 44 bs) < length bs → parts_of bs ≡ before 44 bs ∷ parts_of (drop (length (before 44 bs) + 1) bs))
    → length (if test then [] else b ∷ before 44 bs) < length (b ∷ bs)
    → (if test then [] ∷ parts_of bs else wider b (parts_of bs))
    ≡ (if test then [] else b ∷ before 44 bs) ∷ parts_of (drop (length (if test then [] else b ∷ before 44 bs) + 1) (b ∷ bs))
more_at b bs true rest h = refl
more_at b bs false rest h =
    let one : length (b ∷ before 44 bs) + 1 ≡ suc (length (before 44 bs) + 1) = omega arith in
    ap (wider b) (rest (omega (arith, h))) ∙ ap (λ (n : ℕ). (b ∷ before 44 bs) ∷ parts_of (drop n (b ∷ bs))) (sym one)

-- there is one, behind the first part
more_parts : (xs : List ℕ) → length (before 44 xs) < length xs → parts_of xs ≡ before 44 xs ∷ parts_of (drop (length (before 44 xs) + 1) xs)
more_parts [] h = absurd (omega (arith, h))
more_parts (b ∷ bs) h = more_at b bs (b == 44) (more_parts bs) h

-- the first part asks to close
pub closes_first : (xs part : List ℕ) → part ≡ before 44 xs → is_token (codes "close") part ≡ true → closes xs ≡ true
closes_first xs part is hit =
    let first = first_is xs in
    ap (list_any (is_token (codes "close"))) first.1 ∙ ap (λ (t : Bool). t || list_any (is_token (codes "close")) first.0) (ap (is_token (codes "close")) (sym is) ∙ hit)

-- the only part doesn't
pub closes_not : (xs part : List ℕ) → part ≡ before 44 xs → length part ≡ length xs → is_token (codes "close") part ≡ false → closes xs ≡ false
closes_not xs part is whole miss =
    ap (list_any (is_token (codes "close"))) (one_part xs (ap length (sym is) ∙ whole)) ∙ ap (λ (t : Bool). t || false) (ap (is_token (codes "close")) (sym is) ∙ miss)

-- the first part doesn't, and others follow
pub closes_behind : (xs part rest : List ℕ) → part ≡ before 44 xs → length part < length xs → rest ≡ drop (length part + 1) xs → is_token (codes "close") part ≡ false
    → closes xs ≡ closes rest
closes_behind xs part rest is some behind miss =
    let sized : length part ≡ length (before 44 xs) = ap length is in
    let behind_is : rest ≡ drop (length (before 44 xs) + 1) xs = behind ∙ ap (λ (n : ℕ). drop (n + 1) xs) sized in
    ap (list_any (is_token (codes "close"))) (more_parts xs (omega (arith, sized, some)))
    ∙ ap (λ (t : Bool). t || closes (drop (length (before 44 xs) + 1) xs)) (ap (is_token (codes "close")) (sym is) ∙ miss)
    ∙ ap closes (sym behind_is)
