-- The bytewise order, one byte at a time.
use Rattle.std.proofs.Common.{◌≡◌, ℕ, suc, ◌+◌, ◌-◌, ◌<◌, ◌≤◌, ◌⊎◌, inl, inr, Bool, true, false, ◌||◌, List, [], ◌∷◌, ◌++◌, length, drop, get_or, refl, sym, ◌∙◌, arith, nat_lt, ne_eqb, eq-eqb, le-ltb, lt-ltb}
use Rattle.std.proofs.lemmas.List.{drop_more, length-drop}
use Rattle.std.proofs.lemmas.Bool.{cases_lt}
use Rattle.cbor_core.specs.Bytes.{is_below}

or_false : (x : Bool) → (x || false) ≡ x
or_false true = refl
or_false false = refl

pub below-differs : (x y : ℕ) (xs ys : List ℕ) → (x ≡ y → ⊥) → is_below (x ∷ xs) (y ∷ ys) ≡ nat_lt x y
unfolding is_below
below-differs x y xs ys ne = rw (ne_eqb x y ne) (or_false (nat_lt x y))

pub below-same : (x : ℕ) (xs ys : List ℕ) → is_below (x ∷ xs) (x ∷ ys) ≡ is_below xs ys
unfolding is_below
below-same x xs ys = rw (le-ltb x x (omega arith), eq-eqb x x refl) refl

pub below_here : (a b : List ℕ) (i : ℕ) → i < length a → i < length b → (get_or a i 0 ≡ get_or b i 0 → ⊥) → is_below (drop i a) (drop i b) ≡ nat_lt (get_or a i 0) (get_or b i 0)
below_here a b i la lb ne = rw (drop_more a i 0 la, drop_more b i 0 lb) (below-differs (get_or a i 0) (get_or b i 0) (drop (i + 1) a) (drop (i + 1) b) ne)

pub below_more : (a b : List ℕ) (i : ℕ) → i < length a → i < length b → get_or a i 0 ≡ get_or b i 0 → is_below (drop i a) (drop i b) ≡ is_below (drop (i + 1) a) (drop (i + 1) b)
below_more a b i la lb e = rw (drop_more a i 0 la, drop_more b i 0 lb, e) (below-same (get_or b i 0) (drop (i + 1) a) (drop (i + 1) b))

lengths : (a b : List ℕ) → (length a ≡ 0) ⊎ (length b ≡ 0) → is_below a b ≡ nat_lt (length a) (length b)
unfolding is_below
lengths [] [] h = refl
lengths [] (y ∷ ys) h = sym (lt-ltb 0 (suc (length ys)) (omega arith))
lengths (x ∷ xs) [] h = sym (le-ltb (suc (length xs)) 0 (omega arith))
lengths (x ∷ xs) (y ∷ ys) (inl e) = absurd (omega arith)
lengths (x ∷ xs) (y ∷ ys) (inr e) = absurd (omega arith)

minus_lt : (m n i : ℕ) → i ≤ m → i ≤ n → nat_lt (m - i) (n - i) ≡ nat_lt m n
minus_lt m n i h k = elim (cases_lt m n) [ inl lt ↦ rw (lt-ltb m n lt) (lt-ltb (m - i) (n - i) (omega arith)) | inr le ↦ rw (le-ltb m n le) (le-ltb (m - i) (n - i) (omega arith)) ]

pub below_end : (a b : List ℕ) (i : ℕ) → i ≤ length a → i ≤ length b → (length a ≤ i) ⊎ (length b ≤ i) → is_below (drop i a) (drop i b) ≡ nat_lt (length a) (length b)
below_end a b i la lb h =
    let ends : (length (drop i a) ≡ 0) ⊎ (length (drop i b) ≡ 0) = elim h [ inl x ↦ inl (omega (arith, length-drop i a)) | inr x ↦ inr (omega (arith, length-drop i b)) ] in
    lengths (drop i a) (drop i b) ends ∙ rw (length-drop i a, length-drop i b) (minus_lt (length a) (length b) i la lb)

pub below-less : (x y : ℕ) (xs ys : List ℕ) → x < y → is_below (x ∷ xs) (y ∷ ys) ≡ true
below-less x y xs ys lt = below-differs x y xs ys (λ e. absurd (omega arith)) ∙ lt-ltb x y lt

pub below-more : (x y : ℕ) (xs ys : List ℕ) → y < x → is_below (x ∷ xs) (y ∷ ys) ≡ false
below-more x y xs ys lt = below-differs x y xs ys (λ e. absurd (omega arith)) ∙ le-ltb x y (omega arith)

pub below-itself : (xs : List ℕ) → is_below xs xs ≡ false
unfolding is_below
below-itself [] = refl
below-itself (x ∷ xs) = below-same x xs xs ∙ below-itself xs

pub below-behind : (front xs ys : List ℕ) → is_below (front ++ xs) (front ++ ys) ≡ is_below xs ys
below-behind [] xs ys = refl
below-behind (x ∷ front) xs ys = below-same x (front ++ xs) (front ++ ys) ∙ below-behind front xs ys

-- nothing is below a first byte
pub nil-below : (x : ℕ) (xs : List ℕ) → is_below [] (x ∷ xs) ≡ true
unfolding is_below
nil-below x xs = refl
