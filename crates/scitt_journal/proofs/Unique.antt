use Rattle.std.proofs.Common.{◌≡◌, ◌≢◌, ℕ, ◌^◌, ◌<◌, ◌≤◌, List, [], ◌∷◌, ◌++◌, length, take, drop, get_or, refl, ap, sym, ◌∙◌, inl, inr, arith, append_assoc, length-append}
use Rattle.std.proofs.lemmas.Nat.{from_be_bytes-to_be_bytes_4}
use Rattle.std.proofs.lemmas.List.{take_at, drop_at}
use Rattle.scitt_journal.specs.Layout.{size_bytes, size_in, sized, spelled, AllFit, NoLog, RecordsOf, Short, CutAfter, Cut, Recovers}
use Rattle.scitt_journal.proofs.Gates.{length-size_bytes, length-sized}

size_in-size_bytes : (n : ℕ) → n < 2 ^ 32 → size_in (size_bytes n) ≡ n
unfolding size_in size_bytes
size_in-size_bytes n fits = from_be_bytes-to_be_bytes_4 n fits

-- the first byte, and the rest, of two equal lists
first_of : (x y : ℕ) (xs ys : List ℕ) → x ∷ xs ≡ y ∷ ys → x ≡ y
first_of x y xs ys e = cc

rest_of : (x y : ℕ) (xs ys : List ℕ) → x ∷ xs ≡ y ∷ ys → xs ≡ ys
rest_of x y xs ys e = cc

-- what a record and what follows it begin with
size_at : (body tail : List ℕ) → take 4 (sized body ++ tail) ≡ size_bytes (length body)
size_at body tail =
    ap (take 4) (append_assoc (size_bytes (length body)) body tail) ∙ take_at (size_bytes (length body)) (body ++ tail) 4 (length-size_bytes (length body))

after_size : (body tail : List ℕ) → drop 4 (sized body ++ tail) ≡ body ++ tail
after_size body tail =
    ap (drop 4) (append_assoc (size_bytes (length body)) body tail) ∙ drop_at (size_bytes (length body)) (body ++ tail) 4 (length-size_bytes (length body))

same_size : (a b p q : List ℕ) → length a < 2 ^ 32 → length b < 2 ^ 32 → sized a ++ p ≡ sized b ++ q → length a ≡ length b
same_size a b p q fits_a fits_b e =
    sym (size_in-size_bytes (length a) fits_a) ∙ ap size_in (sym (size_at a p) ∙ ap (take 4) e ∙ size_at b q) ∙ size_in-size_bytes (length b) fits_b

same_after : (a b p q : List ℕ) → sized a ++ p ≡ sized b ++ q → a ++ p ≡ b ++ q
same_after a b p q e = sym (after_size a p) ∙ ap (drop 4) e ∙ after_size b q

same_body : (a b p q : List ℕ) → length a < 2 ^ 32 → length b < 2 ^ 32 → sized a ++ p ≡ sized b ++ q → a ≡ b
same_body a b p q fits_a fits_b e =
    let size = same_size a b p q fits_a fits_b e in
    sym (take_at a p (length a) refl) ∙ ap (take (length a)) (same_after a b p q e) ∙ take_at b q (length a) (sym size)

same_tail : (a b p q : List ℕ) → length a < 2 ^ 32 → length b < 2 ^ 32 → sized a ++ p ≡ sized b ++ q → p ≡ q
same_tail a b p q fits_a fits_b e =
    let size = same_size a b p q fits_a fits_b e in
    sym (drop_at a p (length a) refl) ∙ ap (drop (length a)) (same_after a b p q e) ∙ drop_at b q (length a) (sym size)

-- the bytes after an open gate
pub opened_as : (body : List ℕ) (bodies : List (List ℕ)) (tail : List ℕ) → spelled (body ∷ bodies) ++ tail ≡ 1 ∷ (sized body ++ (spelled bodies ++ tail))
opened_as body bodies tail = ap (λ rest. 1 ∷ rest) (append_assoc (sized body) (spelled bodies) tail)

-- two lists of records with gates that aren't open behind them are one
record Same (a b : List (List ℕ)) (x y : List ℕ) : Type 0 where
  bodies : a ≡ b
  behind : x ≡ y

unique : (a b : List (List ℕ)) (g h : ℕ) (x y : List ℕ) → g ≢ 1 → h ≢ 1 → AllFit a → AllFit b → spelled a ++ g ∷ x ≡ spelled b ++ h ∷ y → Same a b x y
unique [] [] g h x y shut_g shut_h fit_a fit_b e =
    record { bodies = refl; behind = rest_of g h x y e }
unique [] (body ∷ b) g h x y shut_g shut_h fit_a fit_b e =
    absurd (shut_g (first_of g 1 x (sized body ++ (spelled b ++ h ∷ y)) (e ∙ opened_as body b (h ∷ y))))
unique (body ∷ a) [] g h x y shut_g shut_h fit_a fit_b e =
    absurd (shut_h (first_of h 1 y (sized body ++ (spelled a ++ g ∷ x)) (sym e ∙ opened_as body a (g ∷ x))))
unique (one ∷ a) (two ∷ b) g h x y shut_g shut_h fit_a fit_b e =
    let rests = rest_of 1 1 (sized one ++ (spelled a ++ g ∷ x)) (sized two ++ (spelled b ++ h ∷ y)) (sym (opened_as one a (g ∷ x)) ∙ e ∙ opened_as two b (h ∷ y)) in
    let more = unique a b g h x y shut_g shut_h fit_a.1 fit_b.1 (same_tail one two _ _ fit_a.0 fit_b.0 rests) in
    record {
      bodies = ap (λ first. first ∷ a) (same_body one two _ _ fit_a.0 fit_b.0 rests) ∙ ap (λ others. two ∷ others) more.bodies;
      behind = more.behind;
    }

pub records_unique : (bytes : List ℕ) (bodies others : List (List ℕ)) (rest left : ℕ) → RecordsOf bytes bodies rest → RecordsOf bytes others left → (bodies ≡ others) × (rest ≡ left)
records_unique bytes bodies others rest left one two =
    let same = unique bodies others one.gate two.gate one.behind two.behind one.shut two.shut one.fit two.fit (sym one.is ∙ two.is) in
    (same.bodies, sym one.left ∙ ap length same.behind ∙ two.left)

-- a file with records has six bytes and an open first gate
begins_open : (bodies : List (List ℕ)) (tail : List ℕ) → 0 < length bodies → get_or (spelled bodies ++ tail) 0 0 ≡ 1
begins_open [] tail some = absurd (omega arith)
begins_open (body ∷ bodies) tail some = refl

long_enough : (bodies : List (List ℕ)) (gate : ℕ) (tail : List ℕ) → 0 < length bodies → 6 ≤ length (spelled bodies ++ gate ∷ tail)
long_enough [] gate tail some = absurd (omega arith)
long_enough (body ∷ bodies) gate tail some =
    omega (arith, length-append (spelled (body ∷ bodies)) (gate ∷ tail), length-append (sized body) (spelled bodies), length-sized body)

pub no_log_no_records : (bytes : List ℕ) → NoLog bytes → (bodies : List (List ℕ)) (rest : ℕ) → RecordsOf bytes bodies rest → ⊥
no_log_no_records bytes (inl few) bodies rest has =
    omega (arith, few, ap length has.is, long_enough bodies has.gate has.behind has.some)
no_log_no_records bytes (inr shut) bodies rest has =
    shut (ap (λ list. get_or list 0 0) has.is ∙ begins_open bodies (has.gate ∷ has.behind) has.some)

short_open : (bodies : List (List ℕ)) (tail : List ℕ) → get_or (spelled bodies ++ 1 ∷ tail) 0 0 ≡ 1
short_open [] tail = refl
short_open (body ∷ bodies) tail = refl

pub no_log_not_short : (bytes : List ℕ) → NoLog bytes → (at : ℕ) → Short bytes at → ⊥
no_log_not_short bytes (inl few) at is = omega (arith, few, is.after.six)
no_log_not_short bytes (inr shut) at is =
    shut (ap (λ list. get_or list 0 0) is.after.is ∙ short_open is.bodies is.after.tail)

-- a whole record isn't cut
whole_not_cut : (body tail : List ℕ) (gate : ℕ) (more : List ℕ) → length body < 2 ^ 32 → tail ≡ sized body ++ gate ∷ more → Cut tail → ⊥
whole_not_cut body tail gate more fits e (inl few) =
    omega (arith, few, ap length e, length-append (sized body) (gate ∷ more), length-sized body)
whole_not_cut body tail gate more fits e (inr passes) =
    let size : size_in (take 4 tail) ≡ length body = ap (λ list. size_in (take 4 list)) e ∙ ap size_in (size_at body (gate ∷ more)) ∙ size_in-size_bytes (length body) fits in
    omega (arith, passes, size, ap length e, length-append (sized body) (gate ∷ more), length-sized body)

-- what follows a record begins with a gate
record Begins (bytes : List ℕ) : Type 0 where
  first : ℕ
  more : List ℕ
  is : bytes ≡ first ∷ more

begins : (bodies : List (List ℕ)) (gate : ℕ) (tail : List ℕ) → Begins (spelled bodies ++ gate ∷ tail)
begins [] gate tail = record { first = gate; more = tail; is = refl }
begins (body ∷ bodies) gate tail =
    record { first = 1; more = sized body ++ spelled bodies ++ gate ∷ tail; is = refl }

not_cut : (body tail : List ℕ) (bodies : List (List ℕ)) (gate : ℕ) (more : List ℕ) → length body < 2 ^ 32 → tail ≡ sized body ++ (spelled bodies ++ gate ∷ more) → Cut tail → ⊥
not_cut body tail bodies gate more fits e cut =
    let next = begins bodies gate more in
    whole_not_cut body tail next.first next.more fits (e ∙ ap (λ list. sized body ++ list) next.is) cut

shut_not_short : (a b : List (List ℕ)) (g : ℕ) (x tail : List ℕ) → g ≢ 1 → AllFit a → AllFit b → Cut tail → spelled a ++ g ∷ x ≡ spelled b ++ 1 ∷ tail → ⊥
shut_not_short [] [] g x tail shut fit_a fit_b cut e = shut (first_of g 1 x tail e)
shut_not_short [] (body ∷ b) g x tail shut fit_a fit_b cut e =
    shut (first_of g 1 x (sized body ++ (spelled b ++ 1 ∷ tail)) (e ∙ opened_as body b (1 ∷ tail)))
shut_not_short (body ∷ a) [] g x tail shut fit_a fit_b cut e =
    not_cut body tail a g x fit_a.0 (rest_of 1 1 tail (sized body ++ (spelled a ++ g ∷ x)) (sym e ∙ opened_as body a (g ∷ x))) cut
shut_not_short (one ∷ a) (two ∷ b) g x tail shut fit_a fit_b cut e =
    let rests = rest_of 1 1 (sized one ++ (spelled a ++ g ∷ x)) (sized two ++ (spelled b ++ 1 ∷ tail)) (sym (opened_as one a (g ∷ x)) ∙ e ∙ opened_as two b (1 ∷ tail)) in
    shut_not_short a b g x tail shut fit_a.1 fit_b.1 cut (same_tail one two _ _ fit_a.0 fit_b.0 rests)

pub short_no_records : (bytes : List ℕ) (at : ℕ) → Short bytes at → (bodies : List (List ℕ)) → Recovers bytes bodies → ⊥
short_no_records bytes at is bodies (inl none) = no_log_not_short bytes none.0 at is
short_no_records bytes at is bodies (inr some) =
    let has = some.1 in
    shut_not_short bodies is.bodies has.gate has.behind is.after.tail has.shut has.fit is.after.fit is.after.cut (sym has.is ∙ is.after.is)

same_place : (a b : List (List ℕ)) (x y : List ℕ) → AllFit a → AllFit b → Cut x → Cut y → spelled a ++ 1 ∷ x ≡ spelled b ++ 1 ∷ y → a ≡ b
same_place [] [] x y fit_a fit_b cut_x cut_y e = refl
same_place [] (body ∷ b) x y fit_a fit_b cut_x cut_y e =
    absurd (not_cut body x b 1 y fit_b.0 (rest_of 1 1 x (sized body ++ (spelled b ++ 1 ∷ y)) (e ∙ opened_as body b (1 ∷ y))) cut_x)
same_place (body ∷ a) [] x y fit_a fit_b cut_x cut_y e =
    absurd (not_cut body y a 1 x fit_a.0 (rest_of 1 1 y (sized body ++ (spelled a ++ 1 ∷ x)) (sym e ∙ opened_as body a (1 ∷ x))) cut_y)
same_place (one ∷ a) (two ∷ b) x y fit_a fit_b cut_x cut_y e =
    let rests = rest_of 1 1 (sized one ++ (spelled a ++ 1 ∷ x)) (sized two ++ (spelled b ++ 1 ∷ y)) (sym (opened_as one a (1 ∷ x)) ∙ e ∙ opened_as two b (1 ∷ y)) in
    ap (λ first. first ∷ a) (same_body one two _ _ fit_a.0 fit_b.0 rests) ∙ ap (λ others. two ∷ others) (same_place a b x y fit_a.1 fit_b.1 cut_x cut_y (same_tail one two _ _ fit_a.0 fit_b.0 rests))

pub cut_unique : (bytes : List ℕ) (bodies others : List (List ℕ)) (at other : ℕ) → CutAfter bytes bodies at → CutAfter bytes others other → (bodies ≡ others) × (at ≡ other)
cut_unique bytes bodies others at other one two =
    let same : bodies ≡ others = same_place bodies others one.tail two.tail one.fit two.fit one.cut two.cut (sym one.is ∙ two.is) in
    (same, sym one.place ∙ ap (λ list. length (spelled list)) same ∙ two.place)

pub short_unique : (bytes : List ℕ) (at other : ℕ) → Short bytes at → Short bytes other → at ≡ other
short_unique bytes at other one two = (cut_unique bytes one.bodies two.bodies at other one.after two.after).1
