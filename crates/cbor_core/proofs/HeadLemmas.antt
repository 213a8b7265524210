-- A head that is read is the head that was written, and what was written is read again.
use Rattle.std.proofs.Common.{◌≡◌, ℕ, zero, suc, ◌+◌, ◌-◌, ◌*◌, ◌^◌, ◌/◌, ◌%◌, ◌<◌, ◌≤◌, true, false, cond, ◌==◌, List, [], ◌∷◌, ◌++◌, length, take, drop, Result, Ok, Err, refl, sym, subst, inl, inr, arith, nat_lt, ltb-false, ltb-true, le-ltb, lt-ltb, ne_eqb, eqb-true}
use Rattle.std.specs.Int.{Width, w8, w16, w32, w64, byte_len, byte_worth, sum_through, from_be_bytes, to_be_bytes}
use Rattle.std.specs.Prelude.{slice_index}
use Rattle.std.proofs.Math.Nat.{mul-le-mul_right}
use Rattle.std.proofs.lemmas.Bool.{and_left, and_right}
use Rattle.std.proofs.lemmas.List.{take-append-drop, length-take}
use Rattle.std.proofs.lemmas.Nat.{be_bytes_2, be_bytes_4, be_bytes_8, from_be_bytes-to_be_bytes_2, from_be_bytes-to_be_bytes_4, from_be_bytes-to_be_bytes_8}
use Rattle.cbor_core.specs.declared.words.Grammar.{Grammar}
use Rattle.cbor_core.specs.declared.words.Grammar.TheVariants.{Strict, Wide}
use Rattle.cbor_core.specs.declared.words.Why.{Why}
use Rattle.cbor_core.specs.declared.words.Why.TheVariants.{Truncated, Reserved, Indefinite}
use Rattle.cbor_core.specs.declared.heads.Size.{Size}
use Rattle.cbor_core.specs.declared.heads.Size.TheVariants.{Within, One, Two, Four, Eight}
use Rattle.cbor_core.specs.declared.heads.Head.{Head}
use Rattle.cbor_core.specs.Bytes.{IsBytes}
use Rattle.cbor_core.specs.Head.{information, argument_bytes, width, is_own, limit, least, MayStand, head, is_reserved, sized, head_at}
use Rattle.cbor_core.specs.Spells.{is_strict}
use Rattle.cbor_core.proofs.StepLemmas.{IsBytes-front, IsBytes-after, is_cut, chosen, ok_is, err_ok}

-- ---- an argument and its bytes, by their size

one_byte : (n : ℕ) → n < 256 → from_be_bytes w8 (to_be_bytes w8 n) ≡ n
one_byte n lt = let whole : n % 256 ≡ n = omega arith in grind (arith, whole)

its_byte : (bytes : List ℕ) → length bytes ≡ 1 → IsBytes bytes → to_be_bytes w8 (from_be_bytes w8 bytes) ≡ bytes
its_byte [] e fits = absurd (omega arith)
its_byte (b ∷ []) e fits = let lt : b < 256 = fits 0 in let whole : b % 256 ≡ b = omega arith in grind (arith, whole)
its_byte (b ∷ c ∷ more) e fits = absurd (omega arith)

argument_len : (size : Size) (n : ℕ) → length (to_be_bytes (width size) n) ≡ byte_len (width size)
argument_len Within n = refl
argument_len One n = refl
argument_len Two n = refl
argument_len Four n = refl
argument_len Eight n = refl

-- an argument that its size holds is spelled by its bytes
argument_again : (size : Size) (n : ℕ) → n < limit size → from_be_bytes (width size) (to_be_bytes (width size) n) ≡ n
argument_again Within n lt = one_byte n (omega arith)
argument_again One n lt = one_byte n lt
argument_again Two n lt = from_be_bytes-to_be_bytes_2 n lt
argument_again Four n lt = from_be_bytes-to_be_bytes_4 n lt
argument_again Eight n lt = from_be_bytes-to_be_bytes_8 n lt

-- as many bytes as a size has are those of the argument that they spell
its_bytes : (size : Size) (bytes : List ℕ) → length bytes ≡ byte_len (width size) → IsBytes bytes → to_be_bytes (width size) (from_be_bytes (width size) bytes) ≡ bytes
its_bytes Within bytes e fits = its_byte bytes e fits
its_bytes One bytes e fits = its_byte bytes e fits
its_bytes Two bytes e fits = be_bytes_2 bytes _ e fits refl
its_bytes Four bytes e fits = be_bytes_4 bytes _ e fits refl
its_bytes Eight bytes e fits = be_bytes_8 bytes _ e fits refl

sums_grow : (f g : ℕ → ℕ) → ((i : ℕ) → f i ≤ g i) → (k : ℕ) → sum_through f k ≤ sum_through g k
sums_grow f g le zero = le 0
sums_grow f g le (suc k) = omega (arith, sums_grow f g le k, le (suc k))

worth_most : (i b : ℕ) → b < 256 → byte_worth i b ≤ byte_worth i 255
worth_most zero b lt = omega arith
worth_most (suc i) b lt = mul-le-mul_right {m = b} {n = 255} (256 ^ suc i) (omega arith)

-- bytes spell no number above the one that as many bytes 255 spell
most_spelled : (w : Width) (bytes : List ℕ) → IsBytes bytes → from_be_bytes w bytes ≤ sum_through (λ i. byte_worth (byte_len w - 1 - i) 255) (byte_len w - 1)
most_spelled w bytes fits =
    sums_grow (λ i. byte_worth (byte_len w - 1 - i) (slice_index bytes i)) (λ i. byte_worth (byte_len w - 1 - i) 255) (λ i. worth_most (byte_len w - 1 - i) (slice_index bytes i) (fits i)) (byte_len w - 1)

-- so an argument with bytes of its own fits its size
argument_fits : (size : Size) (bytes : List ℕ) → is_own size ≡ true → IsBytes bytes → from_be_bytes (width size) bytes < limit size
argument_fits Within bytes own fits = absurd cc
argument_fits One bytes own fits = omega (arith, most_spelled w8 bytes fits)
argument_fits Two bytes own fits = omega (arith, most_spelled w16 bytes fits)
argument_fits Four bytes own fits = omega (arith, most_spelled w32 bytes fits)
argument_fits Eight bytes own fits = omega (arith, most_spelled w64 bytes fits)

-- ---- a head is read again

-- a head whose argument stands in these bytes, in front of others
reads_front : (first : ℕ) (size : Size) (text rest : List ℕ) → length text ≡ byte_len (width size) → is_reserved first (from_be_bytes (width size) text) ≡ false
    → sized first size (text ++ rest) ≡ Ok (record { major = first / 32; size = size; argument = from_be_bytes (width size) text }, rest)
reads_front first size text rest len free =
    let cut = is_cut text rest (byte_len (width size)) len in
    rw (cut.enough, cut.taken, cut.dropped, free) refl

sized-again : (first : ℕ) (size : Size) (n : ℕ) (rest : List ℕ) → n < limit size → is_reserved first n ≡ false
    → sized first size (to_be_bytes (width size) n ++ rest) ≡ Ok (record { major = first / 32; size = size; argument = n }, rest)
sized-again first size n rest lt free =
    let again = argument_again size n lt in
    rw again at (reads_front first size (to_be_bytes (width size) n) rest (argument_len size n) (rw again free))

rest_of : (m i : ℕ) → i < 32 → (32 * m + i) % 32 ≡ i
rest_of m i h = omega arith

major_of : (m i : ℕ) → i < 32 → (32 * m + i) / 32 ≡ m
major_of m i h = omega arith

-- the number is not the reserved one of two bytes
pub IsFree : ℕ → Size → ℕ → Type 0
IsFree major size n = is_reserved (32 * major + information size n) n ≡ false

pub head-again : (major : ℕ) (size : Size) (n : ℕ) (rest : List ℕ) → n < limit size → is_reserved (32 * major + information size n) n ≡ false
    → head_at (head major size n ++ rest) ≡ Ok (record { major = major; size = size; argument = n }, rest)
unfolding head_at
head-again major Within n rest lt free =
    rw (rest_of major n (omega arith), major_of major n (omega arith), lt-ltb n 24 lt) refl
head-again major One n rest lt free =
    rw (rest_of major 24 (omega arith), sized-again (32 * major + 24) One n rest lt free, major_of major 24 (omega arith)) refl
head-again major Two n rest lt free =
    rw (rest_of major 25 (omega arith), sized-again (32 * major + 25) Two n rest lt free, major_of major 25 (omega arith)) refl
head-again major Four n rest lt free =
    rw (rest_of major 26 (omega arith), sized-again (32 * major + 26) Four n rest lt free, major_of major 26 (omega arith)) refl
head-again major Eight n rest lt free =
    rw (rest_of major 27 (omega arith), sized-again (32 * major + 27) Eight n rest lt free, major_of major 27 (omega arith)) refl

-- below major type 7 no number is reserved
pub free_below : (major : ℕ) (size : Size) (n : ℕ) → major < 7 → n < limit size → is_reserved (32 * major + information size n) n ≡ false
free_below major Within n h lt = and_left (32 * major + n == 248) (nat_lt n 32) (ne_eqb (32 * major + n) 248 (λ e. absurd (omega arith)))
free_below major One n h lt = and_left (32 * major + 24 == 248) (nat_lt n 32) (ne_eqb (32 * major + 24) 248 (λ e. absurd (omega arith)))
free_below major Two n h lt = and_left (32 * major + 25 == 248) (nat_lt n 32) (ne_eqb (32 * major + 25) 248 (λ e. absurd (omega arith)))
free_below major Four n h lt = and_left (32 * major + 26 == 248) (nat_lt n 32) (ne_eqb (32 * major + 26) 248 (λ e. absurd (omega arith)))
free_below major Eight n h lt = and_left (32 * major + 27 == 248) (nat_lt n 32) (ne_eqb (32 * major + 27) 248 (λ e. absurd (omega arith)))

-- in two bytes a number from 32 on is not reserved
pub free_from : (first n : ℕ) → 32 ≤ n → is_reserved first n ≡ false
free_from first n le = and_right (first == 248) (nat_lt n 32) (le-ltb n 32 le)

-- ---- what is read is a head

-- the bytes are this head and what follows it
pub record IsRead (bytes : List ℕ) (h : Head) (rest : List ℕ) : Type 0 where
  pub parts : bytes ≡ head h.major h.size h.argument ++ rest
  pub major : h.major < 8
  pub fits : h.argument < limit h.size
  pub free : is_reserved (32 * h.major + information h.size h.argument) h.argument ≡ false

first_again : (b i : ℕ) → b % 32 ≡ i → 32 * (b / 32) + i ≡ b
first_again b i e = omega arith

sized-read : (b i : ℕ) (size : Size) (bytes : List ℕ) (h : Head) (rest : List ℕ) → is_own size ≡ true → b < 256 → b % 32 ≡ i
    → ((n : ℕ) → information size n ≡ i) → ((n : ℕ) → argument_bytes size n ≡ to_be_bytes (width size) n) → IsBytes bytes → sized b size bytes ≡ Ok (h, rest) → IsRead (b ∷ bytes) h rest
sized-read b i size bytes h rest own lt is info arg fits e =
    let len = byte_len (width size) in
    let front = take len bytes in
    let n = from_be_bytes (width size) front in
    let end = drop len bytes in
    let x : Head × List ℕ = (record { major = b / 32; size = size; argument = n }, end) in
    elim (chosen (nat_lt (length bytes) len) (Err Truncated) (cond (is_reserved b n) (Err Reserved) (Ok x)) (Ok (h, rest)) e) [
      | inl cut ↦ absurd (err_ok _ _ cut.1)
      | inr long ↦ elim (chosen (is_reserved b n) (Err Reserved) (Ok x) (Ok (h, rest)) long.1) [
        | inl taken ↦ absurd (err_ok _ _ taken.1)
        | inr free ↦
            let enough : len ≤ length bytes = ltb-false _ _ long.0 in
            let front_fits = IsBytes-front bytes front end fits (sym (take-append-drop len bytes)) in
            let back : to_be_bytes (width size) n ≡ front = its_bytes size front (omega (arith, length-take len bytes)) front_fits in
            let first : 32 * (b / 32) + information size n ≡ b = rw (info n) (first_again b i is) in
            let found : IsRead (b ∷ bytes) (record { major = b / 32; size = size; argument = n }) end = record {
              parts = rw (first, arg n, back, take-append-drop len bytes);
              major = omega arith;
              fits = argument_fits size front own front_fits;
              free = rw first free.0;
            } in
            subst (λ (y : Head × List ℕ). IsRead (b ∷ bytes) y.0 y.1) (ok_is x (h, rest) free.1) found
      ]
    ]

within-read : (b : ℕ) (bytes : List ℕ) (h : Head) (rest : List ℕ) → b < 256 → b % 32 < 24 → ◌≡◌ {A = Result (Head × List ℕ) Why} (Ok (record { major = b / 32; size = Within; argument = b % 32 }, bytes)) (Ok (h, rest)) → IsRead (b ∷ bytes) h rest
within-read b bytes h rest lt small e =
    let first : 32 * (b / 32) + b % 32 ≡ b = omega arith in
    let found : IsRead (b ∷ bytes) (record { major = b / 32; size = Within; argument = b % 32 }) bytes = record {
      parts = rw first;
      major = omega arith;
      fits = small;
      free = rw first (and_left (b == 248) (nat_lt (b % 32) 32) (ne_eqb b 248 (λ is. absurd (omega arith))));
    } in
    subst (λ (y : Head × List ℕ). IsRead (b ∷ bytes) y.0 y.1) (ok_is (record { major = b / 32; size = Within; argument = b % 32 }, bytes) (h, rest) e) found

pub head-read : (bytes : List ℕ) (h : Head) (rest : List ℕ) → IsBytes bytes → head_at bytes ≡ Ok (h, rest) → IsRead bytes h rest
unfolding head_at
head-read [] h rest fits e = absurd (err_ok _ _ e)
head-read (b ∷ bytes) h rest fits e =
    let lt : b < 256 = fits 0 in
    let tail = IsBytes-after (b ∷ bytes) (b ∷ []) bytes fits refl in
    let goal : Result (Head × List ℕ) Why = Ok (h, rest) in
    let i = b % 32 in
    let here : Result (Head × List ℕ) Why = Ok (record { major = b / 32; size = Within; argument = b % 32 }, bytes) in
    let e5 : Result (Head × List ℕ) Why = cond (nat_lt i 31) (Err Reserved) (Err Indefinite) in
    let e4 = cond (i == 27) (sized b Eight bytes) e5 in
    let e3 = cond (i == 26) (sized b Four bytes) e4 in
    let e2 = cond (i == 25) (sized b Two bytes) e3 in
    let e1 = cond (i == 24) (sized b One bytes) e2 in
    elim (chosen (nat_lt i 24) here e1 goal e) [
      | inl p ↦ within-read b bytes h rest lt (ltb-true i 24 p.0) p.1
      | inr p ↦ elim (chosen (i == 24) (sized b One bytes) e2 goal p.1) [
        | inl q ↦ sized-read b 24 One bytes h rest refl lt (eqb-true i 24 q.0) (λ n. refl) (λ n. refl) tail q.1
        | inr q ↦ elim (chosen (i == 25) (sized b Two bytes) e3 goal q.1) [
          | inl r ↦ sized-read b 25 Two bytes h rest refl lt (eqb-true i 25 r.0) (λ n. refl) (λ n. refl) tail r.1
          | inr r ↦ elim (chosen (i == 26) (sized b Four bytes) e4 goal r.1) [
            | inl s ↦ sized-read b 26 Four bytes h rest refl lt (eqb-true i 26 s.0) (λ n. refl) (λ n. refl) tail s.1
            | inr s ↦ elim (chosen (i == 27) (sized b Eight bytes) e5 goal s.1) [
              | inl t ↦ sized-read b 27 Eight bytes h rest refl lt (eqb-true i 27 t.0) (λ n. refl) (λ n. refl) tail t.1
              | inr t ↦ elim (chosen (nat_lt i 31) (Err Reserved) (Err Indefinite) goal t.1) [ inl u ↦ absurd (err_ok _ _ u.1) | inr u ↦ absurd (err_ok _ _ u.1) ]
            ]
          ]
        ]
      ]
    ]

-- ---- which size an argument may stand in

pub may_fits : (g : Grammar) (size : Size) (n : ℕ) → MayStand g size n → n < limit size
may_fits Strict size n m = m.1
may_fits Wide size n m = m

pub may_least : (g : Grammar) (size : Size) (n : ℕ) → MayStand g size n → is_strict g ≡ true → least size ≤ n
may_least Strict size n m e = m.0
may_least Wide size n m e = absurd cc

pub may_stand : (g : Grammar) (size : Size) (n : ℕ) → n < limit size → (is_strict g ≡ true → least size ≤ n) → MayStand g size n
may_stand Strict size n lt le = (le refl, lt)
may_stand Wide size n lt le = lt
