-- The error of too many fields comes behind 34 line feeds.
use Rattle.std.proofs.Common.{◌≡◌, ℕ, ◌+◌, ◌≤◌, List, [], ◌∷◌, ◌++◌, length, Bool, true, false, ◌||◌, ◌==◌, IsTrue, if◌then◌else◌, refl, sym, ap, ◌∙◌, subst, arith, append_assoc, append-nil}
use Rattle.std.proofs.lemmas.List.{same_from_push}
use Rattle.std.proofs.lemmas.List.Elements.{All-head}
use Rattle.std.proofs.lemmas.Bool.Decides.{nat_tests}
use Rattle.std.specs.List.{flat_map}
use Rattle.httparse.specs.Grammar.{LineEnd, crlf, lf, print_end, print_blank, print_version, Field, print_field, RequestHead, print_request, is_token_byte, IsToken}
use Rattle.http_wire.specs.Feeds.{feeds, behind_blank, counted, TooManyAreCounted}

one_case : (test : Bool) (m n : ℕ) → (if test then m + n + 1 else m + n) ≡ (if test then m + 1 else m) + n
one_case true m n = omega arith
one_case false m n = refl

feeds_append : (xs ys : List ℕ) → feeds (xs ++ ys) ≡ feeds xs + feeds ys
feeds_append [] ys = omega arith
feeds_append (x ∷ xs) ys =
    ap (λ (n : ℕ). if x == 10 then n + 1 else n) (feeds_append xs ys) ∙ one_case (x == 10) (feeds xs) (feeds ys)

feeds_end : (e : LineEnd) → feeds (print_end e) ≡ 1
feeds_end crlf = refl
feeds_end lf = refl

feeds_fields : (fs : List Field) → length fs ≤ feeds (flat_map print_field fs)
feeds_fields [] = omega arith
feeds_fields (f ∷ fs) =
    let whole = feeds_append (print_field f) (flat_map print_field fs) in
    let line = feeds_append (f.name ++ 58 ∷ f.raw) (print_end f.end) in
    omega (arith, whole, line, feeds_end f.end, feeds_fields fs)

-- the bytes of a head behind the empty lines, but for the last line feed
abbrev pub last_part : LineEnd → List ℕ
last_part crlf = 13 ∷ []
last_part lf = []

abbrev pub text_of : RequestHead → List ℕ
text_of h =
    h.method ++ (32 ∷ h.target ++ (32 ∷ print_version h.minor ++ (print_end h.line_end ++ (flat_map print_field h.fields ++ last_part h.last))))

last_is : (e : LineEnd) → print_end e ≡ last_part e ++ 10 ∷ []
last_is crlf = refl
last_is lf = refl

regroup : (n m a b e s l : List ℕ)
    → n ++ m ++ a ++ b ++ e ++ (s ++ (l ++ 10 ∷ [])) ≡ (n ++ (m ++ (a ++ (b ++ (e ++ (s ++ l)))))) ++ 10 ∷ []
regroup n m a b e s l = simp append_assoc

request_is : (h : RequestHead) → print_request h ≡ (print_blank h.blank ++ text_of h) ++ 10 ∷ []
unfolding print_request
request_is h =
    ap (λ (xs : List ℕ). print_blank h.blank ++ h.method ++ (32 ∷ h.target) ++ (32 ∷ print_version h.minor) ++ print_end h.line_end ++ (flat_map print_field h.fields ++ xs)) (last_is h.last)
    ∙ regroup (print_blank h.blank) h.method (32 ∷ h.target) (32 ∷ print_version h.minor) (print_end h.line_end) (flat_map print_field h.fields) (last_part h.last)

text_feeds : (h : RequestHead) → length h.fields + 1 ≤ feeds (text_of h)
text_feeds h =
    let a = feeds_append h.method (32 ∷ h.target ++ (32 ∷ print_version h.minor ++ (print_end h.line_end ++ (flat_map print_field h.fields ++ last_part h.last)))) in
    let b = feeds_append (32 ∷ h.target) (32 ∷ print_version h.minor ++ (print_end h.line_end ++ (flat_map print_field h.fields ++ last_part h.last))) in
    let c = feeds_append (32 ∷ print_version h.minor) (print_end h.line_end ++ (flat_map print_field h.fields ++ last_part h.last)) in
    let d = feeds_append (print_end h.line_end) (flat_map print_field h.fields ++ last_part h.last) in
    let e = feeds_append (flat_map print_field h.fields) (last_part h.last) in
    omega (arith, a, b, c, d, e, feeds_end h.line_end, feeds_fields h.fields)

blank_skips : (es : List LineEnd) (b : ℕ) (bs : List ℕ) → (b == 13 || b == 10) ≡ false → behind_blank (print_blank es ++ b ∷ bs) ≡ b ∷ bs
blank_skips [] b bs e = ap (λ (t : Bool). if t then behind_blank bs else b ∷ bs) e
blank_skips (crlf ∷ es) b bs e = blank_skips es b bs e
blank_skips (lf ∷ es) b bs e = blank_skips es b bs e

token_tests : (b : ℕ) (x y : Bool) → (b == 13) ≡ x → (b == 10) ≡ y → IsTrue (is_token_byte b) → (x || y) ≡ false
unfolding is_token_byte
token_tests b true y e f h =
    let s : b ≡ 13 = grind (arith, nat_tests) in
    let bad : IsTrue (is_token_byte 13) = subst (λ (n : ℕ). IsTrue (is_token_byte n)) s h in cc bad
token_tests b false true e f h =
    let s : b ≡ 10 = grind (arith, nat_tests) in
    let bad : IsTrue (is_token_byte 10) = subst (λ (n : ℕ). IsTrue (is_token_byte n)) s h in cc bad
token_tests b false false e f h = refl

token_case : (b : ℕ) → IsTrue (is_token_byte b) → (b == 13 || b == 10) ≡ false
token_case b h = token_tests b (b == 13) (b == 10) refl refl h

method_skips : (es : List LineEnd) (method rest : List ℕ) → IsToken method → behind_blank (print_blank es ++ (method ++ rest)) ≡ method ++ rest
method_skips es [] rest t = absurd (omega (arith, t.0))
method_skips es (b ∷ bs) rest t = blank_skips es b (bs ++ rest) (token_case b (All-head (λ (c : ℕ). IsTrue (is_token_byte c)) b bs t.1))

pub too_many_are_counted : TooManyAreCounted
too_many_are_counted buf x =
    let h = x.3 in
    let same : x.0 ++ 10 ∷ [] ≡ (print_blank h.blank ++ text_of h) ++ 10 ∷ [] = x.4.1 ∙ append-nil (print_request h) ∙ request_is h in
    let front : x.0 ≡ print_blank h.blank ++ text_of h = (same_from_push x.0 (print_blank h.blank ++ text_of h) 10 10 same).0 in
    let behind : List ℕ = 32 ∷ h.target ++ (32 ∷ print_version h.minor ++ (print_end h.line_end ++ (flat_map print_field h.fields ++ last_part h.last))) in
    let is : buf ≡ print_blank h.blank ++ (h.method ++ (behind ++ x.1)) =
    x.2 ∙ ap (λ (xs : List ℕ). xs ++ x.1) front ∙ append_assoc (print_blank h.blank) (text_of h) x.1
    ∙ ap (λ (xs : List ℕ). print_blank h.blank ++ xs) (append_assoc h.method behind x.1) in
    let skipped : behind_blank buf ≡ h.method ++ (behind ++ x.1) = ap behind_blank is ∙ method_skips h.blank h.method (behind ++ x.1) x.4.0.method in
    let split : feeds (h.method ++ (behind ++ x.1)) ≡ feeds (text_of h) + feeds x.1 =
    ap feeds (sym (append_assoc h.method behind x.1)) ∙ feeds_append (text_of h) x.1 in
    let total : counted buf ≡ feeds (text_of h) + feeds x.1 = ap feeds skipped ∙ split in
    omega (arith, total, text_feeds h, x.5)
