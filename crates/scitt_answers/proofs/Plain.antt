-- A path that has a target by the routes alone is ASCII.
use Rattle.std.proofs.Common.{◌≡◌, ℕ, suc, ◌+◌, ◌-◌, ◌<◌, ◌≤◌, ◌⊎◌, inl, inr, List, [], ◌∷◌, ◌++◌, length, take, drop, get_or, Bool, true, false, cond, ◌&&◌, ◌==◌, ltb, leb, Option, None, Some, refl, sym, ap, subst, ◌∙◌, arith, append-nil, length-append, ltb-true, lt-ltb, le-leb}
use Rattle.std.specs.Prelude.{option_and_then, codes}
use Rattle.std.specs.List.{list_all}
use Rattle.std.specs.Char.{is_ascii, is_ascii_digit}
use Rattle.std.proofs.lemmas.Bool.{and_parts, and_from, false_from_ne_true, both_ways}
use Rattle.std.proofs.lemmas.Bool.Decides.{nat_tests}
use Rattle.std.proofs.Math.Seq.{take-append_seam, drop-append_seam, drop-append-add, get_or-append_seam}
use Rattle.matchit.proofs.OnLiterals.{matchit_on_literals}
use Rattle.matchit.specs.Rows.{RowsOf}
use Rattle.matchit.specs.Seek.{first, segment, has_slash, slash, same_text}
use Rattle.matchit.specs.Router.{RouteOf}
use Rattle.matchit.specs.Params.{next_at, part_of, wild_from, wild_stop}
use Rattle.scitt_answers.specs.declared.routes.Row.{Row}
use Rattle.scitt_answers.specs.declared.routes.Row.TheVariants as row
use Rattle.scitt_answers.specs.declared.routes.Target.{Target}
use Rattle.scitt_answers.specs.declared.routes.Target.TheVariants as target
use Rattle.scitt_answers.specs.Fits.{Fits, fits_end, fits_byte, fits_part, fits_rest}
use Rattle.scitt_answers.specs.RouteLaws.{IsRow}
use Rattle.http_wire.specs.Heads.{are_digits}
use Rattle.scitt_answers.specs.Routes.{is_plain, number_in, numbered, number_at, target_at, target_on, target_of, parts_by, table}
use Rattle.scitt_answers.proofs.Fitting.{seek_fits}

-- ---- plain texts

plain_join : (xs ys : List ℕ) → is_plain xs ≡ true → is_plain ys ≡ true → is_plain (xs ++ ys) ≡ true
plain_join [] ys p q = q
plain_join (x ∷ xs) ys p q =
    let parts = and_parts (is_ascii x) (is_plain xs) p in
    and_from (is_ascii x) (is_plain (xs ++ ys)) parts.0 (plain_join xs ys parts.1 q)

digit_plain : (b : ℕ) → is_ascii_digit b ≡ true → is_ascii b ≡ true
digit_plain b e = grind (arith, nat_tests)

digits_plain : (ds : List ℕ) → list_all is_ascii_digit ds ≡ true → is_plain ds ≡ true
digits_plain [] e = refl
digits_plain (d ∷ ds) e =
    let parts = and_parts (is_ascii_digit d) (list_all is_ascii_digit ds) e in
    and_from (is_ascii d) (is_plain ds) (digit_plain d parts.0) (digits_plain ds parts.1)

are_plain : (v : List ℕ) → are_digits v ≡ true → is_plain v ≡ true
are_plain v e = digits_plain v (grind (arith, nat_tests))

-- ---- what fits a pattern, by its first token

-- a byte stands for itself, a parameter for a part without a slash
abbrev Begins : List ℕ → List ℕ → Type 0
Begins [] path = path ≡ []
Begins (x ∷ t) path =
    ((p : List ℕ) × (path ≡ x ∷ p) × Fits t p)
    ⊎ (((x ≡ 256) × (v : List ℕ) × (p : List ℕ) × (path ≡ v ++ p) × (has_slash v ≡ false) × Fits t p) ⊎ (x ≡ 257))

begins : (t path : List ℕ) → Fits t path → Begins t path
begins _ _ fits_end = refl
begins _ _ (fits_byte b t p f) = inl (p, refl, f)
begins _ _ (fits_part v t p some plain f) = inr (inl (refl, v, p, refl, plain, f))
begins _ _ (fits_rest v) = inr (inr refl)

plain_below : (x : ℕ) → is_ascii x ≡ true → x < 128
plain_below x e = ltb-true x 128 e

-- behind plain bytes
behind : (front rest path : List ℕ) → is_plain front ≡ true → Fits (front ++ rest) path → (p : List ℕ) × (path ≡ front ++ p) × Fits rest p
behind [] rest path e f = (path, refl, f)
behind (x ∷ front) rest path e f =
    let parts = and_parts (is_ascii x) (is_plain front) e in
    let low : x < 128 = plain_below x parts.0 in
    elim (begins (x ∷ (front ++ rest)) path f) [
      | inl h ↦ (let more = behind front rest h.0 parts.1 h.2 in (more.0, h.1 ∙ ap (λ (s : List ℕ). x ∷ s) more.1, more.2))
      | inr (inl h) ↦ absurd (omega (arith, low, h.0))
      | inr (inr h) ↦ absurd (omega (arith, low, h))
    ]

-- a pattern of plain bytes alone
whole : (t path : List ℕ) → is_plain t ≡ true → Fits t path → path ≡ t
whole t path e f =
    let more = behind t [] path e (subst (λ (s : List ℕ). Fits s path) (sym (append-nil t)) f) in
    more.1 ∙ ap (λ (s : List ℕ). t ++ s) (begins [] more.0 more.2) ∙ append-nil t

-- at a parameter
at_part : (rest path : List ℕ) → Fits (256 ∷ rest) path → (v : List ℕ) × (p : List ℕ) × (path ≡ v ++ p) × (has_slash v ≡ false) × Fits rest p
at_part rest path f =
    elim (begins (256 ∷ rest) path f) [
      | inl h ↦ (256 ∷ [], h.0, h.1, refl, h.2)
      | inr (inl h) ↦ (h.1, h.2, h.3, h.4, h.5)
      | inr (inr h) ↦ absurd (omega (arith, h))
    ]

-- ---- what a walk gives for a pattern with one parameter

ltb-no : (m n : ℕ) → n ≤ m → ltb m n ≡ false
ltb-no m n h = false_from_ne_true (ltb m n) (λ e. absurd (omega (arith, ltb-true m n e)))

place_on : (len at : ℕ) → at < len → next_at len at ≡ at + 1
place_on len at below = ap (λ (b : Bool). cond b (at + 1) at) (lt-ltb at len below)

wild_is : (front rest : List ℕ) (len token at : ℕ) → is_plain front ≡ true → at + length front ≤ len
    → wild_from (front ++ 256 ∷ rest) len token at ≡ (token + length front, at + length front)
wild_is [] rest len token at e room =
    let token_stays : token ≡ token + 0 = omega arith in
    let at_stays : at ≡ at + 0 = omega arith in
    λ i. (token_stays i, at_stays i)
wild_is (x ∷ front) rest len token at e room =
    let parts = and_parts (is_ascii x) (is_plain front) e in
    let low : x < 256 = omega (arith, plain_below x parts.0) in
    let tokens : token + 1 + length front ≡ token + suc (length front) = omega arith in
    let places : at + 1 + length front ≡ at + suc (length front) = omega arith in
    ap (λ (b : Bool). cond {A = ℕ × ℕ} b (wild_from (front ++ 256 ∷ rest) len (token + 1) (next_at len at)) (token, at)) (lt-ltb x 256 low)
    ∙ ap (λ (n : ℕ). wild_from (front ++ 256 ∷ rest) len (token + 1) n) (place_on len at (omega arith))
    ∙ wild_is front rest len (token + 1) (at + 1) parts.1 (omega arith)
    ∙ (λ i. (tokens i, places i))

wild_start : (front rest path p : List ℕ) → is_plain front ≡ true → path ≡ front ++ p → wild_from (front ++ 256 ∷ rest) (length path) 0 0 ≡ (length front, length front)
wild_start front rest path p e is =
    let room : 0 + length front ≤ length path = omega (arith, ap length is, length-append front p) in
    let zero_on : 0 + length front ≡ length front = omega arith in
    wild_is front rest (length path) 0 0 e room ∙ (λ i. (zero_on i, zero_on i))

part_from : (a v b : List ℕ) → part_of (a ++ (v ++ b)) (length a) (length a + length v) ≡ v
part_from a v b =
    let rising : leb (length a) (length a + length v) ≡ true = le-leb _ _ (omega arith) in
    let within : leb (length a + length v) (length (a ++ (v ++ b))) ≡ true = le-leb _ _ (omega (arith, length-append a (v ++ b), length-append v b)) in
    let taken : length a + length v - length a ≡ length v = omega arith in
    ap (λ (t : Bool). cond t (take (length a + length v - length a) (drop (length a) (a ++ (v ++ b)))) []) (and_from _ _ rising within)
    ∙ (λ i. take (taken i) (drop-append_seam a (v ++ b) i))
    ∙ take-append_seam v b

third : (a b c : Bool) → c ≡ false → (a && b && c) ≡ false
third false b c e = refl
third true false c e = refl
third true true c e = e

all_three : (a b c : Bool) → a ≡ true → b ≡ true → c ≡ true → (a && b && c) ≡ true
all_three true true true x y z = refl
all_three true true false x y z = absurd cc
all_three true false c x y z = absurd cc
all_three false b c x y z = absurd cc

-- a parameter at the end takes all that is left
end_stop : (front v path : List ℕ) → path ≡ front ++ (v ++ []) → wild_stop (front ++ 256 ∷ []) (length front) path (length front) ≡ length front + length v
end_stop front v path is =
    let pattern = front ++ 256 ∷ [] in
    let last : ltb (length front + 1) (length pattern) ≡ false = ltb-no (length front + 1) (length pattern) (omega (arith, length-append front (256 ∷ []))) in
    let long : length path ≡ length front + length v = omega (arith, ap length is, length-append front (v ++ []), length-append v []) in
    ap (λ (t : Bool). cond t (length front + length (segment (drop (length front) path)) - length (segment (drop (length front + 1) pattern))) (length path)) (third (ltb (length front) (length pattern)) (get_or pattern (length front) 0 == 256) (ltb (length front + 1) (length pattern)) last)
    ∙ long

segment_case : (b : ℕ) (rest more v : List ℕ) (test : Bool) → cond test true (has_slash v) ≡ false → (has_slash v ≡ false → segment rest ≡ v ++ slash ∷ [])
    → cond test (b ∷ []) (b ∷ segment rest) ≡ b ∷ (v ++ slash ∷ [])
segment_case b rest more v true e f = absurd cc
segment_case b rest more v false e f = ap (λ (s : List ℕ). b ∷ s) (f e)

segment_of : (v more : List ℕ) → has_slash v ≡ false → segment (v ++ slash ∷ more) ≡ v ++ slash ∷ []
segment_of [] more e = refl
segment_of (b ∷ v) more e = segment_case b (v ++ slash ∷ more) more v (b == slash) e (segment_of v more)

-- a parameter before a slash takes what stands before the next slash
slash_stop : (front v more path : List ℕ) → path ≡ front ++ (v ++ slash ∷ more) → has_slash v ≡ false
    → wild_stop (front ++ 256 ∷ slash ∷ more) (length front) path (length front) ≡ length front + length v
slash_stop front v more path is plain =
    let pattern = front ++ 256 ∷ slash ∷ more in
    let long : length pattern ≡ length front + (2 + length more) = omega (arith, length-append front (256 ∷ slash ∷ more)) in
    let first_in : ltb (length front) (length pattern) ≡ true = lt-ltb _ _ (omega arith) in
    let next_in : ltb (length front + 1) (length pattern) ≡ true = lt-ltb _ _ (omega arith) in
    let here : (get_or pattern (length front) 0 == 256) ≡ true = ap (λ (n : ℕ). n == 256) (get_or-append_seam front 256 (slash ∷ more) 0) in
    let left : drop (length front) path ≡ v ++ slash ∷ more = ap (λ (s : List ℕ). drop (length front) s) is ∙ drop-append_seam front (v ++ slash ∷ more) in
    let part : length (segment (drop (length front) path)) ≡ length v + 1 = ap (λ (s : List ℕ). length (segment s)) left ∙ ap length (segment_of v more plain) ∙ length-append v (slash ∷ []) in
    let suffix : length (segment (drop (length front + 1) pattern)) ≡ 1 = ap (λ (s : List ℕ). length (segment s)) (drop-append-add front (256 ∷ slash ∷ more) 1) in
    let stop : length front + length (segment (drop (length front) path)) - length (segment (drop (length front + 1) pattern)) ≡ length front + length v = omega (arith, part, suffix) in
    ap (λ (t : Bool). cond t (length front + length (segment (drop (length front) path)) - length (segment (drop (length front + 1) pattern))) (length path)) (all_three (ltb (length front) (length pattern)) (get_or pattern (length front) 0 == 256) (ltb (length front + 1) (length pattern)) first_in here next_in)
    ∙ stop

taken_part : (front rest path p v b : List ℕ) → is_plain front ≡ true → path ≡ front ++ p → p ≡ v ++ b
    → wild_stop (front ++ 256 ∷ rest) (length front) path (length front) ≡ length front + length v
    → part_of path (wild_from (front ++ 256 ∷ rest) (length path) 0 0).1 (wild_stop (front ++ 256 ∷ rest) (wild_from (front ++ 256 ∷ rest) (length path) 0 0).0 path (wild_from (front ++ 256 ∷ rest) (length path) 0 0).1) ≡ v
taken_part front rest path p v b e is parts stop =
    let start = wild_start front rest path p e is in
    let whole_is : path ≡ front ++ (v ++ b) = is ∙ ap (λ (s : List ℕ). front ++ s) parts in
    ap (λ (w : ℕ × ℕ). part_of path w.1 (wild_stop (front ++ 256 ∷ rest) w.0 path w.1)) start
    ∙ (λ i. part_of (whole_is i) (length front) (stop i))
    ∙ part_from front v b

-- ---- the rows

-- the row leads to a target by a number
abbrev ByNumber : Row → Type 0
ByNumber value = (make : ℕ → Target) × (key : List ℕ) × ((parts : List (List ℕ × List ℕ)) → target_at value parts ≡ numbered make (number_at key parts))

data Good : List ℕ → RouteOf Row → Type 0 where
  literal : (t : List ℕ) (r : RouteOf Row) → is_plain t ≡ true → Good t r
  at_end : (front text : List ℕ) (name : ℕ × ℕ) (value : Row) → ByNumber value → is_plain front ≡ true
      → Good (front ++ 256 ∷ []) (record { pattern = front ++ 256 ∷ []; text = text; names = name ∷ []; value = value })
  at_slash : (front more text : List ℕ) (name : ℕ × ℕ) (value : Row) → ByNumber value → is_plain front ≡ true → is_plain more ≡ true
      → Good (front ++ 256 ∷ slash ∷ more) (record { pattern = front ++ 256 ∷ slash ∷ more; text = text; names = name ∷ []; value = value })

abbrev AllGood : RowsOf (RouteOf Row) → Type 0
AllGood [] = Unit {0}
AllGood ((t, r) ∷ rows) = Good t r × AllGood rows

row_good : (rows : RowsOf (RouteOf Row)) (t : List ℕ) (r : RouteOf Row) → AllGood rows → IsRow rows t r → Good t r
row_good [] t r a h = absurd h
row_good ((u, j) ∷ rows) t r a (inl (same, is)) = subst (λ (x : RouteOf Row). Good t x) is (subst (λ (x : List ℕ). Good x j) same a.0)
row_good ((u, j) ∷ rows) t r a (inr h) = row_good rows t r a.1 h

entry_row : ByNumber row.Entry
entry_row = (target.Entry, codes "index", λ parts. refl)

statement_row : ByNumber row.Statement
statement_row = (target.Statement, codes "index", λ parts. refl)

consistency_row : ByNumber row.Consistency
consistency_row = (target.Consistency, codes "old", λ parts. refl)

table_good : AllGood table
unfolding matchit_on_literals table
table_good = (
  literal _ _ refl,
  (
    at_end (codes "/consistency/") _ _ _ consistency_row refl,
    (
      at_slash (codes "/entries/") (codes "statement") _ _ _ statement_row refl refl,
      (at_end (codes "/entries/") _ _ _ entry_row refl, (literal _ _ refl, (literal _ _ refl, tt))),
    ),
  ),
)

-- ---- a part with another byte is no number

no_number : (v : List ℕ) → is_plain v ≡ false → number_in v ≡ None
no_number v e =
    let none : are_digits v ≡ false = false_from_ne_true (are_digits v) (λ d. both_ways (is_plain v) e (are_plain v d)) in
    grind (arith, nat_tests)

named_case : (make : ℕ → Target) (v : List ℕ) (test : Bool) → number_in v ≡ None → numbered make (option_and_then number_in (cond test (Some v) None)) ≡ target.Nowhere
named_case make v true e = ap (numbered make) e
named_case make v false e = refl

other_part : (front v p path : List ℕ) → path ≡ front ++ (v ++ p) → is_plain front ≡ true → is_plain p ≡ true → is_plain path ≡ false → is_plain v ≡ false
other_part front v p path is front_plain p_plain e =
    false_from_ne_true (is_plain v) (λ v_plain. both_ways (is_plain path) e (ap is_plain is ∙ plain_join front (v ++ p) front_plain (plain_join v p v_plain p_plain)))

row_nowhere : (value : Row) (num : ByNumber value) (nm v part : List ℕ) → part ≡ v → is_plain v ≡ false → target_at value ((nm, part) ∷ []) ≡ target.Nowhere
row_nowhere value num nm v part is e =
    num.2 ((nm, part) ∷ []) ∙ (λ i. numbered num.0 (number_at num.1 ((nm, is i) ∷ []))) ∙ named_case num.0 v (same_text nm num.1) (no_number v e)

nowhere : (t path : List ℕ) (r : RouteOf Row) → Good t r → Fits t path → is_plain path ≡ false → target_at r.value (parts_by r path) ≡ target.Nowhere
nowhere _ path _ (literal t r plain) f e = absurd (both_ways (is_plain path) e (ap is_plain (whole t path plain f) ∙ plain))
nowhere _ path _ (at_end front text name value num plain) f e =
    let b = behind front (256 ∷ []) path plain f in
    let a = at_part [] b.0 b.2 in
    let ends : b.0 ≡ a.0 ++ [] = a.2 ∙ ap (λ (s : List ℕ). a.0 ++ s) (begins [] a.1 a.4) in
    let is : path ≡ front ++ (a.0 ++ []) = b.1 ∙ ap (λ (s : List ℕ). front ++ s) ends in
    row_nowhere value num (part_of text name.0 name.1) a.0 _ (taken_part front [] path b.0 a.0 [] plain b.1 ends (end_stop front a.0 path is))
    (other_part front a.0 [] path is plain refl e)
nowhere _ path _ (at_slash front more text name value num plain more_plain) f e =
    let b = behind front (256 ∷ slash ∷ more) path plain f in
    let a = at_part (slash ∷ more) b.0 b.2 in
    let ends : b.0 ≡ a.0 ++ slash ∷ more = a.2 ∙ ap (λ (s : List ℕ). a.0 ++ s) (whole (slash ∷ more) a.1 more_plain a.4) in
    let is : path ≡ front ++ (a.0 ++ slash ∷ more) = b.1 ∙ ap (λ (s : List ℕ). front ++ s) ends in
    row_nowhere value num (part_of text name.0 name.1) a.0 _ (taken_part front (slash ∷ more) path b.0 a.0 (slash ∷ more) plain b.1 ends (slash_stop front a.0 more path is a.3))
    (other_part front a.0 (slash ∷ more) path is plain more_plain e)

found_nowhere : (path : List ℕ) (o : Option (RouteOf Row)) → first table path ≡ o → is_plain path ≡ false → target_on o path ≡ target.Nowhere
found_nowhere path None is e = refl
found_nowhere path (Some r) is e =
    let f = seek_fits path 0 table r is in
    nowhere f.0 path r (row_good table f.0 r table_good f.1) f.2 e

test_case : (path : List ℕ) (test : Bool) → is_plain path ≡ test → cond test (target_on (first table path) path) target.Nowhere ≡ target_on (first table path) path
test_case path true e = refl
test_case path false e = sym (found_nowhere path (first table path) refl e)

-- the test on ASCII takes no target away
pub plain_alone : (path : List ℕ) → target_of path ≡ target_on (first table path) path
plain_alone path = test_case path (is_plain path) refl
