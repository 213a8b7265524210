-- The number that the digits of a length say.
use Rattle.std.proofs.Common.{◌≡◌, ℕ, ◌+◌, ◌-◌, ◌*◌, ◌<◌, ◌≤◌, List, [], ◌∷◌, ◌++◌, length, take, get_or, true, refl, sym, ap, ◌∙◌, subst, arith, rules, length-take, drop, take-append-drop}
use Rattle.std.proofs.lemmas.List.{take_more}
use Rattle.std.specs.List.{list_all}
use Rattle.std.specs.Char.{is_ascii_digit, digit_value}
use Rattle.std.specs.Str.Parse.{digits_value, digits_value_after}
use Rattle.std.proofs.lemmas.Str.Parse.{IsNumeralModel, numerals_by_value, digits_value_short, digit_at}
use Rattle.std.proofs.lemmas.Bool.Decides.{nat_tests}
use Rattle.http_wire.specs.Heads.{are_digits}

abbrev pub AreDigits : List ℕ → Type 0
AreDigits ds = list_all is_ascii_digit ds ≡ true

pub own : IsNumeralModel AreDigits (digits_value 10)
own = numerals_by_value AreDigits (search rules)

digits_after_push : (n : ℕ) (ds : List ℕ) (c : ℕ) → digits_value_after 10 n (ds ++ c ∷ []) ≡ digits_value_after 10 n ds * 10 + digit_value c
digits_after_push n [] c = refl
digits_after_push n (d ∷ ds) c = digits_after_push (n * 10 + digit_value d) ds c

all_front : (xs ys : List ℕ) → AreDigits (xs ++ ys) → AreDigits xs
all_front [] ys h = refl
all_front (x ∷ xs) ys h = grind (arith, nat_tests, all_front xs ys)

pub digits_take : (ds : List ℕ) (i : ℕ) → AreDigits ds → AreDigits (take i ds)
digits_take ds i h = all_front (take i ds) (drop i ds) (subst AreDigits (sym (take-append-drop i ds)) h)

-- so few digits make a small number
pub few_digits : (ds : List ℕ) (i : ℕ) → AreDigits ds → length ds ≤ 10 → digits_value 10 (take i ds) < 10000000000
few_digits ds i h few = digits_value_short own (take i ds) 10 (digits_take ds i h) (omega (arith, length-take i ds))

-- one digit more
pub one_digit_more : (ds : List ℕ) (i : ℕ) → AreDigits ds → i < length ds
    → digits_value 10 (take (i + 1) ds) ≡ digits_value 10 (take i ds) * 10 + (get_or ds i 0 - 48)
one_digit_more ds i h below =
    let digit = digit_at ds i (own.to ds h) below in
    let value : digit_value (get_or ds i 0) ≡ get_or ds i 0 - 48 = grind (arith, nat_tests) in
    ap (digits_value 10) (take_more ds i 0 below) ∙ digits_after_push 0 (take i ds) (get_or ds i 0) ∙ ap (λ (n : ℕ). digits_value 10 (take i ds) * 10 + n) value

pub digit_range : (ds : List ℕ) (i : ℕ) → AreDigits ds → i < length ds → (48 ≤ get_or ds i 0) × (get_or ds i 0 ≤ 57)
digit_range ds i h below = let digit = digit_at ds i (own.to ds h) below in (digit.0, digit.1)

pub length_parts : (v : List ℕ) → are_digits v ≡ true → AreDigits v × (length v ≤ 10)
length_parts v e = (grind (arith, nat_tests), grind (arith, nat_tests))
