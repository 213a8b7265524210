-- The parts of a Connection field and the type of a Content-Type field (RFC 9110, 5.6, 7.6.1 and 8.3).
use Rattle.std.specs.Prelude.{ℕ, List, [], ◌∷◌, Bool, if◌then◌else◌, ◌==◌, codes}
use Rattle.std.specs.List.{list_any}
use Rattle.std.specs.Str.{str_eq_ignore_ascii_case}
use Rattle.httparse.specs.Grammar.{trim_ows}

-- the bytes before the first that is this one, or all
abbrev pub before : ℕ → List ℕ → List ℕ
before stop [] = []
before stop (b ∷ bs) = if b == stop then [] else b ∷ before stop bs

-- a byte more at the front of the first part
abbrev pub wider : ℕ → List (List ℕ) → List (List ℕ)
wider b [] = (b ∷ []) ∷ []
wider b (part ∷ parts) = (b ∷ part) ∷ parts

-- the parts of a value, cut at its commas
abbrev pub parts_of : List ℕ → List (List ℕ)
parts_of [] = [] ∷ []
parts_of (b ∷ bs) = if b == 44 then [] ∷ parts_of bs else wider b (parts_of bs)

-- the part, trimmed of spaces and tabs, is the word without regard to ASCII case
abbrev pub is_token : List ℕ → List ℕ → Bool
is_token word part = str_eq_ignore_ascii_case (trim_ows part) word

-- a part of a Connection field's value is `close`
abbrev pub closes : List ℕ → Bool
closes value = list_any (is_token (codes "close")) (parts_of value)

-- the type up to its first semicolon
abbrev pub type_is : List ℕ → List ℕ → Bool
type_is name value = is_token name (before 59 value)
