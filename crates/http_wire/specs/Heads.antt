-- Heads of requests as the profile takes them (RFC 9112, 2 to 6), and what their fields say.
use Rattle.std.specs.Prelude.{ℕ, ◌≤◌, List, [], ◌∷◌, ◌++◌, length, map, Bool, true, false, ◌&&◌, ◌||◌, nat_lt, nat_le, if◌then◌else◌, Option, None, Some, option_map, Result, Ok, Err, codes}
use Rattle.std.specs.List.{list_all, list_any}
use Rattle.std.specs.Str.{bytes_eq, str_eq_ignore_ascii_case}
use Rattle.std.specs.Char.{is_ascii_digit}
use Rattle.std.specs.Str.Parse.{digits_value}
use Rattle.httparse.specs.Grammar.{RequestHead, ReadsRequest, print_request, MayBecomeRequest, HasNoRequest}
use Rattle.httparse.specs.Spans.{name_and_value}
use Rattle.http_wire.specs.Tokens.{type_is, closes}
use Rattle.http_wire.specs.declared.request.HeadFault.{HeadFault}
use Rattle.http_wire.specs.declared.request.HeadFault.TheVariants.{BadHead, NoLength, TooLarge}

-- the bytes begin with that head, of at most 32 fields and 8,192 bytes, and then come the rest
pub record IsHead (bytes : List ℕ) (h : RequestHead) (rest : List ℕ) : Type 0 where
  pub reads : ReadsRequest bytes h rest
  pub fields : length h.fields ≤ 32
  pub size : length (print_request h) ≤ 8192

-- no prefix of the bytes is a head, and no continuation of them is one
abbrev pub Hopeless : List ℕ → Type 0
Hopeless bytes = (more : List ℕ) (h : RequestHead) (rest : List ℕ) → ¬ (IsHead (bytes ++ more) h rest)

-- no prefix of the bytes is a head, and some continuation may be one, but for its number of fields or a target whose
-- text isn't tested yet
abbrev pub Unfinished : List ℕ → Type 0
Unfinished bytes = HasNoRequest bytes × MayBecomeRequest bytes

-- a field's name and its value
abbrev pub Pair : Type 0
Pair = List ℕ × List ℕ

-- the values of the fields of this name, in their order
abbrev pub values_of : List ℕ → List Pair → List (List ℕ)
values_of name [] = []
values_of name (p ∷ ps) = if str_eq_ignore_ascii_case p.0 name then p.1 ∷ values_of name ps else values_of name ps

-- 1 to 10 digits
abbrev pub are_digits : List ℕ → Bool
are_digits v = nat_le 1 (length v) && nat_le (length v) 10 && list_all is_ascii_digit v

-- the number that 1 to 10 digits say
abbrev pub decimal_in : List ℕ → Option ℕ
decimal_in v = if are_digits v then Some (digits_value 10 v) else None

-- the length that the values say: none where there is no value, and no answer where they are malformed
abbrev pub length_in : List (List ℕ) → Option (Option ℕ)
length_in [] = Some None
length_in (v ∷ []) = option_map Some (decimal_in v)
length_in (v ∷ w ∷ more) = None

abbrev pub is_some_value : List (List ℕ) → Bool
is_some_value [] = false
is_some_value (v ∷ more) = true

-- how many bytes the body has, or the fault of the head, by the length, a transfer encoding and the method POST
abbrev pub framed : Option (Option ℕ) → Bool → Bool → Result ℕ HeadFault
framed None coded posts = Err BadHead
framed (Some None) coded posts = if coded || posts then Err NoLength else Ok 0
framed (Some (Some n)) coded posts = if coded then Err NoLength else (if nat_lt 4194304 n then Err TooLarge else Ok n)

abbrev pub is_post : List ℕ → Bool
is_post method = bytes_eq method (codes "POST")

abbrev pub is_head_method : List ℕ → Bool
is_head_method method = bytes_eq method (codes "HEAD")

abbrev pub body_length : List ℕ → List Pair → Result ℕ HeadFault
body_length method pairs =
    framed (length_in (values_of (codes "content-length") pairs)) (is_some_value (values_of (codes "transfer-encoding") pairs)) (is_post method)

-- the first of the values is the type `application/cose`
abbrev pub is_cose_type : List (List ℕ) → Bool
is_cose_type [] = false
is_cose_type (v ∷ more) = type_is (codes "application/cose") v

-- the body's type is `application/cose`
abbrev pub is_cose : List Pair → Bool
is_cose pairs = is_cose_type (values_of (codes "content-type") pairs)

-- a Connection field asks to close
abbrev pub has_close : List Pair → Bool
has_close pairs = list_any closes (values_of (codes "connection") pairs)

abbrev pub pairs_of : RequestHead → List Pair
pairs_of h = map name_and_value h.fields
