-- The words that say what a new statement is to claim.
use Rattle.std.specs.Prelude.{ℕ, List, Option, Some, None, option_map, option_and_then, codes, if◌then◌else◌}
use Rattle.std.specs.Str.{bytes_eq}
use Rattle.scitt_draft.specs.Drafts.{Claims, claims_from}
use Rattle.scitt_tool.specs.Numbers.{number_upto}

-- a moment of at most 2^63 - 1, or `-` for none
abbrev pub moment_of : List ℕ → Option (Option ℕ)
moment_of text =
    if bytes_eq text (codes "-") then Some None else option_map Some (number_upto 9223372036854775807 text)

-- the claims that the words ISS SUB TYPE NBF EXP say
abbrev pub claims_of : List ℕ → List ℕ → List ℕ → List ℕ → List ℕ → Option Claims
claims_of iss sub type nbf exp =
    option_and_then (λ from. option_map (λ until. claims_from iss sub type from until) (moment_of exp)) (moment_of nbf)
