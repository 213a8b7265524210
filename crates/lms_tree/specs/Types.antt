-- The parameter sets of LMS with SHA-256 and m = 32 (RFC 8554, 5.1), and levels.
use Rattle.std.specs.Prelude.{ℕ, ◌+◌, ◌*◌, ◌^◌, ◌==◌, List, [], ◌∷◌, Option, Some, find, option_and_then}
use Rattle.lms_ots.specs.Parameters.{parameters, type_of_code}
use Rattle.lms_ots.specs.Words.{u32_at}
use Rattle.lms_tree.specs.declared.types.LmsType.{LmsType}
use Rattle.lms_tree.specs.declared.types.LmsType.TheVariants.{H5, H10, H15, H20, H25}
use Rattle.lms_tree.specs.declared.types.LmsParameters.{LmsParameters}
use Rattle.lms_tree.specs.declared.types.Level.{Level}

-- the table: code and height (5.1)
abbrev pub lms_parameters : LmsType → LmsParameters
lms_parameters H5 = record { code = 5; height = 5 }
lms_parameters H10 = record { code = 6; height = 10 }
lms_parameters H15 = record { code = 7; height = 15 }
lms_parameters H20 = record { code = 8; height = 20 }
lms_parameters H25 = record { code = 9; height = 25 }

-- the table's types, in the order of their codes
abbrev pub all_lms_types : List LmsType
all_lms_types = H5 ∷ H10 ∷ H15 ∷ H20 ∷ H25 ∷ []

-- the type with this code, if the table has it
abbrev pub lms_type_of_code : ℕ → Option LmsType
lms_type_of_code code = find (λ kind. (lms_parameters kind).code == code) all_lms_types

-- h, the height of a level's trees
abbrev pub height : Level → ℕ
height level = (lms_parameters level.lms).height

-- 2^h, the number of leaves of a level's trees
abbrev pub leaf_count : Level → ℕ
leaf_count level = 2 ^ height level

-- the bytes of an LMS signature (5.4): q, a one-time signature, a type, and h hashes
abbrev pub sig_len : Level → ℕ
sig_len level = 4 + (parameters level.ots).sig_len + 4 + 32 * height level

-- the level whose LMS and LM-OTS codes stand from byte k on, where both are known
abbrev pub level_at : List ℕ → ℕ → Option Level
level_at bytes k = option_and_then
    (λ lms. option_and_then (λ ots. Some (record { lms = lms; ots = ots })) (type_of_code (u32_at bytes (k + 4))))
    (lms_type_of_code (u32_at bytes k))
