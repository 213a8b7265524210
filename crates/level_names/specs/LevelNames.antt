-- The word that names a key's levels: one to three names joined by commas, each with the height of its trees and the bits of a
-- digit (RFC 8554, 4.1 and 5.1).
use Rattle.std.specs.Prelude.{ℕ, ◌+◌, ◌==◌, Bool, List, [], ◌∷◌, take, drop, position, Option, Some, None, option_map, option_and_then, codes, if◌then◌else◌}
use Rattle.std.specs.Str.{bytes_eq}
use Rattle.lms_ots.specs.declared.parameters.OtsType.{OtsType}
use Rattle.lms_ots.specs.declared.parameters.OtsType.TheVariants.{W1, W2, W4, W8}
use Rattle.lms_tree.specs.declared.types.LmsType.{LmsType}
use Rattle.lms_tree.specs.declared.types.LmsType.TheVariants.{H5, H10}
use Rattle.lms_tree.specs.declared.types.Level.{Level}

abbrev pub level : LmsType → OtsType → Level
level lms ots = record { lms = lms; ots = ots }

-- the level of this name
abbrev pub level_named : List ℕ → Option Level
level_named text =
    if bytes_eq text (codes "h5w1") then Some (level H5 W1)
    else (if bytes_eq text (codes "h5w2") then Some (level H5 W2)
    else (if bytes_eq text (codes "h5w4") then Some (level H5 W4)
    else (if bytes_eq text (codes "h5w8") then Some (level H5 W8)
    else (if bytes_eq text (codes "h10w1") then Some (level H10 W1)
    else (if bytes_eq text (codes "h10w2") then Some (level H10 W2)
    else (if bytes_eq text (codes "h10w4") then Some (level H10 W4)
    else (if bytes_eq text (codes "h10w8") then Some (level H10 W8)
    else None)))))))

-- a comma
abbrev pub is_comma : ℕ → Bool
is_comma byte = byte == 44

abbrev pub one_level : List ℕ → Option (List Level)
one_level text = option_map (λ l. l ∷ []) (level_named text)

-- the level before the first comma, and then those behind it; one level where there is no comma
abbrev pub joined : (List ℕ → Option (List Level)) → List ℕ → Option ℕ → Option (List Level)
joined behind text None = one_level text
joined behind text (Some i) =
    option_and_then (λ first. option_map (λ rest. first ∷ rest) (behind (drop (i + 1) text))) (level_named (take i text))

-- one or two levels
abbrev pub two_levels : List ℕ → Option (List Level)
two_levels text = joined one_level text (position is_comma text)

-- one to three levels
abbrev pub levels_named : List ℕ → Option (List Level)
levels_named text = joined two_levels text (position is_comma text)
