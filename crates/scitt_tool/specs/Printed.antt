-- How texts from outside are printed: ASCII from the blank to the tilde as it is, without the backslash, and any other
-- byte as `\x` with its two digits in lower-case hexadecimal.
use Rattle.std.specs.Prelude.{ℕ, ◌||◌, ◌==◌, Bool, List, [], ◌∷◌, nat_lt, if◌then◌else◌}
use Rattle.std.specs.List.{flat_map}
use Rattle.hex.specs.Hex.{encode_lower}

-- the byte isn't printed as itself
abbrev pub is_escaped : ℕ → Bool
is_escaped byte = nat_lt byte 32 || nat_lt 126 byte || byte == 92

abbrev pub printed_byte : ℕ → List ℕ
printed_byte byte = if is_escaped byte then 92 ∷ 120 ∷ encode_lower (byte ∷ []) else byte ∷ []

abbrev pub printed : List ℕ → List ℕ
printed text = flat_map printed_byte text
