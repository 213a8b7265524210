-- The parameter sets of LM-OTS with SHA-256 and n = 32 (RFC 8554, 4.1; their rule, appendix B).
use Rattle.std.specs.Prelude.{◌≡◌, ℕ, ◌+◌, ◌-◌, ◌*◌, ◌/◌, ◌^◌, ◌<◌, ◌≤◌, ◌==◌, List, [], ◌∷◌, Option, find}
use Rattle.lms_ots.specs.declared.parameters.OtsType.{OtsType}
use Rattle.lms_ots.specs.declared.parameters.OtsType.TheVariants.{W1, W2, W4, W8}
use Rattle.lms_ots.specs.declared.parameters.OtsParameters.{OtsParameters}

-- the table: code, w, p, ls and the length of a signature (4.1)
abbrev pub parameters : OtsType → OtsParameters
parameters W1 = record { code = 1; width = 1; chains = 265; shift = 7; sig_len = 8516 }
parameters W2 = record { code = 2; width = 2; chains = 133; shift = 6; sig_len = 4292 }
parameters W4 = record { code = 3; width = 4; chains = 67; shift = 4; sig_len = 2180 }
parameters W8 = record { code = 4; width = 8; chains = 34; shift = 0; sig_len = 1124 }

-- the table's types, in the order of their codes
abbrev pub all_types : List OtsType
all_types = W1 ∷ W2 ∷ W4 ∷ W8 ∷ []

-- the type with this code, if the table has it
abbrev pub type_of_code : ℕ → Option OtsType
type_of_code code = find (λ kind. (parameters kind).code == code) all_types

-- how many digits the checksum takes: all chains but those of the 256 bits of Q
abbrev pub checksum_digits : OtsParameters → ℕ
checksum_digits row = row.chains - 256 / row.width

-- the rule of appendix B: u digits for Q, then the fewest digits that hold the greatest checksum,
-- which the shift moves to the left end of 16 bits
pub record FollowsRule (row : OtsParameters) : Type 0 where
  pub whole : 256 / row.width * row.width ≡ 256
  pub more : 256 / row.width < row.chains
  pub holds_checksum : (2 ^ row.width - 1) * (256 / row.width) < 2 ^ (row.width * checksum_digits row)
  pub fewest : 2 ^ (row.width * (checksum_digits row - 1)) ≤ (2 ^ row.width - 1) * (256 / row.width)
  pub left_end : row.shift + row.width * checksum_digits row ≡ 16
  pub length : row.sig_len ≡ 4 + 32 + 32 * row.chains
