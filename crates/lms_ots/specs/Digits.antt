-- The digits of a hashed message and its checksum (RFC 8554, 3.1.3 and 4.4).
use Rattle.std.specs.Prelude.{ℕ, ◌+◌, ◌-◌, ◌*◌, ◌/◌, ◌%◌, ◌^◌, List, ◌++◌, map, sum, slice_index}
use Rattle.std.specs.List.{range_with_len}
use Rattle.lms_ots.specs.declared.parameters.OtsType.{OtsType}
use Rattle.lms_ots.specs.Parameters.{parameters}
use Rattle.lms_ots.specs.Words.{u16str}

-- coef(s, i, w), digit i of s in w bits, the most significant first (3.1.3)
unfoldable pub coef : List ℕ → ℕ → ℕ → ℕ
coef s i w = slice_index s (i * w / 8) / 2 ^ (8 - (w * (i % (8 / w)) + w)) % 2 ^ w

-- the sum over the first n digits of how far each is below 2^w - 1 (4.4)
unfoldable pub shortfall : List ℕ → ℕ → ℕ → ℕ
shortfall s w n = sum (map (λ i. 2 ^ w - 1 - coef s i w) (range_with_len 0 n))

-- the checksum of the 32 bytes q, shifted left by ls (4.4)
abbrev pub checksum : OtsType → List ℕ → ℕ
checksum kind q =
    shortfall q (parameters kind).width (256 / (parameters kind).width) * 2 ^ (parameters kind).shift

-- digit i of q || checksum, which is how many steps chain i has in a signature (4.5)
abbrev pub digit : OtsType → List ℕ → ℕ → ℕ
digit kind q i = coef (q ++ u16str (checksum kind q)) i (parameters kind).width

-- 2^w - 1, the number of steps of a whole chain (4.3)
abbrev pub top : OtsType → ℕ
top kind = 2 ^ (parameters kind).width - 1
