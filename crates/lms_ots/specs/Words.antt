-- Byte strings (RFC 8554, 3.1): words of two and four bytes, parts of a string, joined strings.
use Rattle.std.specs.Prelude.{ℕ, ◌+◌, List, [], ◌∷◌, take, drop, slice_index}
use Rattle.std.specs.Int.{w16, w32, to_be_bytes, from_be_bytes}
use Rattle.std.specs.List.{flat_map, range_with_len}

-- u8str(x): one byte (3.1)
abbrev pub u8str : ℕ → List ℕ
u8str x = x ∷ []

-- u16str(x): two bytes, the high one first (3.1)
unfoldable pub u16str : ℕ → List ℕ
u16str x = to_be_bytes w16 x

-- u32str(x): four bytes, the high one first (3.1)
unfoldable pub u32str : ℕ → List ℕ
u32str x = to_be_bytes w32 x

-- strTou32 of the four bytes of s from k on (3.1)
unfoldable pub u32_at : List ℕ → ℕ → ℕ
u32_at s k = from_be_bytes w32
    (slice_index s k ∷ slice_index s (k + 1) ∷ slice_index s (k + 2) ∷ slice_index s (k + 3) ∷ [])

-- the n bytes of s from k on
unfoldable pub part : List ℕ → ℕ → ℕ → List ℕ
part s k n = take n (drop k s)

-- f 0 || f 1 || .. || f (n - 1)
unfoldable pub joined : (ℕ → List ℕ) → ℕ → List ℕ
joined f n = flat_map f (range_with_len 0 n)
