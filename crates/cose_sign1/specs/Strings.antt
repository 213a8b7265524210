-- The strict spelling of a byte string (RFC 8949, 3.1 and 4.2.1).
use Rattle.std.specs.Prelude.{ℕ, ◌+◌, List, ◌++◌, length}
use Rattle.cbor_core.specs.Head.{head}
use Rattle.cbor_core.specs.Encoding.{size_of, head_size}

-- how many bytes the head of a string of so many bytes has
unfoldable pub head_len : ℕ → ℕ
head_len n = head_size (size_of n)

-- the head of a byte string
unfoldable pub string_head : ℕ → List ℕ
string_head n = head 2 (size_of n) n

-- a byte string: its head and its bytes
abbrev pub string_text : List ℕ → List ℕ
string_text bytes = string_head (length bytes) ++ bytes

-- how many bytes that are
abbrev pub string_len : ℕ → ℕ
string_len n = head_len n + n
