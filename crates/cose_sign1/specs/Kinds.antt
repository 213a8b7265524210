-- The kind of value that a label wants (RFC 9052, 3.1; RFC 9597, 2; the profile for 394).
use Rattle.std.specs.Prelude.{ℕ, Bool, true, false, ◌&&◌, ◌==◌, List, [], ◌∷◌, length, nat_lt, nat_le, if◌then◌else◌}
use Rattle.cbor_core.specs.declared.tree.Item.{Item}
use Rattle.cbor_core.specs.declared.tree.Node.{Node-F, out-Node}
use Rattle.cbor_core.specs.Tree.{Layer}

-- alg (1): an integer or a text
abbrev pub is_alg : Layer → Bool
is_alg (Node-F.Uint n) = true
is_alg (Node-F.Nint n) = true
is_alg (Node-F.Text text) = true
is_alg _ = false

-- crit (2): an array
abbrev pub is_array : Layer → Bool
is_array (Node-F.Array items) = true
is_array _ = false

-- content type (3): a text of at most 1,024 bytes, or an unsigned number
abbrev pub is_type : Layer → Bool
is_type (Node-F.Uint n) = true
is_type (Node-F.Text text) = nat_le (length text) 1024
is_type _ = false

-- kid (4): a byte string of 1 to 64 bytes
abbrev pub is_kid : Layer → Bool
is_kid (Node-F.Bytes bytes) = nat_lt 0 (length bytes) && nat_le (length bytes) 64
is_kid _ = false

-- CWT claims (15): a map
abbrev pub is_map : Layer → Bool
is_map (Node-F.Map pairs) = true
is_map _ = false

-- a byte string
abbrev pub is_string : Layer → Bool
is_string (Node-F.Bytes bytes) = true
is_string _ = false

abbrev pub all_strings : List Item → Bool
all_strings [] = true
all_strings (item ∷ items) = is_string (out-Node item.node) && all_strings items

-- receipts (394): an array of byte strings
abbrev pub is_receipts : Layer → Bool
is_receipts (Node-F.Array items) = all_strings items
is_receipts _ = false

-- the value is of the kind that the number wants; other numbers have any value
abbrev pub kind_of : ℕ → Layer → Bool
kind_of n value =
    if n == 1 then is_alg value
    else (if n == 2 then is_array value
    else (if n == 3 then is_type value
    else (if n == 4 then is_kid value
    else (if n == 15 then is_map value
    else (if n == 394 then is_receipts value
    else true)))))

-- the same of a key; texts and negative numbers have any value
abbrev pub kind_at : Layer → Layer → Bool
kind_at (Node-F.Uint n) value = kind_of n value
kind_at _ value = true

unfoldable pub has_kind : Item × Item → Bool
has_kind entry = kind_at (out-Node entry.0.node) (out-Node entry.1.node)
