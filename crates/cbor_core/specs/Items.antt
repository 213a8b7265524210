-- What an item holds, by its kind, and the items that hold such things (RFC 8949, 3.1).
use Rattle.std.specs.Prelude.{ℕ, Bool, false, ◌==◌, List, Option, Some, None}
use Rattle.cbor_core.specs.declared.tree.Item.{Item}
use Rattle.cbor_core.specs.declared.tree.Node.{Node-F, out-Node}
use Rattle.cbor_core.specs.declared.tree.Node.TheVariants.{Uint, Nint, Bytes, Text, Array, Map, Tag, Simple}
use Rattle.cbor_core.specs.Tree.{Layer}

-- ---- by the level that an item shows

abbrev pub uint_at : Layer → Option ℕ
uint_at (Node-F.Uint n) = Some n
uint_at _ = None

abbrev pub nint_at : Layer → Option ℕ
nint_at (Node-F.Nint n) = Some n
nint_at _ = None

abbrev pub bytes_at : Layer → Option (List ℕ)
bytes_at (Node-F.Bytes bytes) = Some bytes
bytes_at _ = None

abbrev pub text_at : Layer → Option (List ℕ)
text_at (Node-F.Text text) = Some text
text_at _ = None

abbrev pub array_at : Layer → Option (List Item)
array_at (Node-F.Array items) = Some items
array_at _ = None

abbrev pub map_at : Layer → Option (List (Item × Item))
map_at (Node-F.Map pairs) = Some pairs
map_at _ = None

abbrev pub tag_at : Layer → Option (ℕ × Item)
tag_at (Node-F.Tag n item) = Some (n, item)
tag_at _ = None

abbrev pub simple_at : Layer → Option ℕ
simple_at (Node-F.Simple n) = Some n
simple_at _ = None

-- ---- what an item holds, where it is of the kind

-- an unsigned number
abbrev pub uint_in : Item → Option ℕ
uint_in item = uint_at (out-Node item.node)

-- n, of the negative number -1 - n
abbrev pub nint_in : Item → Option ℕ
nint_in item = nint_at (out-Node item.node)

-- a byte string's bytes
abbrev pub bytes_in : Item → Option (List ℕ)
bytes_in item = bytes_at (out-Node item.node)

-- a text's UTF-8 bytes
abbrev pub text_in : Item → Option (List ℕ)
text_in item = text_at (out-Node item.node)

-- an array's items
abbrev pub array_in : Item → Option (List Item)
array_in item = array_at (out-Node item.node)

-- a map's pairs
abbrev pub map_in : Item → Option (List (Item × Item))
map_in item = map_at (out-Node item.node)

-- a tag's number and what it tags
abbrev pub tag_in : Item → Option (ℕ × Item)
tag_in item = tag_at (out-Node item.node)

-- a simple value
abbrev pub simple_in : Item → Option ℕ
simple_in item = simple_at (out-Node item.node)

abbrev pub is_number : ℕ → Option ℕ → Bool
is_number n None = false
is_number n (Some m) = m == n

-- the item is the number n
abbrev pub is_uint : ℕ → Item → Bool
is_uint n item = is_number n (uint_in item)

-- the item is the number -1 - n
abbrev pub is_nint : ℕ → Item → Bool
is_nint n item = is_number n (nint_in item)

-- the item is nil, the simple value 22 (RFC 8949, 3.3)
abbrev pub is_nil : Item → Bool
is_nil item = is_number 22 (simple_in item)

-- ---- the items that hold such things

abbrev pub uint_item : ℕ → Item
uint_item n = record { node = Uint n }

-- the number -1 - n
abbrev pub nint_item : ℕ → Item
nint_item n = record { node = Nint n }

abbrev pub bytes_item : List ℕ → Item
bytes_item bytes = record { node = Bytes bytes }

abbrev pub text_item : List ℕ → Item
text_item text = record { node = Text text }

abbrev pub array_item : List Item → Item
array_item items = record { node = Array items }

abbrev pub map_item : List (Item × Item) → Item
map_item pairs = record { node = Map pairs }

abbrev pub tag_item : ℕ → Item → Item
tag_item n item = record { node = Tag n item }

abbrev pub nil_item : Item
nil_item = record { node = Simple 22 }
