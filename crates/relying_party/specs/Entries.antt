-- The entry of a log that a receipt speaks of.
use Rattle.std.specs.Prelude.{ℕ, ◌+◌, List, [], ◌∷◌, ◌++◌, length}
use Rattle.cbor_core.specs.declared.tree.Item.{Item}
use Rattle.cbor_core.specs.Head.{head}
use Rattle.cbor_core.specs.Encoding.{size_of, head_size}
use Rattle.cbor_core.specs.Exact.{strict_text}
use Rattle.cbor_core.specs.Items.{uint_item, bytes_item, array_item}

-- [1, registered_at, rule, logged form]
abbrev pub entry_item : ℕ → ℕ → List ℕ → Item
entry_item at rule logged = array_item (uint_item 1 ∷ uint_item at ∷ uint_item rule ∷ bytes_item logged ∷ [])

-- its bytes
unfoldable pub entry_bytes : ℕ → ℕ → List ℕ → List ℕ
entry_bytes at rule logged = strict_text (entry_item at rule logged)

-- the same head by head
abbrev pub entry_text : ℕ → ℕ → List ℕ → List ℕ
entry_text at rule logged =
    (132 ∷ 1 ∷ []) ++ (head 0 (size_of at) at ++ (head 0 (size_of rule) rule ++ (head 2 (size_of (length logged)) (length logged) ++ logged)))

-- how many bytes that are, for a logged form of so many
abbrev pub entry_len : ℕ → ℕ → ℕ → ℕ
entry_len at rule n = 2 + head_size (size_of at) + head_size (size_of rule) + head_size (size_of n) + n
