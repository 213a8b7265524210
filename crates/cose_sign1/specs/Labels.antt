-- Labels of header parameters (RFC 9052, 1.5): integers and texts, and the value that stands beside one.
use Rattle.std.specs.Prelude.{ℕ, pos, negsuc, Bool, true, false, ◌&&◌, ◌==◌, List, [], ◌∷◌, Option, Some, None, if◌then◌else◌}
use Rattle.std.specs.Option.{is_some}
use Rattle.cbor_core.specs.declared.tree.Item.{Item}
use Rattle.cbor_core.specs.declared.tree.Node.{Node-F, out-Node}
use Rattle.cbor_core.specs.Tree.{Layer}
use Rattle.cose_sign1.specs.declared.labels.Label.{Label}
use Rattle.cose_sign1.specs.declared.labels.Label.TheVariants.{Int, Text}

-- the label that a key spells: an unsigned number n is n, a negative one is -1 - n
abbrev pub label_in : Layer → Option Label
label_in (Node-F.Uint n) = Some (Int (pos n))
label_in (Node-F.Nint n) = Some (Int (negsuc n))
label_in (Node-F.Text text) = Some (Text text)
label_in _ = None

abbrev pub key_label : Item → Option Label
key_label key = label_in (out-Node key.node)

-- each key is a label
abbrev pub all_labels : List (Item × Item) → Bool
all_labels [] = true
all_labels (pair ∷ pairs) = is_some (key_label pair.0) && all_labels pairs

-- the key is the number n
abbrev pub is_number_in : ℕ → Layer → Bool
is_number_in n (Node-F.Uint m) = m == n
is_number_in n _ = false

abbrev pub key_is : ℕ → Item → Bool
key_is n key = is_number_in n (out-Node key.node)

-- the value beside the number n, where it stands among the keys
abbrev pub value_at : ℕ → List (Item × Item) → Option Item
value_at n [] = None
value_at n (pair ∷ pairs) = if key_is n pair.0 then Some pair.1 else value_at n pairs

-- the number n stands among the keys
abbrev pub has_number : ℕ → List (Item × Item) → Bool
has_number n pairs = is_some (value_at n pairs)
