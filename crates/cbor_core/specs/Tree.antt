-- An item as a tree, and when two are the same.
use Rattle.std.specs.Prelude.{Bool, true, false, ◌&&◌, ◌==◌, List, [], ◌∷◌, if◌then◌else◌}
use base.Stored.{Gv, gnil, gnum, gcons}
use Rattle.cbor_core.specs.declared.tree.Item.{Item}
use Rattle.cbor_core.specs.declared.tree.Node.{Node, Node-F}
use Rattle.cbor_core.specs.contracts.tree.Item.{the_row}

-- one level of an item: its kind, with its parts
abbrev pub Layer : Type 0
Layer = Node-F Node Item

-- two codes are the same
abbrev pub same_code : Gv → Gv → Bool
same_code gnil gnil = true
same_code (gnum m) (gnum n) = m == n
same_code (gcons a b) (gcons c d) = same_code a c && same_code b d
same_code _ _ = false

-- two items are the same tree
unfoldable pub same : Item → Item → Bool
same a b = same_code ((the_row.coded).code a) ((the_row.coded).code b)

-- an earlier pair has this key
unfoldable pub is_key : List (Item × Item) → Item → Bool
is_key [] item = false
is_key (pair ∷ pairs) item = if same pair.0 item then true else is_key pairs item
