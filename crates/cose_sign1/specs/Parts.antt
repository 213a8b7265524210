-- The shape of a COSE_Sign1 (RFC 9052, 4.2), tagged by 18 or not, and what its protected string holds (RFC 9052, 3).
use Rattle.std.specs.Prelude.{ℕ, Bool, true, false, ◌==◌, List, [], ◌∷◌, Option, Some, None, if◌then◌else◌}
use Rattle.cbor_core.specs.declared.tree.Item.{Item}
use Rattle.cbor_core.specs.declared.tree.Node.{Node-F, out-Node}
use Rattle.cbor_core.specs.Tree.{Layer}
use Rattle.cose_sign1.specs.declared.parts.Parts.{Parts}
use Rattle.cose_sign1.specs.Labels.{all_labels}

-- a byte string
abbrev pub string_in : Layer → Option (List ℕ)
string_in (Node-F.Bytes bytes) = Some bytes
string_in _ = None

-- a map whose keys are labels
abbrev pub labelled : List (Item × Item) → Option (List (Item × Item))
labelled pairs = if all_labels pairs then Some pairs else None

abbrev pub headers_in : Layer → Option (List (Item × Item))
headers_in (Node-F.Map pairs) = labelled pairs
headers_in _ = None

-- a byte string, or nil, the simple value 22, for a detached payload
abbrev pub payload_in : Layer → Option (Option (List ℕ))
payload_in (Node-F.Bytes bytes) = Some (Some bytes)
payload_in (Node-F.Simple n) = if n == 22 then Some None else None
payload_in _ = None

-- the four parts, each of its kind
abbrev pub filled : Bool → Option (List ℕ) → Option (List (Item × Item)) → Option (Option (List ℕ)) → Option (List ℕ) → Option Parts
filled t (Some p) (Some u) (Some c) (Some s) = Some (record { tagged = t; protected = p; unprotected = u; payload = c; signature = s })
filled t _ _ _ _ = None

abbrev pub four : Bool → List Item → Option Parts
four t (p ∷ u ∷ c ∷ s ∷ []) = filled t (string_in (out-Node p.node)) (headers_in (out-Node u.node)) (payload_in (out-Node c.node)) (string_in (out-Node s.node))
four t _ = None

abbrev pub array_in : Bool → Layer → Option Parts
array_in t (Node-F.Array items) = four t items
array_in t _ = None

abbrev pub tagged_in : Layer → Option Parts
tagged_in (Node-F.Tag n inner) = if n == 18 then array_in true (out-Node inner.node) else None
tagged_in layer = array_in false layer

-- the parts of an item that has the shape
unfoldable pub parts_in : Item → Option Parts
parts_in item = tagged_in (out-Node item.node)

-- the entries of a map with labels
unfoldable pub entries_in : Item → Option (List (Item × Item))
entries_in item = headers_in (out-Node item.node)
