-- The first byte of a message says whether it is tagged.
use Rattle.std.proofs.Common.{◌≡◌, ℕ, ◌+◌, ◌*◌, ◌/◌, ◌<◌, Bool, true, false, ◌==◌, if◌then◌else◌, List, [], ◌∷◌, ◌++◌, Option, Some, None, sym, ap, ◌∙◌, arith}
use Rattle.std.specs.Prelude.{slice_index}
use Rattle.cbor_core.specs.declared.words.Grammar.TheVariants.{Wide}
use Rattle.cbor_core.specs.declared.heads.Size.{Size}
use Rattle.cbor_core.specs.declared.heads.Size.TheVariants.{Within, One, Two, Four, Eight}
use Rattle.cbor_core.specs.declared.tree.Item.{Item}
use Rattle.cbor_core.specs.declared.tree.Node.{Node-F, out-Node}
use Rattle.cbor_core.specs.Tree.{Layer}
use Rattle.cbor_core.specs.Head.{MayStand, information, head, IsHead}
use Rattle.cbor_core.specs.Spells.{SpellsLayer, SpellsIn, Spells}
use Rattle.cose_sign1.specs.declared.parts.Parts.{Parts}
use Rattle.cose_sign1.specs.declared.sign1.Sign1.{Sign1}
use Rattle.cose_sign1.specs.Parts.{string_in, headers_in, payload_in, filled, four, array_in, tagged_in, parts_in}
use Rattle.cose_sign1.specs.Sign1Of.{begins_tagged, TagStandsFirst}

below_32 : (size : Size) (n : ℕ) → MayStand Wide size n → information size n < 32
below_32 Within n fits = omega (arith, fits)
below_32 One n fits = omega arith
below_32 Two n fits = omega arith
below_32 Four n fits = omega arith
below_32 Eight n fits = omega arith

-- the first byte of a head has its major type
first_byte : (major n : ℕ) (front rest text : List ℕ) → IsHead Wide major n front → text ≡ front ++ rest → slice_index text 0 / 32 ≡ major
first_byte major n front rest text (size, fits, is) e =
    let whole : text ≡ head major size n ++ rest = e ∙ ap (λ (f : List ℕ). f ++ rest) is in
    let first : slice_index text 0 ≡ 32 * major + information size n = ap (λ (t : List ℕ). slice_index t 0) whole in
    omega (arith, first, below_32 size n fits)

filled_tag : (t : Bool) (p : Option (List ℕ)) (u : Option (List (Item × Item))) (c : Option (Option (List ℕ))) (s : Option (List ℕ)) (parts : Parts) → filled t p u c s ≡ Some parts → parts.tagged ≡ t
filled_tag t (Some p) (Some u) (Some c) (Some s) parts e = ap (λ (o : Option Parts). elim o [ None ↦ t | Some x ↦ x.tagged ]) (sym e)
filled_tag t None u c s parts e = absurd cc
filled_tag t (Some p) None c s parts e = absurd cc
filled_tag t (Some p) (Some u) None s parts e = absurd cc
filled_tag t (Some p) (Some u) (Some c) None parts e = absurd cc

four_tag : (t : Bool) (items : List Item) (parts : Parts) → four t items ≡ Some parts → parts.tagged ≡ t
four_tag t (p ∷ u ∷ c ∷ s ∷ []) parts e =
    filled_tag t (string_in (out-Node p.node)) (headers_in (out-Node u.node)) (payload_in (out-Node c.node)) (string_in (out-Node s.node)) parts e
four_tag t [] parts e = absurd cc
four_tag t (p ∷ []) parts e = absurd cc
four_tag t (p ∷ u ∷ []) parts e = absurd cc
four_tag t (p ∷ u ∷ c ∷ []) parts e = absurd cc
four_tag t (p ∷ u ∷ c ∷ s ∷ x ∷ xs) parts e = absurd cc

array_tag : (t : Bool) (l : Layer) (parts : Parts) → array_in t l ≡ Some parts → parts.tagged ≡ t
array_tag t (Node-F.Array items) parts e = four_tag t items parts e
array_tag t (Node-F.Uint n) parts e = absurd cc
array_tag t (Node-F.Nint n) parts e = absurd cc
array_tag t (Node-F.Bytes bytes) parts e = absurd cc
array_tag t (Node-F.Text bytes) parts e = absurd cc
array_tag t (Node-F.Map pairs) parts e = absurd cc
array_tag t (Node-F.Tag n item) parts e = absurd cc
array_tag t (Node-F.Simple n) parts e = absurd cc
array_tag t (Node-F.Float width bits) parts e = absurd cc

inner_tag : (b : Bool) (inner : Layer) (parts : Parts) → (if b then array_in true inner else None) ≡ Some parts → parts.tagged ≡ true
inner_tag true inner parts e = array_tag true inner parts e
inner_tag false inner parts e = absurd cc

layer_tag : (l : Layer) (bytes : List ℕ) (parts : Parts) → tagged_in l ≡ Some parts → SpellsLayer Wide 16 (SpellsIn Wide 15) l bytes → parts.tagged ≡ begins_tagged bytes
layer_tag (Node-F.Tag n inner) bytes parts e (some, (front, rest, head, s, is)) =
    inner_tag (n == 18) (out-Node inner.node) parts e ∙ sym (ap (λ (m : ℕ). m == 6) (first_byte 6 n front rest bytes head is))
layer_tag (Node-F.Array items) bytes parts e (some, few, (front, rest, head, s, is)) =
    array_tag false (Node-F.Array items) parts e ∙ sym (ap (λ (m : ℕ). m == 6) (first_byte 4 _ front rest bytes head is))
layer_tag (Node-F.Uint n) bytes parts e s = absurd cc
layer_tag (Node-F.Nint n) bytes parts e s = absurd cc
layer_tag (Node-F.Bytes string) bytes parts e s = absurd cc
layer_tag (Node-F.Text text) bytes parts e s = absurd cc
layer_tag (Node-F.Map pairs) bytes parts e s = absurd cc
layer_tag (Node-F.Simple n) bytes parts e s = absurd cc
layer_tag (Node-F.Float width bits) bytes parts e s = absurd cc

item_tag : (item : Item) (bytes : List ℕ) (parts : Parts) → parts_in item ≡ Some parts → Spells Wide item bytes → parts.tagged ≡ begins_tagged bytes
unfolding parts_in Spells SpellsIn
item_tag item bytes parts e s = layer_tag (out-Node item.node) bytes parts e s

pub tag_first : TagStandsFirst
tag_first bytes v (parts, entries, (item, s, shape), held, fine, is) =
    ap (λ (x : Sign1). x.tagged) is ∙ item_tag item bytes parts shape s
