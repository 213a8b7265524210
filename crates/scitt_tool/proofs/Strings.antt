-- Items that are byte strings, and the tree over them.
use Rattle.std.proofs.Common.{◌≡◌, ◌+◌, ◌<◌, ◌≤◌, ◌++◌, ℕ, List, [], ◌∷◌, length, map, take, get_or, sym, ◌∙◌, ap, subst, arith}
use Rattle.std.proofs.lemmas.List.{take_more, get_or-map, map-append, length-map}
use Rattle.cbor_core.specs.declared.tree.Item.{Item}
use Rattle.cbor_core.specs.declared.tree.Node.{Node, Node-F, out-Node}
use Rattle.cbor_core.specs.declared.tree.Node.TheVariants.{Array, Bytes, outs-Array}
use Rattle.cbor_core.specs.declared.words.Grammar.TheVariants.{Strict}
use Rattle.cbor_core.specs.Tree.{Layer}
use Rattle.cbor_core.specs.Spells.{Spells, SpellsIn, SpellsLayer}
use Rattle.merkle_tree.specs.Mth.{leaf_hash}
use Rattle.cose_sign1.specs.Tbs.{byte_item}
use Rattle.scitt_tool.specs.Root.{HoldsItems}

-- the next item is a byte string, and its leaf was pushed
pub push_string : (items : List Item) (i : ℕ) (item : Item) (bytes : List ℕ) (leaves : List (List ℕ)) → i < length items → item ≡ get_or items i item → item.node ≡ Bytes bytes
    → HoldsItems (take i items) leaves → HoldsItems (take (i + 1) items) (leaves ++ leaf_hash bytes ∷ [])
push_string items i item bytes leaves within is string held =
    let here : get_or items i item ≡ byte_item bytes = sym is ∙ ap (λ (node : Node). record { node = node }) string in
    record {
      strings = held.strings ++ bytes ∷ [];
      items_are = rw (take_more items i item within, here, held.items_are) (sym (map-append byte_item held.strings (bytes ∷ [])));
      leaves_are = rw held.leaves_are (sym (map-append leaf_hash held.strings (bytes ∷ [])));
    }

-- an item that is no byte string
pub no_strings : (items : List Item) (i : ℕ) (item : Item) → i < length items → item ≡ get_or items i item → ((bytes : List ℕ) → item.node ≡ Bytes bytes → ⊥)
    → (strings : List (List ℕ)) → items ≡ map byte_item strings → ⊥
no_strings items i item within is other strings all =
    let inside : i < length strings = omega (arith, ap length all, length-map strings byte_item) in
    let string : get_or items i item ≡ byte_item (get_or strings i []) = rw all (get_or-map byte_item strings i [] item inside) in
    other (get_or strings i []) (ap (λ (x : Item). x.node) (is ∙ string))

-- an array that is spelled is within its limit
pub array_short : (item : Item) (items : List Item) (bytes : List ℕ) → item.node ≡ Array items → Spells Strict item bytes → length items ≤ 4096
unfolding Spells SpellsIn
array_short item items bytes is spelled =
    let layer : out-Node item.node ≡ Node-F.Array items = ap out-Node is ∙ outs-Array items in
    (subst (λ (level : Layer). SpellsLayer Strict 16 (SpellsIn Strict 15) level bytes) layer spelled).1
