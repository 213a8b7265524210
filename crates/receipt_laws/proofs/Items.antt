-- Items by what they hold, and the bytes inside bytes that spell one.
use Rattle.std.proofs.Common.{◌≡◌, ℕ, zero, suc, List, [], ◌∷◌, Some, sym, ap, ◌∙◌, subst}
use Rattle.cbor_core.specs.declared.words.Grammar.TheVariants.{Strict}
use Rattle.cbor_core.specs.declared.tree.Item.{Item}
use Rattle.cbor_core.specs.declared.tree.Node.{Node, Node-F, out-Node, roll-Node, roll-out-Node}
use Rattle.cbor_core.specs.declared.tree.Node.TheVariants.{rolls-Uint, rolls-Bytes, rolls-Text, rolls-Array}
use Rattle.cbor_core.specs.Bytes.{IsBytes}
use Rattle.cbor_core.specs.Tree.{Layer}
use Rattle.cbor_core.specs.Spells.{SpellEach, SpellsLayer, SpellsIn}
use Rattle.cbor_core.specs.Items.{uint_at, bytes_at, text_at, array_at, uint_in, bytes_in, text_in, array_in, uint_item, bytes_item, text_item, array_item}
use Rattle.cbor_core.proofs.StepLemmas.{IsBytes-front, IsBytes-after}
use Rattle.receipt_laws.proofs.Lists.{some_is}

-- ---- the item that holds it

uint_layer : (l : Layer) (n : ℕ) → uint_at l ≡ Some n → l ≡ Node-F.Uint n
uint_layer (Node-F.Uint m) n e = ap (λ k. Node-F.Uint k) (some_is m n e)
uint_layer (Node-F.Nint m) n e = cc
uint_layer (Node-F.Bytes b) n e = cc
uint_layer (Node-F.Text b) n e = cc
uint_layer (Node-F.Array items) n e = cc
uint_layer (Node-F.Map pairs) n e = cc
uint_layer (Node-F.Tag m item) n e = cc
uint_layer (Node-F.Simple m) n e = cc
uint_layer (Node-F.Float width bits) n e = cc

bytes_layer : (l : Layer) (s : List ℕ) → bytes_at l ≡ Some s → l ≡ Node-F.Bytes s
bytes_layer (Node-F.Uint m) s e = cc
bytes_layer (Node-F.Nint m) s e = cc
bytes_layer (Node-F.Bytes b) s e = ap (λ x. Node-F.Bytes x) (some_is b s e)
bytes_layer (Node-F.Text b) s e = cc
bytes_layer (Node-F.Array items) s e = cc
bytes_layer (Node-F.Map pairs) s e = cc
bytes_layer (Node-F.Tag m item) s e = cc
bytes_layer (Node-F.Simple m) s e = cc
bytes_layer (Node-F.Float width bits) s e = cc

text_layer : (l : Layer) (s : List ℕ) → text_at l ≡ Some s → l ≡ Node-F.Text s
text_layer (Node-F.Uint m) s e = cc
text_layer (Node-F.Nint m) s e = cc
text_layer (Node-F.Bytes b) s e = cc
text_layer (Node-F.Text b) s e = ap (λ x. Node-F.Text x) (some_is b s e)
text_layer (Node-F.Array items) s e = cc
text_layer (Node-F.Map pairs) s e = cc
text_layer (Node-F.Tag m item) s e = cc
text_layer (Node-F.Simple m) s e = cc
text_layer (Node-F.Float width bits) s e = cc

array_layer : (l : Layer) (items : List Item) → array_at l ≡ Some items → l ≡ Node-F.Array items
array_layer (Node-F.Uint m) items e = cc
array_layer (Node-F.Nint m) items e = cc
array_layer (Node-F.Bytes b) items e = cc
array_layer (Node-F.Text b) items e = cc
array_layer (Node-F.Array xs) items e = ap (λ ys. Node-F.Array ys) (some_is xs items e)
array_layer (Node-F.Map pairs) items e = cc
array_layer (Node-F.Tag m item) items e = cc
array_layer (Node-F.Simple m) items e = cc
array_layer (Node-F.Float width bits) items e = cc

of_layer : (item : Item) (l : Layer) → out-Node item.node ≡ l → item ≡ record { node = roll-Node l }
of_layer item l e = ap (λ (x : Node). let y : Item = record { node = x } in y) (sym (roll-out-Node item.node) ∙ ap roll-Node e)

as_item : (a b : Node) → a ≡ b → ◌≡◌ {A = Item} (record { node = a }) (record { node = b })
as_item a b e = ap (λ (x : Node). let y : Item = record { node = x } in y) e

pub uint_is : (item : Item) (n : ℕ) → uint_in item ≡ Some n → item ≡ uint_item n
uint_is item n e = of_layer item (Node-F.Uint n) (uint_layer (out-Node item.node) n e) ∙ as_item _ _ (rolls-Uint n)

pub bytes_is : (item : Item) (s : List ℕ) → bytes_in item ≡ Some s → item ≡ bytes_item s
bytes_is item s e = of_layer item (Node-F.Bytes s) (bytes_layer (out-Node item.node) s e) ∙ as_item _ _ (rolls-Bytes s)

pub text_is : (item : Item) (s : List ℕ) → text_in item ≡ Some s → item ≡ text_item s
text_is item s e = of_layer item (Node-F.Text s) (text_layer (out-Node item.node) s e) ∙ as_item _ _ (rolls-Text s)

pub array_is : (item : Item) (items : List Item) → array_in item ≡ Some items → item ≡ array_item items
array_is item items e = of_layer item (Node-F.Array items) (array_layer (out-Node item.node) items e) ∙ as_item _ _ (rolls-Array items)

-- ---- what is inside bytes is bytes

string_inside : (room : ℕ) (Part : Item → List ℕ → Type 0) (l : Layer) (s text : List ℕ) → l ≡ Node-F.Bytes s → SpellsLayer Strict room Part l text → IsBytes text → IsBytes s
string_inside room Part l s text e spelled fits =
    let sp = subst (λ (x : Layer). SpellsLayer Strict room Part x text) e spelled in
    let h = sp.1 in
    subst IsBytes h.3 (IsBytes-after text h.0 h.1 fits h.4)

pub bytes_inside : (room : ℕ) (item : Item) (s text : List ℕ) → SpellsIn Strict room item text → bytes_in item ≡ Some s → IsBytes text → IsBytes s
unfolding SpellsIn
bytes_inside zero item s text spelled e fits = string_inside 0 (λ _ _. ⊥) (out-Node item.node) s text (bytes_layer (out-Node item.node) s e) spelled fits
bytes_inside (suc room) item s text spelled e fits = string_inside (suc room) (SpellsIn Strict room) (out-Node item.node) s text (bytes_layer (out-Node item.node) s e) spelled fits

-- each item is spelled by bytes
abbrev pub EachSpelled : ℕ → List Item → Type 0
EachSpelled room [] = Unit {0}
EachSpelled room (item ∷ items) = ((text : List ℕ) × SpellsIn Strict room item text × IsBytes text) × EachSpelled room items

each_inside : (room : ℕ) (items : List Item) (text : List ℕ) → SpellEach (SpellsIn Strict room) items text → IsBytes text → EachSpelled room items
unfolding SpellEach
each_inside room [] text spelled fits = tt
each_inside room (item ∷ items) text spelled fits =
    ((spelled.0, spelled.2, IsBytes-front text spelled.0 spelled.1 fits spelled.4), each_inside room items spelled.1 spelled.3 (IsBytes-after text spelled.0 spelled.1 fits spelled.4))

list_inside : (room : ℕ) (l : Layer) (items : List Item) (text : List ℕ) → l ≡ Node-F.Array items → SpellsLayer Strict (suc room) (SpellsIn Strict room) l text → IsBytes text → EachSpelled room items
list_inside room l items text e spelled fits =
    let sp = subst (λ (x : Layer). SpellsLayer Strict (suc room) (SpellsIn Strict room) x text) e spelled in
    let h = sp.2 in
    each_inside room items h.1 h.3 (IsBytes-after text h.0 h.1 fits h.4)

pub array_inside : (room : ℕ) (item : Item) (items : List Item) (text : List ℕ) → SpellsIn Strict (suc room) item text → array_in item ≡ Some items → IsBytes text → EachSpelled room items
unfolding SpellsIn
array_inside room item items text spelled e fits = list_inside room (out-Node item.node) items text (array_layer (out-Node item.node) items e) spelled fits
