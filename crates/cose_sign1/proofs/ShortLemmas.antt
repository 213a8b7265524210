-- The strings of a message's item are within the limit of a string.
use Rattle.std.proofs.Common.{◌≡◌, ℕ, zero, suc, ◌≤◌, Bool, true, false, cond, ◌==◌, List, length, Option, None, Some, refl, sym, subst, ◌∙◌}
use Rattle.cbor_core.specs.declared.words.Grammar.TheVariants.{Wide}
use Rattle.cbor_core.specs.declared.tree.Item.{Item}
use Rattle.cbor_core.specs.declared.tree.Node.{Node-F, out-Node}
use Rattle.cbor_core.specs.declared.tree.Node.TheVariants.{Map, outs-Bytes, outs-Array, outs-Tag}
use Rattle.cbor_core.specs.Limits.{longest_string}
use Rattle.cbor_core.specs.Tree.{Layer}
use Rattle.cbor_core.specs.Spells.{SpellEach, SpellsLayer, SpellsIn, Spells}
use Rattle.cose_sign1.specs.declared.parts.Parts.{Parts}
use Rattle.cose_sign1.specs.declared.sign1.Sign1.{Sign1}
use Rattle.cose_sign1.specs.Tbs.{byte_item}
use Rattle.cose_sign1.specs.Parts.{array_in, tagged_in, parts_in}
use Rattle.cose_sign1.specs.Message.{payload_item, array_item, message_parts, tagged_item}
use Rattle.cose_sign1.specs.Sign1Of.{Sign1Of}
use Rattle.cose_sign1.specs.Short.{StringsAreShort}
use Rattle.cose_sign1.proofs.WholeLemmas.{array_is, parts_are_item}

-- the three strings are within the limit
abbrev AreShort : List ℕ → Option (List ℕ) → List ℕ → Type 0
AreShort protected payload signature =
    (length protected ≤ longest_string) × ((content : List ℕ) → payload ≡ Some content → length content ≤ longest_string) × (length signature ≤ longest_string)

pub string_short : (room : ℕ) (s text : List ℕ) → SpellsIn Wide room (byte_item s) text → length s ≤ longest_string
unfolding SpellsIn
string_short zero s text p = (subst (λ (l : Layer). SpellsLayer Wide 0 (λ _ _. ⊥) l text) (outs-Bytes s) p).0
string_short (suc room) s text p = (subst (λ (l : Layer). SpellsLayer Wide (suc room) (SpellsIn Wide room) l text) (outs-Bytes s) p).0

payload_short : (room : ℕ) (payload : Option (List ℕ)) (text : List ℕ) → SpellsIn Wide room (payload_item payload) text → (content : List ℕ) → payload ≡ Some content → length content ≤ longest_string
payload_short room None text p content e = absurd cc
payload_short room (Some s) text p content e = let same : s ≡ content = cc in subst (λ (x : List ℕ). length x ≤ longest_string) same (string_short room s text p)

array_short : (room : ℕ) (protected : List ℕ) (u : Item) (payload : Option (List ℕ)) (signature text : List ℕ) → SpellsIn Wide (suc room) (array_item (message_parts protected u payload signature)) text → AreShort protected payload signature
unfolding SpellsIn SpellEach
array_short room protected u payload signature text p =
    let items = message_parts protected u payload signature in
    let l = subst (λ (l : Layer). SpellsLayer Wide (suc room) (SpellsIn Wide room) l text) (outs-Array items) p in
    let a = l.2.3 in
    let b = a.3 in
    let c = b.3 in
    (string_short room protected a.0 a.2, payload_short room payload c.0 c.2, string_short room signature c.3.0 c.3.2)

tag_short : (room : ℕ) (items : List Item) (text : List ℕ) → SpellsIn Wide (suc room) (tagged_item items) text → (rest : List ℕ) × SpellsIn Wide room (array_item items) rest
unfolding SpellsIn
tag_short room items text p =
    let l = subst (λ (l : Layer). SpellsLayer Wide (suc room) (SpellsIn Wide room) l text) (outs-Tag 18 (array_item items)) p in
    (l.1.1, l.1.3)

-- an item that isn't tagged is the array of the parts
untagged_by : (n : ℕ) (inner : Item) (parts : Parts) (b : Bool) → cond b (array_in true (out-Node inner.node)) None ≡ Some parts → parts.tagged ≡ false → ⊥
untagged_by n inner parts true e t = let yes = (array_is true inner (out-Node inner.node) parts refl e).0 in let no : true ≡ false = sym yes ∙ t in cc
untagged_by n inner parts false e t = cc

untagged_is : (item : Item) (layer : Layer) (parts : Parts) → out-Node item.node ≡ layer → tagged_in layer ≡ Some parts → parts.tagged ≡ false
    → item ≡ array_item (message_parts parts.protected (record { node = Map parts.unprotected }) parts.payload parts.signature)
untagged_is item (Node-F.Array items) parts is e t = (array_is false item (Node-F.Array items) parts is e).1
untagged_is item (Node-F.Tag n inner) parts is e t = absurd (untagged_by n inner parts (n == 18) e t)
untagged_is item _ parts is e t = absurd (let none : None ≡ Some parts = e in cc)

bare_short : (item : Item) (text : List ℕ) (parts : Parts) → Spells Wide item text → parts_in item ≡ Some parts → parts.tagged ≡ false → AreShort parts.protected parts.payload parts.signature
unfolding Spells parts_in
bare_short item text parts s e t =
    array_short 15 parts.protected (record { node = Map parts.unprotected }) parts.payload parts.signature text (subst (λ (x : Item). SpellsIn Wide 16 x text) (untagged_is item (out-Node item.node) parts refl e t) s)

tagged_short : (item : Item) (text : List ℕ) (parts : Parts) → Spells Wide item text → parts_in item ≡ Some parts → parts.tagged ≡ true → AreShort parts.protected parts.payload parts.signature
unfolding Spells
tagged_short item text parts s e t =
    let u : Item = record { node = Map parts.unprotected } in
    let items = message_parts parts.protected u parts.payload parts.signature in
    let inner = tag_short 15 items text (subst (λ (x : Item). SpellsIn Wide 16 x text) (parts_are_item item parts e t) s) in
    array_short 14 parts.protected u parts.payload parts.signature inner.0 inner.1

parts_short : (item : Item) (text : List ℕ) (parts : Parts) (tagged : Bool) → Spells Wide item text → parts_in item ≡ Some parts → parts.tagged ≡ tagged → AreShort parts.protected parts.payload parts.signature
parts_short item text parts true s e t = tagged_short item text parts s e t
parts_short item text parts false s e t = bare_short item text parts s e t

pub strings_short : StringsAreShort
strings_short bytes v (parts, entries, (item, s, e), has, fine, is) =
    subst (λ (w : Sign1). AreShort w.protected w.payload w.signature) (sym is) (parts_short item bytes parts parts.tagged s e refl)

-- ---- the unprotected map

-- it is spelled where at least three containers may be opened
abbrev MapSpelled : Item → Type 0
MapSpelled u = (room : ℕ) × (text : List ℕ) × SpellsIn Wide (suc (suc room)) u text

array_map : (room : ℕ) (protected : List ℕ) (u : Item) (payload : Option (List ℕ)) (signature text : List ℕ) → SpellsIn Wide (suc (suc (suc room))) (array_item (message_parts protected u payload signature)) text → MapSpelled u
unfolding SpellsIn SpellEach
array_map room protected u payload signature text p =
    let items = message_parts protected u payload signature in
    let l = subst (λ (l : Layer). SpellsLayer Wide (suc (suc (suc room))) (SpellsIn Wide (suc (suc room))) l text) (outs-Array items) p in
    let b = l.2.3.3 in
    (room, b.0, b.2)

map_by : (item : Item) (text : List ℕ) (parts : Parts) (tagged : Bool) → Spells Wide item text → parts_in item ≡ Some parts → parts.tagged ≡ tagged → MapSpelled (record { node = Map parts.unprotected })
unfolding Spells parts_in
map_by item text parts false s e t =
    array_map 13 parts.protected (record { node = Map parts.unprotected }) parts.payload parts.signature text (subst (λ (x : Item). SpellsIn Wide 16 x text) (untagged_is item (out-Node item.node) parts refl e t) s)
map_by item text parts true s e t =
    let u : Item = record { node = Map parts.unprotected } in
    let items = message_parts parts.protected u parts.payload parts.signature in
    let inner = tag_short 15 items text (subst (λ (x : Item). SpellsIn Wide 16 x text) (parts_are_item item parts e t) s) in
    array_map 12 parts.protected u parts.payload parts.signature inner.0 inner.1

pub unprotected_spelled : (bytes : List ℕ) (v : Sign1) → Sign1Of bytes v → (room : ℕ) × (text : List ℕ) × SpellsIn Wide (suc (suc room)) (record { node = Map v.headers.unprotected }) text
unprotected_spelled bytes v (parts, entries, (item, s, e), has, fine, is) =
    subst (λ (w : Sign1). MapSpelled (record { node = Map w.headers.unprotected })) (sym is) (map_by item bytes parts parts.tagged s e refl)
