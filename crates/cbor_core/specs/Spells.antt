-- Which bytes spell an item (RFC 8949, 3 and 4.2.1), by cases on the item. The number `room` says how many containers may
-- still be opened, one inside the other.
use Rattle.std.specs.Prelude.{◌≡◌, ℕ, zero, suc, ◌<◌, ◌≤◌, ◌⊎◌, Bool, true, false, not, ◌&&◌, List, [], ◌∷◌, ◌++◌, length, Option, Some, None, if◌then◌else◌}
use Rattle.std.specs.Str.{IsUtf8}
use Rattle.cbor_core.specs.declared.words.Grammar.{Grammar}
use Rattle.cbor_core.specs.declared.words.Grammar.TheVariants.{Strict, Wide}
use Rattle.cbor_core.specs.declared.words.Why.{Why}
use Rattle.cbor_core.specs.declared.words.Why.TheVariants.{DupKey, KeyOrder}
use Rattle.cbor_core.specs.declared.heads.Size.TheVariants.{Within, One, Two, Four, Eight}
use Rattle.cbor_core.specs.declared.tree.Item.{Item}
use Rattle.cbor_core.specs.declared.tree.Node.{Node-F, out-Node}
use Rattle.cbor_core.specs.Limits.{longest_string, most_parts, most_containers}
use Rattle.cbor_core.specs.Bytes.{is_below}
use Rattle.cbor_core.specs.Head.{IsHead, head, limit}
use Rattle.cbor_core.specs.Tree.{Layer, is_key}

-- the grammar is the strict one
abbrev pub is_strict : Grammar → Bool
is_strict Strict = true
is_strict Wide = false

-- a head, and then what the item contains
abbrev pub Headed : Grammar → ℕ → ℕ → (List ℕ → Type 0) → List ℕ → Type 0
Headed g major n Content text = (front : List ℕ) × (rest : List ℕ) × IsHead g major n front × Content rest × (text ≡ front ++ rest)

-- the items one after the other
unfoldable pub SpellEach : (Item → List ℕ → Type 0) → List Item → List ℕ → Type 0
SpellEach Part [] text = text ≡ []
SpellEach Part (item ∷ items) text = (front : List ℕ) × (rest : List ℕ) × Part item front × SpellEach Part items rest × (text ≡ front ++ rest)

-- what is wrong with a key behind these pairs, the last of which has its key spelled `last`: an earlier pair has it (RFC
-- 8949, 5.6), or, in strict, it isn't above the one before (RFC 8949, 4.2.1). Nothing is before the first key, and `[]` is below each
abbrev pub key_row : Grammar → List (Item × Item) → List ℕ → Item → List ℕ → Option Why
key_row g earlier last item text = if is_key earlier item then Some DupKey else (if is_strict g && not (is_below last text) then Some KeyOrder else None)

-- the pairs one after the other, each its key and its value, behind the pairs `earlier`
unfoldable pub SpellPairs : Grammar → (Item → List ℕ → Type 0) → List (Item × Item) → List ℕ → List (Item × Item) → List ℕ → Type 0
SpellPairs g Part earlier last [] text = text ≡ []
SpellPairs g Part earlier last (pair ∷ pairs) text =
    (key : List ℕ) × (value : List ℕ) × (rest : List ℕ) × Part pair.0 key × (key_row g earlier last pair.0 key ≡ None) × Part pair.1 value
    × SpellPairs g Part (earlier ++ pair ∷ []) key pairs rest × (text ≡ key ++ (value ++ rest))

-- a simple value: below 24 in one byte, from 32 on in two (RFC 8949, 3.3)
abbrev pub IsSimple : ℕ → List ℕ → Type 0
IsSimple n text = ((n < 24) × (text ≡ head 7 Within n)) ⊎ ((32 ≤ n) × (n < limit One) × (text ≡ head 7 One n))

-- a float of 2, 4 or 8 bytes (RFC 8949, 3.3): its bits, in wide alone
abbrev pub IsFloat : Grammar → ℕ → ℕ → List ℕ → Type 0
IsFloat Strict width bits text = ⊥
IsFloat Wide width bits text =
    ((width ≡ 2) × (bits < limit Two) × (text ≡ head 7 Two bits))
    ⊎ (((width ≡ 4) × (bits < limit Four) × (text ≡ head 7 Four bits))
    ⊎ ((width ≡ 8) × (bits < limit Eight) × (text ≡ head 7 Eight bits)))

-- a level of an item, given how its parts are spelled
abbrev pub SpellsLayer : Grammar → ℕ → (Item → List ℕ → Type 0) → Layer → List ℕ → Type 0
SpellsLayer g room Part (Node-F.Uint n) text = IsHead g 0 n text
SpellsLayer g room Part (Node-F.Nint n) text = IsHead g 1 n text
SpellsLayer g room Part (Node-F.Bytes bytes) text = (length bytes ≤ longest_string) × Headed g 2 (length bytes) (λ rest. rest ≡ bytes) text
SpellsLayer g room Part (Node-F.Text bytes) text = (length bytes ≤ longest_string) × IsUtf8 bytes × Headed g 3 (length bytes) (λ rest. rest ≡ bytes) text
SpellsLayer g room Part (Node-F.Array items) text = (0 < room) × (length items ≤ most_parts) × Headed g 4 (length items) (SpellEach Part items) text
SpellsLayer g room Part (Node-F.Map pairs) text = (0 < room) × (length pairs ≤ most_parts) × Headed g 5 (length pairs) (SpellPairs g Part [] [] pairs) text
SpellsLayer g room Part (Node-F.Tag n item) text = (0 < room) × Headed g 6 n (Part item) text
SpellsLayer g room Part (Node-F.Simple n) text = IsSimple n text
SpellsLayer g room Part (Node-F.Float width bits) text = IsFloat g width bits text

-- the text spells the item, with so many containers still to open
unfoldable pub SpellsIn : Grammar → ℕ → Item → List ℕ → Type 0
SpellsIn g zero item text = SpellsLayer g 0 (λ _ _. ⊥) (out-Node item.node) text
SpellsIn g (suc room) item text = SpellsLayer g (suc room) (SpellsIn g room) (out-Node item.node) text

-- the text spells the item: an array, a map or a tag stands inside at most 15 others
unfoldable pub Spells : Grammar → Item → List ℕ → Type 0
Spells g item text = SpellsIn g most_containers item text
