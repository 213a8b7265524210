-- The first fault in reading order. Inside, a fault's place is the number of bytes left there, which is the same at each level.
use Rattle.std.specs.Prelude.{◌≡◌, ℕ, zero, suc, ◌-◌, ◌<◌, ◌≤◌, ◌⊎◌, Bool, true, false, not, ◌&&◌, ◌||◌, ◌==◌, List, [], ◌∷◌, ◌++◌, length, take, Option, Some, None, Ok, Err, nat_lt}
use Rattle.std.specs.Str.{is_utf8}
use Rattle.cbor_core.specs.declared.words.Grammar.{Grammar}
use Rattle.cbor_core.specs.declared.words.Why.{Why}
use Rattle.cbor_core.specs.declared.words.Why.TheVariants.{Truncated, NotShortest, FloatHere, TooLong, TooDeep, NotUtf8}
use Rattle.cbor_core.specs.declared.heads.Size.{Size}
use Rattle.cbor_core.specs.declared.heads.Size.TheVariants.{Within, One, Two, Four, Eight}
use Rattle.cbor_core.specs.declared.heads.Head.{Head}
use Rattle.cbor_core.specs.declared.tree.Item.{Item}
use Rattle.cbor_core.specs.Limits.{longest_string, most_parts, most_containers}
use Rattle.cbor_core.specs.Rows.{first_row}
use Rattle.cbor_core.specs.Head.{head_at, least}
use Rattle.cbor_core.specs.Spells.{is_strict, key_row, SpellEach, SpellsIn}

-- the head is of a byte string or a text
abbrev pub is_string : ℕ → Bool
is_string major = major == 2 || major == 3

-- the head is of an array or a map
abbrev pub is_list : ℕ → Bool
is_list major = major == 4 || major == 5

-- major type 7 with so many bytes is a float
abbrev pub is_float : Size → Bool
is_float Within = false
is_float One = false
is_float Two = true
is_float Four = true
is_float Eight = true

-- strict: the argument has a shorter size
abbrev pub not_shortest : Grammar → Head → Bool
not_shortest g h = is_strict g && (nat_lt h.major 7 && nat_lt h.argument (least h.size))

-- strict: a float
abbrev pub float_here : Grammar → Head → Bool
float_here g h = is_strict g && (h.major == 7 && is_float h.size)

-- a string over 4,198,400 bytes, or over 4,096 items or pairs
abbrev pub string_too_long : Head → Bool
string_too_long h = is_string h.major && nat_lt longest_string h.argument

abbrev pub list_too_long : Head → Bool
list_too_long h = is_list h.major && nat_lt most_parts h.argument

-- an array, a map or a tag where no container may be opened
abbrev pub too_deep : ℕ → Head → Bool
too_deep room h = (is_list h.major || h.major == 6) && room == 0

-- the string's content is cut
abbrev pub content_cut : Head → List ℕ → Bool
content_cut h rest = is_string h.major && nat_lt (length rest) h.argument

-- the text's content is no UTF-8
abbrev pub no_text : Head → List ℕ → Bool
no_text h rest = h.major == 3 && not (is_utf8 (take h.argument rest))

-- the rows for a head that was read, with what follows it
abbrev pub rows : Grammar → ℕ → Head → List ℕ → List (Bool × Why)
rows g room h rest =
    (not_shortest g h, NotShortest) ∷ (float_here g h, FloatHere) ∷ (string_too_long h, TooLong) ∷ (list_too_long h, TooLong)
    ∷ (too_deep room h, TooDeep) ∷ (content_cut h rest, Truncated) ∷ (no_text h rest, NotUtf8) ∷ []

-- the first row that applies
abbrev pub row_of : Grammar → ℕ → Head → List ℕ → Option Why
row_of g room h rest = first_row (rows g room h rest)

-- the head is at fault
abbrev pub StuckAtHead : Grammar → ℕ → List ℕ → Why → Type 0
StuckAtHead g room bytes why =
    (head_at bytes ≡ Err why) ⊎ ((h : Head) × (rest : List ℕ) × (head_at bytes ≡ Ok (h, rest)) × (row_of g room h rest ≡ Some why))

-- some of the items, and then one at fault
abbrev pub StuckAfter : (Item → List ℕ → Type 0) → (List ℕ → ℕ → Why → Type 0) → ℕ → List ℕ → ℕ → Why → Type 0
StuckAfter Part Inner count bytes left why =
    (items : List Item) × (front : List ℕ) × (rest : List ℕ) × (length items < count) × SpellEach Part items front × Inner rest left why × (bytes ≡ front ++ rest)

-- a key is at fault, or it is no key here, or the value behind it is at fault
abbrev pub StuckAtPair : Grammar → (Item → List ℕ → Type 0) → (List ℕ → ℕ → Why → Type 0) → List (Item × Item) → List ℕ → List ℕ → ℕ → Why → Type 0
StuckAtPair g Part Inner earlier last bytes left why =
    Inner bytes left why
    ⊎ ((item : Item) × (key : List ℕ) × (rest : List ℕ) × Part item key × (bytes ≡ key ++ rest)
    × (((key_row g earlier last item key ≡ Some why) × (left ≡ length bytes)) ⊎ ((key_row g earlier last item key ≡ None) × Inner rest left why)))

-- of so many pairs some are good, and then one is at fault
unfoldable pub StuckInPairs : Grammar → (Item → List ℕ → Type 0) → (List ℕ → ℕ → Why → Type 0) → ℕ → List (Item × Item) → List ℕ → List ℕ → ℕ → Why → Type 0
StuckInPairs g Part Inner zero earlier last bytes left why = ⊥
StuckInPairs g Part Inner (suc count) earlier last bytes left why =
    StuckAtPair g Part Inner earlier last bytes left why
    ⊎ ((pair : Item × Item) × (key : List ℕ) × (value : List ℕ) × (rest : List ℕ) × Part pair.0 key × (key_row g earlier last pair.0 key ≡ None) × Part pair.1 value
    × (bytes ≡ key ++ (value ++ rest)) × StuckInPairs g Part Inner count (earlier ++ pair ∷ []) key rest left why)

-- no row applies at the head, which opens a container, and a part of it is at fault
abbrev pub StuckInside : Grammar → ℕ → (Item → List ℕ → Type 0) → (List ℕ → ℕ → Why → Type 0) → List ℕ → ℕ → Why → Type 0
StuckInside g room Part Inner bytes left why =
    (h : Head) × (rest : List ℕ) × (head_at bytes ≡ Ok (h, rest)) × (row_of g room h rest ≡ None)
    × (((h.major ≡ 4) × StuckAfter Part Inner h.argument rest left why)
    ⊎ (((h.major ≡ 5) × StuckInPairs g Part Inner h.argument [] [] rest left why)
    ⊎ ((h.major ≡ 6) × Inner rest left why)))

-- the bytes are at fault where so many of them are left, with so many containers still to open
unfoldable pub Stuck : Grammar → ℕ → List ℕ → ℕ → Why → Type 0
Stuck g zero bytes left why = StuckAtHead g 0 bytes why × (left ≡ length bytes)
Stuck g (suc room) bytes left why =
    (StuckAtHead g (suc room) bytes why × (left ≡ length bytes)) ⊎ StuckInside g (suc room) (SpellsIn g room) (Stuck g room) bytes left why

-- inside so many containers, the first fault of the bytes is at this place, counted from 0, for this reason
abbrev pub FaultIn : Grammar → ℕ → List ℕ → ℕ → Why → Type 0
FaultIn g depth bytes at why = (at ≤ length bytes) × Stuck g (most_containers - depth) bytes (length bytes - at) why
