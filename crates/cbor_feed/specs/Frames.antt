-- Containers under work: what becomes of one that is handed its next part.
use Rattle.std.specs.Prelude.{◌≡◌, ℕ, ◌-◌, ◌≤◌, true, false, ◌==◌, List, [], ◌∷◌, ◌++◌, length, take, drop, Option, Some, None, if◌then◌else◌}
use Rattle.cbor_core.specs.declared.words.Grammar.{Grammar}
use Rattle.cbor_core.specs.declared.words.Why.{Why}
use Rattle.cbor_core.specs.declared.tree.Item.{Item}
use Rattle.cbor_core.specs.declared.tree.Node.TheVariants.{Array as ArrayNode, Map as MapNode, Tag as TagNode}
use Rattle.cbor_core.specs.Bytes.{is_below}
use Rattle.cbor_core.specs.Tree.{is_key}
use Rattle.cbor_core.specs.Spells.{is_strict, key_row}
use Rattle.cbor_feed.specs.declared.frames.Span.{Span}
use Rattle.cbor_feed.specs.declared.frames.Frame.{Frame}
use Rattle.cbor_feed.specs.declared.frames.Parts.{Parts}
use Rattle.cbor_feed.specs.declared.frames.Parts.TheVariants.{Items, Key, Value, Tag}
use Rattle.cbor_feed.specs.declared.frames.Step.{Step}
use Rattle.cbor_feed.specs.declared.frames.Step.TheVariants.{Goes, Whole, Stuck}

-- the bytes that a span names
abbrev pub span_in : List ℕ → Span → List ℕ
span_in bytes span = take (span.to - span.from) (drop span.from bytes)

-- the span names bytes that are there
abbrev pub IsIn : Span → List ℕ → Type 0
IsIn span bytes = (span.from ≤ span.to) × (span.to ≤ length bytes)

-- the spelling that a map keeps is there
abbrev pub AreIn : Parts → List ℕ → Type 0
AreIn (Items left items) held = Unit {0}
AreIn (Key left pairs last) held = IsIn last held
AreIn (Value left pairs text) held = IsIn text held
AreIn (Tag n) held = Unit {0}

-- in strict a key above the last one is no earlier one
abbrev pub IsFresh : Grammar → List ℕ → List (Item × Item) → Span → Item → Span → Type 0
IsFresh g held pairs last key text = is_strict g ≡ true → is_below (span_in held last) (span_in held text) ≡ true → is_key pairs key ≡ false

-- the same of the next part, where it is a key
abbrev pub IsFreshAt : Grammar → List ℕ → ℕ → Item → ℕ → Parts → Type 0
IsFreshAt g held start item end (Items left items) = Unit {0}
IsFreshAt g held start item end (Key left pairs last) = IsFresh g held pairs last item (record { from = start; to = end })
IsFreshAt g held start item end (Value left pairs text) = Unit {0}
IsFreshAt g held start item end (Tag n) = Unit {0}

abbrev pub IsFreshIn : Grammar → List ℕ → Frame → Item → ℕ → Type 0
IsFreshIn g held frame item end = IsFreshAt g held frame.start item end frame.parts

-- an array with the part added
abbrev pub items_step : ℕ → List Item → ℕ → Step
items_step left items end =
    if left == 0 then Whole (record { node = ArrayNode items }) else Goes (record { start = end; parts = Items (left - 1) items })

-- a map with the pair added
abbrev pub pairs_step : ℕ → List (Item × Item) → Span → ℕ → Step
pairs_step left pairs text end =
    if left == 0 then Whole (record { node = MapNode pairs }) else Goes (record { start = end; parts = Key (left - 1) pairs text })

-- a map whose key is judged
abbrev pub key_judged : Option Why → ℕ → List (Item × Item) → Item → Span → Step
key_judged (Some why) left pairs key text = Stuck why
key_judged None left pairs key text = Goes (record { start = text.to; parts = Value left (pairs, key) text })

abbrev pub key_step : Grammar → List ℕ → ℕ → List (Item × Item) → Span → Item → Span → Step
key_step g held left pairs last key text = key_judged (key_row g pairs (span_in held last) key (span_in held text)) left pairs key text

abbrev pub parts_taken : Grammar → List ℕ → ℕ → Item → ℕ → Parts → Step
parts_taken g held start item end (Items left items) = items_step left (items ++ item ∷ []) end
parts_taken g held start item end (Key left pairs last) = key_step g held left pairs last item (record { from = start; to = end })
parts_taken g held start item end (Value left (pairs, key) text) = pairs_step left (pairs ++ (key, item) ∷ []) text end
parts_taken g held start item end (Tag n) = Whole (record { node = TagNode n item })

-- a container that is handed its next part, which ends there
abbrev pub taken : Grammar → List ℕ → Frame → Item → ℕ → Step
taken g held frame item end = parts_taken g held frame.start item end frame.parts
