-- What is wrong with the header parameters: the first entry at fault, the protected ones first, and then crit (RFC 9052, 3 and 3.1).
use Rattle.std.specs.Prelude.{ℕ, nat_lt, Bool, true, false, not, ◌&&◌, ◌||◌, ◌==◌, List, [], ◌∷◌, length, Option, Some, None, Result, Ok, Err, ◌≡◌, if◌then◌else◌}
use Rattle.std.specs.Option.{option_map}
use Rattle.cbor_core.specs.declared.tree.Item.{Item}
use Rattle.cbor_core.specs.declared.tree.Node.{Node-F, out-Node}
use Rattle.cbor_core.specs.Tree.{Layer, is_key}
use Rattle.cose_sign1.specs.declared.stops.Sign1Stop.{Sign1Stop}
use Rattle.cose_sign1.specs.declared.stops.Sign1Stop.TheVariants.{BadHeader, DupLabel, BadCrit, OutOfMemory}
use Rattle.cose_sign1.specs.Labels.{key_label, key_is, value_at, has_number}
use Rattle.cose_sign1.specs.Kinds.{has_kind}

-- the first of two faults
abbrev pub or_then : Option Sign1Stop → Option Sign1Stop → Option Sign1Stop
or_then (Some stop) later = Some stop
or_then None later = later

-- the fault at the first entry that has one
unfoldable pub first_fault : (Item × Item → Option Sign1Stop) → List (Item × Item) → Option Sign1Stop
first_fault fault [] = None
first_fault fault (entry ∷ entries) = or_then (fault entry) (first_fault fault entries)

-- a fault that names the entry's label
abbrev pub named : (Item → Option Sign1Stop) → Bool → Item → Option Sign1Stop
named stop wrong key = if wrong then stop key else None

abbrev pub bad_header : Item → Option Sign1Stop
bad_header key = option_map BadHeader (key_label key)

abbrev pub dup_label : Item → Option Sign1Stop
dup_label key = option_map DupLabel (key_label key)

-- a protected entry: its value is of the wrong kind, or it is the receipts, which stand unprotected alone
abbrev pub protected_fault : Item × Item → Option Sign1Stop
protected_fault entry = named bad_header (not (has_kind entry) || key_is 394 entry.0) entry.0

-- an unprotected entry: its label stands in the protected map (RFC 9052, 3), or its value is of the wrong kind
abbrev pub unprotected_fault : List (Item × Item) → Item × Item → Option Sign1Stop
unprotected_fault protected entry = or_then (named dup_label (is_key protected entry.0) entry.0) (named bad_header (not (has_kind entry)) entry.0)

-- the labels that crit may list
abbrev pub is_understood : ℕ → Bool
is_understood n = n == 1 || (n == 2 || (n == 3 || (n == 4 || (n == 15 || (n == 395 || n == 396)))))

-- a label that crit lists is understood, and stands in the protected map
abbrev pub is_listed_in : List (Item × Item) → Layer → Bool
is_listed_in protected (Node-F.Uint n) = is_understood n && has_number n protected
is_listed_in protected _ = false

abbrev pub all_listed : List (Item × Item) → List Item → Bool
all_listed protected [] = true
all_listed protected (item ∷ items) = is_listed_in protected (out-Node item.node) && all_listed protected items

-- crit's value: an array that isn't empty, of such labels (RFC 9052, 3.1)
abbrev pub crit_in : List (Item × Item) → Layer → Bool
crit_in protected (Node-F.Array items) = nat_lt 0 (length items) && all_listed protected items
crit_in protected _ = false

abbrev pub crit_fine : List (Item × Item) → Option Item → Bool
crit_fine protected None = true
crit_fine protected (Some value) = crit_in protected (out-Node value.node)

-- crit stands unprotected, or its value is at fault
abbrev pub bad_crit : List (Item × Item) → List (Item × Item) → Bool
bad_crit protected unprotected = has_number 2 unprotected || not (crit_fine protected (value_at 2 protected))

abbrev pub crit_fault : List (Item × Item) → List (Item × Item) → Option Sign1Stop
crit_fault protected unprotected = if bad_crit protected unprotected then Some BadCrit else None

-- the first fault of the headers
unfoldable pub header_fault : List (Item × Item) → List (Item × Item) → Option Sign1Stop
header_fault protected unprotected =
    or_then (first_fault protected_fault protected) (or_then (first_fault (unprotected_fault protected) unprotected) (crit_fault protected unprotected))

-- a check's answer: nothing where nothing is wrong, else exactly the fault, unless memory ran out
abbrev pub Stops : Sign1Stop → Option Sign1Stop → Type 0
Stops OutOfMemory fault = Unit {0}
Stops stop fault = fault ≡ Some stop

abbrev pub Says : {A : Type 0} → Result A Sign1Stop → Option Sign1Stop → Type 0
Says (Ok x) fault = fault ≡ None
Says (Err stop) fault = Stops stop fault
