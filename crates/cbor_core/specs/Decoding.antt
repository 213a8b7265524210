-- What decoding answers, and the laws of the two grammars.
use Rattle.std.specs.Prelude.{◌≡◌, ◌≢◌, ◌↔◌, true, Any, ℕ, ◌<◌, ◌≤◌, ◌⊎◌, List, [], ◌∷◌, ◌++◌, length, take, Option, Some, None, Result, Ok, Err}
use Rattle.cbor_core.specs.declared.words.Grammar.{Grammar}
use Rattle.cbor_core.specs.declared.words.Grammar.TheVariants.{Strict}
use Rattle.cbor_core.specs.declared.words.Why.{Why}
use Rattle.cbor_core.specs.declared.words.Why.TheVariants.{Trailing}
use Rattle.cbor_core.specs.declared.words.Fault.{Fault}
use Rattle.cbor_core.specs.declared.words.DecodeStop.{DecodeStop}
use Rattle.cbor_core.specs.declared.words.DecodeStop.TheVariants.{Fault as AtFault, OutOfMemory}
use Rattle.cbor_core.specs.declared.heads.Stop.{Stop}
use Rattle.cbor_core.specs.declared.tree.Item.{Item}
use Rattle.cbor_core.specs.Limits.{most_containers}
use Rattle.cbor_core.specs.Bytes.{IsBytes}
use Rattle.cbor_core.specs.Tree.{same, is_key}
use Rattle.cbor_core.specs.Spells.{Spells}
use Rattle.cbor_core.specs.Faults.{FaultIn}
use Rattle.cbor_core.specs.Reading.{read_in}

-- a decoder's answer: the item that the first n bytes spell, or exactly the first fault, unless memory ran out
abbrev pub Decoded : Grammar → List ℕ → Result (Item × ℕ) DecodeStop → Type 0
Decoded g bytes (Ok found) = (found.1 ≤ length bytes) × Spells g found.0 (take found.1 bytes)
Decoded g bytes (Err (AtFault fault)) = FaultIn g 0 bytes fault.at fault.why
Decoded g bytes (Err OutOfMemory) = Unit {0}

-- the fault is that bytes follow the item
abbrev pub Trails : Grammar → List ℕ → Fault → Type 0
Trails g bytes fault = (fault.why ≡ Trailing) × (fault.at < length bytes) × ((item : Item) × Spells g item (take fault.at bytes))

-- why all the bytes together spell no item: their first fault, or bytes that follow an item
abbrev pub WholeFault : Grammar → List ℕ → Fault → Type 0
WholeFault g bytes fault = FaultIn g 0 bytes fault.at fault.why ⊎ Trails g bytes fault

-- the same of a decoder that demands that nothing follows
abbrev pub DecodedAll : Grammar → List ℕ → Result Item DecodeStop → Type 0
DecodedAll g bytes (Ok item) = Spells g item bytes
DecodedAll g bytes (Err (AtFault fault)) = WholeFault g bytes fault
DecodedAll g bytes (Err OutOfMemory) = Unit {0}

-- some prefix of the bytes is spelled
abbrev pub HasPrefix : Grammar → List ℕ → Type 0
HasPrefix g bytes = (item : Item) × (n : ℕ) × (n ≤ length bytes) × Spells g item (take n bytes)

-- the bytes have a first fault
abbrev pub HasFault : Grammar → List ℕ → Type 0
HasFault g bytes = (at : ℕ) × (why : Why) × FaultIn g 0 bytes at why

-- no spelling is a proper prefix of another, and equal texts spell equal items
abbrev pub PrefixFree : Type 0
PrefixFree = (g : Grammar) (a b : Item) (s t x y : List ℕ) → Spells g a s → Spells g b t → s ++ x ≡ t ++ y → (a ≡ b) × (s ≡ t)

-- an item has one strict spelling
abbrev pub OneStrictSpelling : Type 0
OneStrictSpelling = (item : Item) (s t : List ℕ) → Spells Strict item s → Spells Strict item t → s ≡ t

-- bytes have a prefix that is spelled, or a fault
abbrev pub PrefixOrFault : Type 0
PrefixOrFault = (g : Grammar) (bytes : List ℕ) → IsBytes bytes → HasPrefix g bytes ⊎ HasFault g bytes

-- and never both
abbrev pub NotBoth : Type 0
NotBoth = (g : Grammar) (bytes : List ℕ) → HasPrefix g bytes → HasFault g bytes → ⊥

-- and no two faults
abbrev pub OneFault : Type 0
OneFault = (g : Grammar) (bytes : List ℕ) (at other_at : ℕ) (why other_why : Why) → FaultIn g 0 bytes at why → FaultIn g 0 bytes other_at other_why → (at ≡ other_at) × (why ≡ other_why)

-- all the bytes together spell an item, or they have a fault
abbrev pub ItemOrFault : Type 0
ItemOrFault = (g : Grammar) (bytes : List ℕ) → IsBytes bytes → ((item : Item) × Spells g item bytes) ⊎ ((fault : Fault) × WholeFault g bytes fault)

-- and never both
abbrev pub NeverBoth : Type 0
NeverBoth = (g : Grammar) (bytes : List ℕ) (item : Item) (fault : Fault) → Spells g item bytes → WholeFault g bytes fault → ⊥

-- and no two items
abbrev pub OneItem : Type 0
OneItem = (g : Grammar) (bytes : List ℕ) (a b : Item) → Spells g a bytes → Spells g b bytes → a ≡ b

-- and no two faults
abbrev pub OneWholeFault : Type 0
OneWholeFault = (g : Grammar) (bytes : List ℕ) (a b : Fault) → WholeFault g bytes a → WholeFault g bytes b → a ≡ b

-- no item is spelled without bytes
abbrev pub NoneIsEmpty : Type 0
NoneIsEmpty = (g : Grammar) (item : Item) → Spells g item [] → ⊥

-- what is spelled is decoded to the item, whatever follows, unless memory runs out
abbrev pub RoundTrip : Type 0
RoundTrip = (g : Grammar) (item : Item) (text rest : List ℕ) (answer : Result (Item × ℕ) DecodeStop) → Spells g item text → Decoded g (text ++ rest) answer → (answer ≡ Ok (item, length text)) ⊎ (answer ≡ Err OutOfMemory)

-- what was read and left nothing
abbrev pub whole : Result (Item × List ℕ) Stop → Option Item
whole (Ok (item, [])) = Some item
whole (Ok (item, b ∷ rest)) = None
whole (Err stop) = None

-- the item that the bytes strictly spell, if they spell one
unfoldable pub strict_item : List ℕ → Option Item
strict_item bytes = whole (read_in Strict most_containers bytes)

-- what it gives is spelled so
abbrev pub ItemIsSpelled : Type 0
ItemIsSpelled = (bytes : List ℕ) (item : Item) → IsBytes bytes → strict_item bytes ≡ Some item → Spells Strict item bytes

-- what is spelled it gives
abbrev pub SpelledIsItem : Type 0
SpelledIsItem = (bytes : List ℕ) (item : Item) → Spells Strict item bytes → strict_item bytes ≡ Some item

-- the test of two items holds exactly where they are equal
abbrev pub SameIsEqual : Type 0
SameIsEqual = (a b : Item) → (same a b ≡ true) ↔ (a ≡ b)

-- the test of a key holds exactly where a pair has an equal item as its key
abbrev pub KeyIsAmong : Type 0
KeyIsAmong = (pairs : List (Item × Item)) (item : Item) → (is_key pairs item ≡ true) ↔ Any (λ pair. pair.0 ≡ item) pairs

-- that something follows is no fault of an item
abbrev pub NeverTrailing : Type 0
NeverTrailing = (g : Grammar) (depth : ℕ) (bytes : List ℕ) (at : ℕ) (why : Why) → FaultIn g depth bytes at why → why ≢ Trailing
