-- The COSE_Sign1 that bytes are, or the first step that fails (RFC 9052, 3, 3.1 and 4.2).
use Rattle.std.specs.Prelude.{◌≡◌, ℕ, ◌/◌, ◌==◌, ◌⊎◌, Bool, slice_index, List, [], Some, None, Result, Ok, Err}
use Rattle.cbor_core.specs.declared.words.Grammar.TheVariants.{Wide}
use Rattle.cbor_core.specs.declared.words.Fault.{Fault}
use Rattle.cbor_core.specs.declared.tree.Item.{Item}
use Rattle.cbor_core.specs.Spells.{Spells}
use Rattle.cbor_core.specs.Decoding.{WholeFault}
use Rattle.cose_sign1.specs.declared.parts.Parts.{Parts}
use Rattle.cose_sign1.specs.declared.sign1.Sign1.{Sign1}
use Rattle.cose_sign1.specs.declared.sign1.Headers.{Headers}
use Rattle.cose_sign1.specs.declared.stops.Sign1Stop.{Sign1Stop}
use Rattle.cose_sign1.specs.declared.stops.Sign1Stop.TheVariants.{Cbor, Protected, NotSign1, BadHeader, DupLabel, BadCrit, OutOfMemory}
use Rattle.cose_sign1.specs.Parts.{parts_in, entries_in}
use Rattle.cose_sign1.specs.Headers.{header_fault}

-- the bytes aren't one wide item: their first fault, or bytes that follow an item
abbrev pub CborFault : List ℕ → Fault → Type 0
CborFault bytes fault = WholeFault Wide bytes fault

-- the bytes are an item of the shape, with these parts
abbrev pub HasParts : List ℕ → Parts → Type 0
HasParts bytes parts = (item : Item) × Spells Wide item bytes × (parts_in item ≡ Some parts)

-- the bytes are an item of another shape
abbrev pub HasNoParts : List ℕ → Type 0
HasNoParts bytes = (item : Item) × Spells Wide item bytes × (parts_in item ≡ None)

-- the protected string holds these entries: none where it is empty, else those of one map with labels
abbrev pub HasEntries : List ℕ → List (Item × Item) → Type 0
HasEntries string entries =
    ((string ≡ []) × (entries ≡ [])) ⊎ ((item : Item) × Spells Wide item string × (entries_in item ≡ Some entries))

-- it holds an item that is no map with labels
abbrev pub HasNoEntries : List ℕ → Type 0
HasNoEntries string = (item : Item) × Spells Wide item string × (entries_in item ≡ None)

-- it isn't empty and isn't one wide item
abbrev pub EntriesFault : List ℕ → Fault → Type 0
EntriesFault string fault = (string ≡ [] → ⊥) × CborFault string fault

-- the two maps
abbrev pub headers_with : List (Item × Item) → List (Item × Item) → Headers
headers_with protected unprotected = record { protected = protected; unprotected = unprotected }

-- the message made of its parts and its protected entries
abbrev pub message_of : Parts → List (Item × Item) → Sign1
message_of parts entries = record {
  tagged = parts.tagged;
  protected = parts.protected;
  headers = headers_with entries parts.unprotected;
  payload = parts.payload;
  signature = parts.signature;
}

-- v is the message that the bytes are
abbrev pub Sign1Of : List ℕ → Sign1 → Type 0
Sign1Of bytes v =
    (parts : Parts) × (entries : List (Item × Item)) × HasParts bytes parts × HasEntries parts.protected entries × (header_fault entries parts.unprotected ≡ None) × (v ≡ message_of parts entries)

-- the headers have this first fault
abbrev pub HeaderFault : List ℕ → Sign1Stop → Type 0
HeaderFault bytes stop =
    (parts : Parts) × (entries : List (Item × Item)) × HasParts bytes parts × HasEntries parts.protected entries × (header_fault entries parts.unprotected ≡ Some stop)

-- the first step that fails
abbrev pub Sign1Fault : List ℕ → Sign1Stop → Type 0
Sign1Fault bytes (Cbor fault) = CborFault bytes fault
Sign1Fault bytes (Protected fault) = (parts : Parts) × HasParts bytes parts × EntriesFault parts.protected fault
Sign1Fault bytes NotSign1 = HasNoParts bytes ⊎ ((parts : Parts) × HasParts bytes parts × HasNoEntries parts.protected)
Sign1Fault bytes (BadHeader label) = HeaderFault bytes (BadHeader label)
Sign1Fault bytes (DupLabel label) = HeaderFault bytes (DupLabel label)
Sign1Fault bytes BadCrit = HeaderFault bytes BadCrit
Sign1Fault bytes OutOfMemory = ⊥

-- the decoder's answer, unless memory ran out
abbrev pub Answered : List ℕ → Result Sign1 Sign1Stop → Type 0
Answered bytes (Ok v) = Sign1Of bytes v
Answered bytes (Err OutOfMemory) = Unit {0}
Answered bytes (Err stop) = Sign1Fault bytes stop

-- what reading the shape answers
abbrev pub ReadsParts : List ℕ → Result Parts Sign1Stop → Type 0
ReadsParts bytes (Ok parts) = HasParts bytes parts
ReadsParts bytes (Err (Cbor fault)) = CborFault bytes fault
ReadsParts bytes (Err NotSign1) = HasNoParts bytes
ReadsParts bytes (Err OutOfMemory) = Unit {0}
ReadsParts bytes (Err _) = ⊥

-- what reading the protected string answers
abbrev pub ReadsEntries : List ℕ → Result (List (Item × Item)) Sign1Stop → Type 0
ReadsEntries string (Ok entries) = HasEntries string entries
ReadsEntries string (Err (Protected fault)) = EntriesFault string fault
ReadsEntries string (Err NotSign1) = HasNoEntries string
ReadsEntries string (Err OutOfMemory) = Unit {0}
ReadsEntries string (Err _) = ⊥

-- the first byte is the head of a tag, major type 6 (RFC 8949, 3.4)
abbrev pub begins_tagged : List ℕ → Bool
begins_tagged bytes = slice_index bytes 0 / 32 == 6

-- a message is tagged exactly where its first byte says so
abbrev pub TagStandsFirst : Type 0
TagStandsFirst = (bytes : List ℕ) (v : Sign1) → Sign1Of bytes v → v.tagged ≡ begins_tagged bytes
