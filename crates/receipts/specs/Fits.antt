-- A receipt within the limits, and what is said of it.
use Rattle.std.specs.Prelude.{◌≡◌, ℕ, ◌≤◌, ◌<◌, ◌^◌, true, List, [], ◌∷◌, length, None, Result, Ok, Err}
use Rattle.std.specs.Str.{is_utf8}
use Rattle.cbor_core.specs.declared.words.Grammar.TheVariants.{Strict}
use Rattle.cbor_core.specs.declared.words.EncodeStop.{EncodeStop}
use Rattle.cbor_core.specs.declared.words.EncodeStop.TheVariants.{NotStrict, OutOfMemory}
use Rattle.cbor_core.specs.declared.tree.Item.{Item}
use Rattle.cbor_core.specs.Spells.{Spells}
use Rattle.cbor_core.specs.Encoding.{HasLength}
use Rattle.receipts.specs.declared.receipt.Receipt.{Receipt}
use Rattle.receipts.specs.declared.receipt.Proof.{Proof}
use Rattle.receipts.specs.declared.receipt.Proof.TheVariants.{Inclusion, Consistency}

-- each of them has 32 bytes
abbrev pub AreHashes : List (List ℕ) → Type 0
AreHashes [] = Unit {0}
AreHashes (h ∷ hs) = (length h ≡ 32) × AreHashes hs

-- at most 32 hashes
abbrev pub IsPath : List (List ℕ) → Type 0
IsPath path = (length path ≤ 32) × AreHashes path

-- the path of either proof
abbrev pub path_of : Proof → List (List ℕ)
path_of (Inclusion size index path at rule) = path
path_of (Consistency old size path) = path

-- a proof whose numbers and path are within the limits
abbrev pub ProofFits : Proof → Type 0
ProofFits (Inclusion size index path at rule) = (size ≤ 4294967295) × (index ≤ 4294967295) × IsPath path × (rule ≤ 65535) × (at < 2 ^ 64)
ProofFits (Consistency old size path) = (old ≤ 4294967295) × (size ≤ 4294967295) × IsPath path

-- what the protected string says is within the limits
pub record NameFits (name kid : List ℕ) (size : ℕ) : Type 0 where
  pub some : 1 ≤ length name
  pub most : length name ≤ 128
  pub utf8 : is_utf8 name ≡ true
  pub digest : length kid ≡ 32
  pub number : size ≤ 4294967295

-- a receipt within the limits
abbrev pub Fits : Receipt → Type 0
Fits r = NameFits r.name r.kid r.size × ProofFits r.proof

-- an encoder's answer: the strict bytes of the item, or that there are none or too many, unless memory ran out
abbrev pub Encodes : Item → Result (List ℕ) EncodeStop → Type 0
Encodes item (Ok bytes) = Spells Strict item bytes
Encodes item (Err NotStrict) = HasLength item None
Encodes item (Err OutOfMemory) = Unit {0}
