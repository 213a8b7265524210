-- The Sig_structure, the bytes that are signed (RFC 9052, 4.4).
use Rattle.std.specs.Prelude.{◌≡◌, ℕ, ◌+◌, ◌⊎◌, Bool, ◌||◌, List, [], ◌∷◌, ◌++◌, length, codes, if◌then◌else◌}
use Rattle.std.specs.Str.{bytes_eq}
use Rattle.cbor_core.specs.declared.words.Grammar.TheVariants.{Strict, Wide}
use Rattle.cbor_core.specs.declared.tree.Item.{Item}
use Rattle.cbor_core.specs.declared.tree.Node.TheVariants.{Bytes, Text, Array, Map}
use Rattle.cbor_core.specs.Spells.{Spells}
use Rattle.cose_sign1.specs.Strings.{string_len, string_text}

abbrev pub byte_item : List ℕ → Item
byte_item bytes = record { node = Bytes bytes }

-- the context string of a COSE_Sign1
abbrev pub signature1 : List ℕ
signature1 = codes "Signature1"

-- ["Signature1", protected, h'', payload]; the external data are empty
abbrev pub sig_structure : List ℕ → List ℕ → Item
sig_structure protected payload =
    record { node = Array (record { node = Text signature1 } ∷ byte_item protected ∷ byte_item [] ∷ byte_item payload ∷ []) }

-- a protected string without entries: no bytes at all, or an empty map in the wide grammar
abbrev pub IsNoMap : List ℕ → Type 0
IsNoMap string = (string ≡ []) ⊎ Spells Wide (record { node = Map [] }) string

-- what is signed for it: the empty string in that case, else the string as it was given (RFC 9052, 4.4, step 2)
abbrev pub IsSigned : List ℕ → List ℕ → Type 0
IsSigned protected signed = (IsNoMap protected × (signed ≡ [])) ⊎ ((IsNoMap protected → ⊥) × (signed ≡ protected))

-- the text is the Sig_structure's strict spelling
abbrev pub Tbs : List ℕ → List ℕ → List ℕ → Type 0
Tbs protected payload text = (signed : List ℕ) × IsSigned protected signed × Spells Strict (sig_structure signed payload) text

-- it has so many bytes
abbrev pub HasTbsLength : List ℕ → List ℕ → ℕ → Type 0
HasTbsLength protected payload n = (text : List ℕ) × Tbs protected payload text × (length text ≡ n)

-- the string is the empty one, or a head that spells an empty map, in one of its five sizes
abbrev pub no_map : List ℕ → Bool
no_map s =
    bytes_eq s []
    || (bytes_eq s (160 ∷ [])
    || (bytes_eq s (184 ∷ 0 ∷ [])
    || (bytes_eq s (185 ∷ 0 ∷ 0 ∷ [])
    || (bytes_eq s (186 ∷ 0 ∷ 0 ∷ 0 ∷ 0 ∷ []) || bytes_eq s (187 ∷ 0 ∷ 0 ∷ 0 ∷ 0 ∷ 0 ∷ 0 ∷ 0 ∷ 0 ∷ [])))))

-- what is signed for a protected string
unfoldable pub signed_of : List ℕ → List ℕ
signed_of protected = if no_map protected then [] else protected

-- how many bytes the Sig_structure has: the head of four, the context string, the signed string, the empty string, the payload
abbrev pub tbs_len : List ℕ → List ℕ → ℕ
tbs_len protected payload = 13 + string_len (length (signed_of protected)) + string_len (length payload)

-- an array's head and the context string, 12 bytes
abbrev pub tbs_front : List ℕ
tbs_front = 132 ∷ 106 ∷ signature1

-- the bytes that are written
unfoldable pub tbs_text : List ℕ → List ℕ → List ℕ
tbs_text signed payload = tbs_front ++ (string_text signed ++ (64 ∷ [] ++ string_text payload))
