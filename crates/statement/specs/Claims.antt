-- What a statement says: its claims (RFC 8392, 3.1 and 4; RFC 9597, 2) and its protected parameters (RFC 9052, 3.1).
use Rattle.std.specs.Prelude.{◌≡◌, ℕ, ◌&&◌, List, [], ◌∷◌, length, Option, Some, None, Result, Ok, Err, nat_lt, nat_le, if◌then◌else◌}
use Rattle.cbor_core.specs.declared.tree.Item.{Item}
use Rattle.cbor_core.specs.declared.tree.Node.{Node-F, out-Node}
use Rattle.cbor_core.specs.Tree.{Layer}
use Rattle.cose_sign1.specs.declared.labels.Label.{Label}
use Rattle.cose_sign1.specs.Labels.{key_label, value_at}
use Rattle.cose_sign1.specs.Parts.{string_in}
use Rattle.statement.specs.declared.names.Names.{Names}
use Rattle.statement.specs.declared.names.ContentType.{ContentType}
use Rattle.statement.specs.declared.names.ContentType.TheVariants.{Absent, Named, Number}
use Rattle.statement.specs.declared.stops.ParseStop.{ParseStop}
use Rattle.statement.specs.declared.stops.ParseStop.TheVariants.{NoClaims, NoIssuer, NoSubject, NoKid, BadClaim, OutOfMemory}

-- a rule, and then those that need what it found
abbrev pub and_then : {A B : Type 0} → Result A ParseStop → (A → Result B ParseStop) → Result B ParseStop
and_then (Ok found) next = next found
and_then (Err stop) next = Err stop

-- a value that has to be there
abbrev pub or_stop : {A : Type 0} → ParseStop → Option A → Result A ParseStop
or_stop stop None = Err stop
or_stop stop (Some x) = Ok x

-- the entries of a map, where an item is one
abbrev pub map_in : Layer → Option (List (Item × Item))
map_in (Node-F.Map pairs) = Some pairs
map_in _ = None

-- the claims, the map beside label 15
abbrev pub claims_by : Option Item → Option (List (Item × Item))
claims_by None = None
claims_by (Some item) = map_in (out-Node item.node)

-- the key's name, the byte string beside label 4
abbrev pub kid_by : Option Item → Option (List ℕ)
kid_by None = None
kid_by (Some item) = string_in (out-Node item.node)

-- a name: a text of 1 to 1,024 bytes
abbrev pub name_in : Layer → Option (List ℕ)
name_in (Node-F.Text text) = if nat_lt 0 (length text) && nat_le (length text) 1024 then Some text else None
name_in _ = None

abbrev pub name_of : ℕ → Item → Result (List ℕ) ParseStop
name_of n item = or_stop (BadClaim n) (name_in (out-Node item.node))

-- a moment: an unsigned number below 2^63
abbrev pub moment_in : Layer → Option ℕ
moment_in (Node-F.Uint m) = if nat_le m 9223372036854775807 then Some m else None
moment_in _ = None

abbrev pub held : ℕ → Option ℕ → Result (Option ℕ) ParseStop
held n None = Err (BadClaim n)
held n (Some m) = Ok (Some m)

-- claim n, which may be absent, and else is a moment
abbrev pub moment_by : ℕ → Option Item → Result (Option ℕ) ParseStop
moment_by n None = Ok None
moment_by n (Some item) = held n (moment_in (out-Node item.node))

abbrev pub moment_of : ℕ → List (Item × Item) → Result (Option ℕ) ParseStop
moment_of n claims = moment_by n (value_at n claims)

-- exp, nbf and iat, claims 4, 5 and 6
unfoldable pub moments_of : List (Item × Item) → Result (Option ℕ × Option ℕ × Option ℕ) ParseStop
moments_of claims =
    and_then (moment_of 4 claims) (λ exp. and_then (moment_of 5 claims) (λ nbf. and_then (moment_of 6 claims) (λ iat. Ok (exp, nbf, iat))))

-- the alg, beside label 1
abbrev pub alg_by : Option Item → Option Label
alg_by None = None
alg_by (Some item) = key_label item

-- the content type, beside label 3
abbrev pub type_in : Layer → ContentType
type_in (Node-F.Uint n) = Number n
type_in (Node-F.Text text) = Named text
type_in _ = Absent

abbrev pub type_by : Option Item → ContentType
type_by None = Absent
type_by (Some item) = type_in (out-Node item.node)

-- what the names and moments are, beside the protected parameters
abbrev pub names_with : List (Item × Item) → List ℕ → List ℕ → List ℕ → Option ℕ × Option ℕ × Option ℕ → Names
names_with protected issuer subject kid moments = record {
  issuer = issuer;
  subject = subject;
  kid = kid;
  alg = alg_by (value_at 1 protected);
  content_type = type_by (value_at 3 protected);
  nbf = moments.1;
  exp = moments.0;
  iat = moments.2;
}

-- the same of each part
abbrev pub names_from : List ℕ → List ℕ → List ℕ → Option Label → ContentType → Option ℕ → Option ℕ → Option ℕ → Names
names_from issuer subject kid alg content_type nbf exp iat = record {
  issuer = issuer;
  subject = subject;
  kid = kid;
  alg = alg;
  content_type = content_type;
  nbf = nbf;
  exp = exp;
  iat = iat;
}

-- the values of claims that are there
unfoldable pub values_of : List (Item × Item) → List (Item × Item) → Item → Item → List ℕ → Result Names ParseStop
values_of protected claims issuer subject kid =
    and_then (name_of 1 issuer) (λ iss.
    and_then (name_of 2 subject) (λ sub.
    and_then (moments_of claims) (λ moments. Ok (names_with protected iss sub kid moments))))

-- what the protected parameters say, or the first rule that fails
unfoldable pub names_of : List (Item × Item) → Result Names ParseStop
names_of protected =
    and_then (or_stop NoClaims (claims_by (value_at 15 protected))) (λ claims.
    and_then (or_stop NoIssuer (value_at 1 claims)) (λ issuer.
    and_then (or_stop NoSubject (value_at 2 claims)) (λ subject.
    and_then (or_stop NoKid (kid_by (value_at 4 protected))) (λ kid. values_of protected claims issuer subject kid))))

-- the receipts: the byte strings of the array beside label 394, in their order
abbrev pub blob_in : Layer → List ℕ
blob_in (Node-F.Bytes bytes) = bytes
blob_in _ = []

abbrev pub blobs_of : List Item → List (List ℕ)
blobs_of [] = []
blobs_of (item ∷ items) = blob_in (out-Node item.node) ∷ blobs_of items

abbrev pub blobs_in : Layer → List (List ℕ)
blobs_in (Node-F.Array items) = blobs_of items
blobs_in _ = []

abbrev pub receipts_by : Option Item → List (List ℕ)
receipts_by None = []
receipts_by (Some item) = blobs_in (out-Node item.node)

abbrev pub receipts_of : List (Item × Item) → List (List ℕ)
receipts_of unprotected = receipts_by (value_at 394 unprotected)

-- a rule's stop stands for what the definition tells: any, where memory ran out, and else exactly that stop
abbrev pub IsStop : {A : Type 0} → ParseStop → Result A ParseStop → Type 0
IsStop OutOfMemory told = Unit {0}
IsStop stop told = told ≡ Err stop

-- a call answers what the definition tells
abbrev pub AnswersAs : {A : Type 0} → Result A ParseStop → Result A ParseStop → Type 0
AnswersAs (Ok found) told = told ≡ Ok found
AnswersAs (Err stop) told = IsStop stop told
