-- Laws of requests.
use Rattle.std.specs.Prelude.{◌≡◌, ℕ, List, [], ◌∷◌, ◌++◌, Some, Bool, ⊤, codes}
use Rattle.http.specs.StatusCode.{IsStatusCode}
use Rattle.http_wire.specs.Answering.{phrase_of}
use Rattle.http_wire.specs.declared.request.Request.{Request}
use Rattle.http_wire.specs.declared.request.Next.{Next}
use Rattle.http_wire.specs.declared.request.Next.TheVariants as next
use Rattle.http_wire.specs.declared.request.HeadFault.{HeadFault}
use Rattle.http_wire.specs.Requests.{IsRequest, FaultByFields, LacksBody}
use Rattle.http_wire.specs.Taking.{Gives}

-- the answer is that request, or a fault of the outside or want of memory
abbrev pub Finds : Request → Next → Type 0
Finds q (next.Request p) = p ≡ q
Finds q next.ReadFault = ⊤
Finds q next.OutOfMemory = ⊤
Finds q _ = ⊥

-- a request that is in the bytes is found, however few of them were taken when the call answered
abbrev pub FoundHoweverCut : Type 0
FoundHoweverCut =
    (bytes more : List ℕ) (answer : Next) (held : List ℕ) (q : Request) (rest : List ℕ)
    → Gives bytes (Some more) answer held → IsRequest (bytes ++ more) q rest → Finds q answer

-- the answer is that fault, or a fault of the outside or want of memory
abbrev pub Refuses : HeadFault → Bool → Next → Type 0
Refuses fault of_head (next.Refused found by_head) = (found ≡ fault) × (by_head ≡ of_head)
Refuses fault of_head next.ReadFault = ⊤
Refuses fault of_head next.OutOfMemory = ⊤
Refuses fault of_head _ = ⊥

-- a fault by the fields of a whole head is answered, however few of the bytes were taken when the call answered
abbrev pub RefusedHoweverCut : Type 0
RefusedHoweverCut =
    (bytes more : List ℕ) (answer : Next) (held : List ℕ) (fault : HeadFault) (of_head : Bool)
    → Gives bytes (Some more) answer held → FaultByFields (bytes ++ more) fault of_head → Refuses fault of_head answer

-- the answer is that the input is cut short, or a fault of the outside or want of memory
abbrev pub IsCut : Next → Type 0
IsCut next.CutShort = ⊤
IsCut next.ReadFault = ⊤
IsCut next.OutOfMemory = ⊤
IsCut _ = ⊥

-- a whole head without its whole body is cut short
abbrev pub CutInBody : Type 0
CutInBody =
    (bytes more : List ℕ) (answer : Next) (held : List ℕ) → Gives bytes (Some more) answer held → LacksBody (bytes ++ more) → IsCut answer

-- the answer is the end, or a fault of the outside or want of memory
abbrev pub IsEnd : Next → Type 0
IsEnd next.Ended = ⊤
IsEnd next.ReadFault = ⊤
IsEnd next.OutOfMemory = ⊤
IsEnd _ = ⊥

-- where no byte is held or left, the answer is the end, and nowhere else
abbrev pub EndsAtTheEnd : Type 0
EndsAtTheEnd =
    ((answer : Next) (held : List ℕ) → Gives [] (Some []) answer held → IsEnd answer)
    × ((bytes more held : List ℕ) → Gives bytes (Some more) next.Ended held → bytes ++ more ≡ [])

-- the bytes begin with at most one request
abbrev pub OneRequest : Type 0
OneRequest =
    (bytes : List ℕ) (p q : Request) (r s : List ℕ) → IsRequest bytes p r → IsRequest bytes q s → (p ≡ q) × (r ≡ s)

-- the phrases of the statuses that the service answers with (RFC 9110, 15, and RFC 6585, 5)
abbrev pub phrases : List (ℕ × List ℕ)
phrases =
    (200, codes "OK") ∷ (201, codes "Created") ∷ (400, codes "Bad Request") ∷ (403, codes "Forbidden") ∷ (404, codes "Not Found")
    ∷ (405, codes "Method Not Allowed") ∷ (411, codes "Length Required") ∷ (413, codes "Payload Too Large")
    ∷ (415, codes "Unsupported Media Type") ∷ (431, codes "Request Header Fields Too Large") ∷ (503, codes "Service Unavailable") ∷ []

-- each is the status's phrase, and the status has one
abbrev pub HavePhrases : List (ℕ × List ℕ) → Type 0
HavePhrases [] = Unit {0}
HavePhrases (row ∷ rows) = (IsStatusCode row.0 × (phrase_of row.0 ≡ row.1)) × HavePhrases rows

abbrev pub Phrases : Type 0
Phrases = HavePhrases phrases
