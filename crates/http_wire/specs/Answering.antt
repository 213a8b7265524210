-- The bytes of an answer.
use Rattle.std.specs.Prelude.{ℕ, List, [], ◌++◌, length, Bool, true, false, Option, None, Some, decimal, codes, unwrap_or}
use Rattle.http.specs.StatusCode.{code_digits, reason_phrase}
use Rattle.http_wire.specs.declared.answer.Answer.{Answer}
use Rattle.http_wire.specs.declared.answer.BodyKind.{BodyKind}
use Rattle.http_wire.specs.declared.answer.BodyKind.TheVariants.{Cose, Cbor, Problem}
use Rattle.http_wire.specs.declared.answer.Allow.{Allow}
use Rattle.http_wire.specs.declared.answer.Allow.TheVariants as allow

abbrev pub line_end : List ℕ
line_end = codes "\r\n"

abbrev pub type_name : BodyKind → List ℕ
type_name Cose = codes "application/cose"
type_name Cbor = codes "application/cbor"
type_name Problem = codes "application/vnd.scitt-problem+cbor"

unfoldable pub phrase_of : ℕ → List ℕ
phrase_of status = unwrap_or (reason_phrase status) []

unfoldable pub status_line : ℕ → List ℕ
status_line status = codes "HTTP/1.1 " ++ code_digits status ++ codes " " ++ phrase_of status ++ line_end

unfoldable pub type_line : BodyKind → List ℕ
type_line kind = codes "Content-Type: " ++ type_name kind ++ line_end

unfoldable pub length_line : Bool → ℕ → List ℕ
length_line true size = []
length_line false size = codes "Content-Length: " ++ decimal size ++ line_end

unfoldable pub size_line : ℕ → List ℕ
size_line size = codes "Scitt-Log-Size: " ++ decimal size ++ line_end

unfoldable pub location_line : Option ℕ → List ℕ
location_line None = []
location_line (Some index) = codes "Location: /entries/" ++ decimal index ++ line_end

unfoldable pub allow_line : Allow → List ℕ
allow_line allow.Absent = []
allow_line allow.Get = codes "Allow: GET" ++ line_end
allow_line allow.Post = codes "Allow: POST" ++ line_end

unfoldable pub close_line : Bool → List ℕ
close_line false = []
close_line true = codes "Connection: close" ++ line_end

unfoldable pub sent_body : Bool → List ℕ → List ℕ
sent_body true body = []
sent_body false body = body

-- the lines of an answer, in their order
unfoldable pub head_bytes : Answer → List ℕ
head_bytes a =
    status_line a.status ++ type_line a.kind ++ length_line a.head_only (length a.body) ++ size_line a.size
    ++ location_line a.location ++ allow_line a.allow ++ close_line a.close ++ line_end

unfoldable pub answer_bytes : Answer → List ℕ
answer_bytes a = head_bytes a ++ sent_body a.head_only a.body
