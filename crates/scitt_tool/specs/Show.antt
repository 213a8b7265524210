-- `show`: what a statement says, line by line.
use Rattle.std.specs.Prelude.{◌≡◌, ◌⊎◌, ℕ, ◌++◌, Bool, List, length, Option, Some, None, codes, if◌then◌else◌}
use Rattle.std.specs.Fmt.{decimal}
use Rattle.hex.specs.Hex.{encode_lower}
use Rattle.cose_sign1.specs.declared.labels.Label.{Label}
use Rattle.cose_sign1.specs.declared.sign1.Sign1.{Sign1}
use Rattle.cose_sign1.specs.Sign1Of.{Sign1Of}
use Rattle.statement.specs.declared.names.ContentType.{ContentType}
use Rattle.statement.specs.declared.names.ContentType.TheVariants.{Absent, Named, Number}
use Rattle.statement.specs.declared.statement_type.Statement.{Statement}
use Rattle.statement.specs.declared.stops.ParseStop.{ParseStop}
use Rattle.statement.specs.Statements.{ParseFault}
use Rattle.statement.specs.Parsed.{StatementOf}
use Rattle.scitt_tool.specs.Answer.{Answer, line, done, refused}
use Rattle.scitt_tool.specs.Printed.{printed}
use Rattle.scitt_tool.specs.StopText.{label_text, stop_text}

abbrev pub tagged_text : Bool → List ℕ
tagged_text tagged = if tagged then codes "yes" else codes "no"

abbrev pub alg_text : Option Label → List ℕ
alg_text None = codes "none"
alg_text (Some label) = label_text label

abbrev pub type_text : ContentType → List ℕ
type_text Absent = codes "none"
type_text (Named text) = printed text
type_text (Number n) = decimal n

abbrev pub moment_text : Option ℕ → List ℕ
moment_text None = codes "none"
moment_text (Some moment) = decimal moment

-- the header: whether it is tagged, and its parameters algorithm, key name and content type
abbrev pub header_lines : List ℕ → Statement → List ℕ
header_lines tagged s =
    line (codes "tagged " ++ tagged) ++ line (codes "alg " ++ alg_text s.alg) ++ line (codes "kid " ++ encode_lower s.kid) ++ line (codes "content-type " ++ type_text s.content_type)

-- the claims
abbrev pub claim_lines : Statement → List ℕ
claim_lines s =
    line (codes "issuer " ++ printed s.issuer) ++ line (codes "subject " ++ printed s.subject) ++ line (codes "nbf " ++ moment_text s.nbf) ++ line (codes "exp " ++ moment_text s.exp) ++ line (codes "iat " ++ moment_text s.iat)

-- the sizes of the parts in bytes, the number of receipts, and the id
abbrev pub part_lines : Statement → List ℕ
part_lines s =
    line (codes "payload " ++ decimal (length s.payload)) ++ line (codes "signature " ++ decimal (length s.signature)) ++ line (codes "receipts " ++ decimal (length s.receipts)) ++ line (codes "id " ++ encode_lower s.id)

abbrev pub show_lines : Bool → Statement → List ℕ
show_lines tagged s = header_lines (tagged_text tagged) s ++ claim_lines s ++ part_lines s

-- the bytes are this message, and this statement
pub record ShowsStatement (bytes : List ℕ) (answer : Answer) : Type 0 where
  pub message : Sign1
  pub decoded : Sign1Of bytes message
  pub statement : Statement
  pub parsed : StatementOf bytes statement
  pub is : answer ≡ done (show_lines message.tagged statement)

-- they are none, for this first reason
pub record ShowsStop (bytes : List ℕ) (answer : Answer) : Type 0 where
  pub stop : ParseStop
  pub first : ParseFault bytes stop
  pub is : answer ≡ refused (codes "refused " ++ stop_text stop)

-- the answer by a file's bytes
abbrev pub ShowOf : List ℕ → Answer → Type 0
ShowOf bytes answer = ShowsStatement bytes answer ⊎ ShowsStop bytes answer
