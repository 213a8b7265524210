-- How a refusal to parse a statement is printed.
use Rattle.std.specs.Prelude.{ℕ, ◌++◌, List, codes}
use Rattle.std.specs.Fmt.{decimal, signed_decimal}
use Rattle.cose_sign1.specs.declared.labels.Label.{Label}
use Rattle.cose_sign1.specs.declared.labels.Label.TheVariants.{Int, Text}
use Rattle.cose_sign1.specs.declared.stops.Sign1Stop.{Sign1Stop}
use Rattle.cose_sign1.specs.declared.stops.Sign1Stop.TheVariants.{Cbor, Protected, NotSign1, BadHeader, DupLabel, BadCrit, OutOfMemory as Sign1OutOfMemory}
use Rattle.statement.specs.declared.stops.ParseStop.{ParseStop}
use Rattle.statement.specs.declared.stops.ParseStop.TheVariants.{Sign1, Detached, NoClaims, NoIssuer, NoSubject, NoKid, BadClaim, TooLarge, OutOfMemory}
use Rattle.scitt_tool.specs.FaultText.{fault_text}
use Rattle.scitt_tool.specs.Printed.{printed}

-- a label: a number, or a text from outside
abbrev pub label_text : Label → List ℕ
label_text (Int n) = signed_decimal n
label_text (Text text) = printed text

-- a message's refusal: a fault of CBOR with its place, or a name, and the label that it names
abbrev pub sign1_text : Sign1Stop → List ℕ
sign1_text (Cbor fault) = codes "cbor " ++ fault_text fault
sign1_text (Protected fault) = codes "protected " ++ fault_text fault
sign1_text NotSign1 = codes "NotSign1"
sign1_text (BadHeader label) = codes "BadHeader " ++ label_text label
sign1_text (DupLabel label) = codes "DupLabel " ++ label_text label
sign1_text BadCrit = codes "BadCrit"
sign1_text Sign1OutOfMemory = codes "OutOfMemory"

-- a statement's refusal
abbrev pub stop_text : ParseStop → List ℕ
stop_text (Sign1 stop) = sign1_text stop
stop_text Detached = codes "Detached"
stop_text NoClaims = codes "NoClaims"
stop_text NoIssuer = codes "NoIssuer"
stop_text NoSubject = codes "NoSubject"
stop_text NoKid = codes "NoKid"
stop_text (BadClaim n) = codes "BadClaim " ++ decimal n
stop_text TooLarge = codes "TooLarge"
stop_text OutOfMemory = codes "OutOfMemory"
