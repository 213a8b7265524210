-- `verify`: what a relying party answers of a transparent statement.
use Rattle.std.specs.Prelude.{◌≡◌, ◌⊎◌, ℕ, ◌+◌, ◌++◌, Bool, true, false, List, [], ◌∷◌, codes}
use Rattle.std.specs.Fmt.{decimal}
use Rattle.relying_party.specs.declared.trust.Trust.{Trust}
use Rattle.relying_party.specs.declared.trust.TrustStop.{TrustStop}
use Rattle.relying_party.specs.declared.answers.ReceiptResult.{ReceiptResult}
use Rattle.relying_party.specs.declared.answers.ReceiptResult.TheVariants.{Accepted, Refused}
use Rattle.relying_party.specs.declared.answers.StatementCheck.{StatementCheck}
use Rattle.relying_party.specs.declared.answers.StatementCheck.TheVariants.{Parse, NoReceipts, IssuerUnknown, IssuerSignature, Fine}
use Rattle.relying_party.specs.declared.answers.Verdict.{Verdict}
use Rattle.relying_party.specs.TrustFiles.{TrustOf, TrustFault}
use Rattle.relying_party.specs.Accepts.{Accepts}
use Rattle.scitt_tool.specs.Answer.{Answer, line, done, refused}

-- the statement itself
abbrev pub check_text : StatementCheck → List ℕ
check_text (Parse stop) = codes "statement refused Parse"
check_text NoReceipts = codes "statement refused NoReceipts"
check_text IssuerUnknown = codes "statement refused IssuerUnknown"
check_text IssuerSignature = codes "statement refused IssuerSignature"
check_text Fine = codes "statement fine"

-- where an accepted receipt stands, and when and by which rule it was registered
abbrev pub place_text : ℕ → ℕ → List ℕ
place_text size index = codes "accepted size " ++ decimal size ++ (codes " index " ++ decimal index)

abbrev pub entry_text : ℕ → ℕ → List ℕ
entry_text at rule = codes " registered " ++ decimal at ++ (codes " rule " ++ decimal rule)

abbrev pub result_text : ReceiptResult → List ℕ
result_text (Accepted size root index at rule) = place_text size index ++ entry_text at rule
result_text (Refused rule) = codes "refused rule " ++ decimal rule

abbrev pub number_text : ℕ → List ℕ
number_text number = codes "receipt " ++ decimal number ++ codes " "

abbrev pub receipt_line : ℕ → ReceiptResult → List ℕ
receipt_line number receipt = line (number_text number ++ result_text receipt)

-- the receipts in their order, numbered from here on
abbrev pub receipt_lines : ℕ → List ReceiptResult → List ℕ
receipt_lines number [] = []
receipt_lines number (receipt ∷ receipts) = receipt_line number receipt ++ receipt_lines (number + 1) receipts

-- the lines above, and whether the whole is accepted
abbrev pub ended : Bool → List ℕ → Answer
ended true text = done (text ++ line (codes "accepted"))
ended false text = refused (text ++ codes "refused")

abbrev pub verdict_answer : Verdict → Answer
verdict_answer v = ended v.accepted (line (check_text v.statement) ++ receipt_lines 0 v.receipts)

-- the bytes are no trust file
pub record TrustsNone (bytes : List ℕ) (answer : Answer) : Type 0 where
  pub stop : TrustStop
  pub first : TrustFault bytes stop
  pub is : answer ≡ refused (codes "refused trust")

-- they are one, and this is the verdict
pub record GivesVerdict (bytes statement : List ℕ) (answer : Answer) : Type 0 where
  pub trust : Trust
  pub trusted : TrustOf bytes trust
  pub verdict : Verdict
  pub accepts : Accepts trust statement verdict
  pub is : answer ≡ verdict_answer verdict

-- the answer by the bytes of a trust file and of a statement
abbrev pub VerifyOf : List ℕ → List ℕ → Answer → Type 0
VerifyOf bytes statement answer = TrustsNone bytes answer ⊎ GivesVerdict bytes statement answer
