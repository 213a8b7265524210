-- `attach`: a statement with one receipt more.
use Rattle.std.specs.Prelude.{◌≡◌, ◌⊎◌, ℕ, ◌++◌, ◌&&◌, Bool, true, false, List, length, Option, Some, None, Result, Ok, Err, nat_le, codes}
use Rattle.cbor_core.specs.Limits.{longest_string}
use Rattle.cose_sign1.specs.declared.stops.Sign1Stop.{Sign1Stop}
use Rattle.cose_sign1.specs.declared.stops.Sign1Stop.TheVariants.{OutOfMemory as Sign1OutOfMemory}
use Rattle.receipts.specs.declared.receipt.ReceiptStop.{ReceiptStop}
use Rattle.receipts.specs.declared.receipt.ReceiptStop.TheVariants.{OutOfMemory as ReceiptOutOfMemory}
use Rattle.cose_sign1.specs.Attached.{Attaches, IsFull}
use Rattle.receipts.specs.declared.receipt.Receipt.{Receipt}
use Rattle.receipts.specs.declared.receipt.Proof.{Proof}
use Rattle.receipts.specs.declared.receipt.Proof.TheVariants.{Inclusion, Consistency}
use Rattle.receipts.specs.Form.{receipt_of}
use Rattle.statement.specs.declared.statement_type.Statement.{Statement}
use Rattle.statement.specs.declared.stops.ParseStop.{ParseStop}
use Rattle.statement.specs.Statements.{ParseFault}
use Rattle.statement.specs.Parsed.{StatementOf}
use Rattle.scitt_tool.specs.Answer.{Answer, done, refused}
use Rattle.scitt_tool.specs.StopText.{stop_text}

-- the receipt proves that an entry is in a log
abbrev pub proves_entry : Proof → Bool
proves_entry (Inclusion size index path at rule) = true
proves_entry (Consistency old size path) = false

abbrev pub is_of_entry : Option Receipt → Bool
is_of_entry None = false
is_of_entry (Some receipt) = proves_entry receipt.proof

-- the bytes are a receipt of an entry that isn't too long for a message
abbrev pub may_attach : List ℕ → Bool
may_attach bytes = nat_le (length bytes) longest_string && is_of_entry (receipt_of bytes)

-- the bytes are no statement, for this first reason
pub record AttachesToNone (bytes : List ℕ) (answer : Answer) : Type 0 where
  pub stop : ParseStop
  pub first : ParseFault bytes stop
  pub is : answer ≡ refused (codes "refused " ++ stop_text stop)

-- they are one, and the other file is no receipt that may be attached
pub record AttachesNone (bytes receipt : List ℕ) (answer : Answer) : Type 0 where
  pub statement : Statement
  pub parsed : StatementOf bytes statement
  pub none : may_attach receipt ≡ false
  pub is : answer ≡ refused (codes "refused receipt")

-- both are fine, and the statement has as many receipts as it may have
pub record HasNoRoom (bytes receipt : List ℕ) (answer : Answer) : Type 0 where
  pub statement : Statement
  pub parsed : StatementOf bytes statement
  pub may : may_attach receipt ≡ true
  pub full : IsFull bytes
  pub is : answer ≡ refused (codes "refused BadHeader 394")

-- the statement with the receipt is printed
pub record AttachesOne (bytes receipt : List ℕ) (answer : Answer) : Type 0 where
  pub statement : Statement
  pub parsed : StatementOf bytes statement
  pub may : may_attach receipt ≡ true
  pub attached : List ℕ
  pub spelled : Attaches bytes receipt (Ok attached)
  pub is : answer ≡ done attached

-- the answer by the bytes of a statement and of a receipt
abbrev pub AttachOf : List ℕ → List ℕ → Answer → Type 0
AttachOf bytes receipt answer =
    AttachesToNone bytes answer ⊎ (AttachesNone bytes receipt answer ⊎ (HasNoRoom bytes receipt answer ⊎ AttachesOne bytes receipt answer))

-- a refusal to read a receipt, but for want of memory, means that there is none
abbrev pub NoReceipt : {E : Type 0} → ReceiptStop → Result Bool E → Type 0
NoReceipt ReceiptOutOfMemory (Ok may) = ⊥
NoReceipt _ (Ok may) = may ≡ false
NoReceipt stop (Err none) = Unit {0}

-- a refusal to attach to a statement, but for want of memory, means that there is no room
abbrev pub NoRoom : {E : Type 0} → Sign1Stop → Result Answer E → Type 0
NoRoom Sign1OutOfMemory (Ok answer) = ⊥
NoRoom _ (Ok answer) = answer ≡ refused (codes "refused BadHeader 394")
NoRoom stop (Err none) = Unit {0}
