-- What attaching a receipt comes to.
use Rattle.std.proofs.Common.{◌≡◌, ◌≤◌, ℕ, List, length, Bool, true, false, Option, Some, None, Result, Ok, Err, IfOk, inl, inr, refl, sym, ap, ◌∙◌, le-leb}
use Rattle.std.specs.Prelude.{option_and_then, ◌&&◌}
use Rattle.std.specs.Result.{result_ok}
use Rattle.cbor_core.specs.declared.words.Grammar.TheVariants.{Strict}
use Rattle.cbor_core.specs.declared.tree.Item.{Item}
use Rattle.cbor_core.specs.Limits.{longest_string}
use Rattle.cbor_core.specs.Bytes.{IsBytes}
use Rattle.cbor_core.specs.Decoding.{strict_item, ItemIsSpelled, SpelledIsItem, NeverBoth}
use Rattle.cose_sign1.specs.declared.sign1.Sign1.{Sign1}
use Rattle.cose_sign1.specs.declared.stops.Sign1Stop.{Sign1Stop}
use Rattle.cose_sign1.specs.declared.stops.Sign1Stop.TheVariants.{Cbor as Sign1Cbor, Protected, NotSign1, BadHeader, DupLabel, BadCrit, OutOfMemory as Sign1OutOfMemory}
use Rattle.cose_sign1.specs.Sign1Of.{Sign1Of, Sign1Fault}
use Rattle.cose_sign1.specs.Attached.{Attaches, IsFull}
use Rattle.cose_sign1.specs.OneAnswer.{OneAnswer}
use Rattle.receipts.specs.declared.receipt.Receipt.{Receipt}
use Rattle.receipts.specs.declared.receipt.ReceiptStop.{ReceiptStop}
use Rattle.receipts.specs.declared.receipt.ReceiptStop.TheVariants.{Cbor, NotReceipt, BadProtected, BadProof, OutOfMemory}
use Rattle.receipts.specs.Form.{receipt_in, receipt_of, Answered, IsRefused}
use Rattle.statement.specs.declared.statement_type.Statement.{Statement}
use Rattle.statement.specs.Parsed.{StatementOf}
use Rattle.scitt_tool.specs.Answer.{Answer}
use Rattle.scitt_tool.specs.Attach.{proves_entry, is_of_entry, may_attach, NoReceipt, NoRoom, AttachOf}

may_by : (bytes : List ℕ) (o : Option Receipt) → length bytes ≤ longest_string → receipt_of bytes ≡ o → is_of_entry o ≡ may_attach bytes
may_by bytes o short found = sym (ap (λ (t : Bool). t && is_of_entry (receipt_of bytes)) (le-leb (length bytes) longest_string short) ∙ ap is_of_entry found)

of_item : (bytes : List ℕ) (item : Item) (r : Result Receipt ReceiptStop) → strict_item bytes ≡ Some item → receipt_in item ≡ r → receipt_of bytes ≡ result_ok r
unfolding receipt_of
of_item bytes item r is read = ap (option_and_then (λ (i : Item). result_ok (receipt_in i))) is ∙ ap (λ (x : Result Receipt ReceiptStop). result_ok x) read

of_none : (bytes : List ℕ) → strict_item bytes ≡ None → receipt_of bytes ≡ None
unfolding receipt_of
of_none bytes is = ap (option_and_then (λ (i : Item). result_ok (receipt_in i))) is

pub may_ok : SpelledIsItem → (bytes : List ℕ) (r : Receipt) → length bytes ≤ longest_string → Answered bytes (Ok r) → proves_entry r.proof ≡ may_attach bytes
may_ok given bytes r short answered = may_by bytes (Some r) short (of_item bytes answered.0 (Ok r) (given bytes answered.0 answered.1) answered.2)

no_item : (spelled : ItemIsSpelled) (bytes : List ℕ) (o : Option Item) → strict_item bytes ≡ o → ((item : Item) → strict_item bytes ≡ Some item → ⊥) → strict_item bytes ≡ None
no_item spelled bytes None is none = is
no_item spelled bytes (Some item) is none = absurd (none item is)

refused_none : ItemIsSpelled → SpelledIsItem → NeverBoth → (bytes : List ℕ) → IsBytes bytes → (stop : ReceiptStop) → IsRefused bytes stop → (stop ≡ OutOfMemory → ⊥) → receipt_of bytes ≡ None
refused_none spelled given never bytes fits (Cbor fault) refused other = of_none bytes (no_item spelled bytes (strict_item bytes) refl (λ item is. never Strict bytes item fault (spelled bytes item fits is) refused))
refused_none spelled given never bytes fits NotReceipt refused other = of_item bytes refused.0 (Err NotReceipt) (given bytes refused.0 refused.1) refused.2
refused_none spelled given never bytes fits BadProtected refused other = of_item bytes refused.0 (Err BadProtected) (given bytes refused.0 refused.1) refused.2
refused_none spelled given never bytes fits BadProof refused other = of_item bytes refused.0 (Err BadProof) (given bytes refused.0 refused.1) refused.2
refused_none spelled given never bytes fits OutOfMemory refused other = absurd (other refl)

module _ (spelled : ItemIsSpelled) (given : SpelledIsItem) (never : NeverBoth) (bytes : List ℕ) (fits : IsBytes bytes) (short : length bytes ≤ longest_string) where
  none : (stop : ReceiptStop) (may : Bool) → IsRefused bytes stop → (stop ≡ OutOfMemory → ⊥) → may ≡ false → may ≡ may_attach bytes
  none stop may refused other is = is ∙ may_by bytes None short (refused_none spelled given never bytes fits stop refused other)

  pub may_err : {E : Type 0} (stop : ReceiptStop) (result : Result Bool E) → Answered bytes (Err stop) → NoReceipt stop result → IfOk result (λ may. may ≡ may_attach bytes)
  may_err (Cbor fault) (Ok may) refused gone = none (Cbor fault) may refused (λ e. cc) gone
  may_err NotReceipt (Ok may) refused gone = none NotReceipt may refused (λ e. cc) gone
  may_err BadProtected (Ok may) refused gone = none BadProtected may refused (λ e. cc) gone
  may_err BadProof (Ok may) refused gone = none BadProof may refused (λ e. cc) gone
  may_err OutOfMemory (Ok may) refused gone = absurd gone
  may_err stop (Err e) refused gone = tt

-- a statement's bytes are a message, so only its receipts can stand in the way
module _ (one : OneAnswer) (bytes receipt : List ℕ) (v : Sign1) (is : Sign1Of bytes v) where
  never : (stop : Sign1Stop) → Sign1Fault bytes stop → ⊥
  never stop fault = let both : ◌≡◌ {A = Result Sign1 Sign1Stop} (Ok v) (Err stop) = one bytes (Ok v) (Err stop) is fault in cc

  full : (stop : Sign1Stop) → Attaches bytes receipt (Err stop) → (stop ≡ Sign1OutOfMemory → ⊥) → IsFull bytes
  full (Sign1Cbor fault) attaches other = absurd (never (Sign1Cbor fault) attaches)
  full (Protected fault) attaches other = absurd (never (Protected fault) attaches)
  full NotSign1 attaches other = absurd (never NotSign1 attaches)
  full (BadHeader label) (inl fault) other = absurd (never (BadHeader label) fault)
  full (BadHeader label) (inr room) other = room.1
  full (DupLabel label) attaches other = absurd (never (DupLabel label) attaches)
  full BadCrit attaches other = absurd (never BadCrit attaches)
  full Sign1OutOfMemory attaches other = absurd (other refl)

module _ (one : OneAnswer) (bytes receipt : List ℕ) (statement : Statement) (parsed : StatementOf bytes statement) (may : may_attach receipt ≡ true) where
  pub attach_err : {E : Type 0} (stop : Sign1Stop) (result : Result Answer E) → Attaches bytes receipt (Err stop) → NoRoom stop result → IfOk result (AttachOf bytes receipt)
  attach_err (Sign1Cbor fault) (Ok answer) attaches gone = inr (inr (inl (record { statement = statement; parsed = parsed; may = may; full = full one bytes receipt parsed.0.0 parsed.0.1 (Sign1Cbor fault) attaches (λ e. cc); is = gone })))
  attach_err (Protected fault) (Ok answer) attaches gone = inr (inr (inl (record { statement = statement; parsed = parsed; may = may; full = full one bytes receipt parsed.0.0 parsed.0.1 (Protected fault) attaches (λ e. cc); is = gone })))
  attach_err NotSign1 (Ok answer) attaches gone = inr (inr (inl (record { statement = statement; parsed = parsed; may = may; full = full one bytes receipt parsed.0.0 parsed.0.1 NotSign1 attaches (λ e. cc); is = gone })))
  attach_err (BadHeader label) (Ok answer) attaches gone = inr (inr (inl (record { statement = statement; parsed = parsed; may = may; full = full one bytes receipt parsed.0.0 parsed.0.1 (BadHeader label) attaches (λ e. cc); is = gone })))
  attach_err (DupLabel label) (Ok answer) attaches gone = inr (inr (inl (record { statement = statement; parsed = parsed; may = may; full = full one bytes receipt parsed.0.0 parsed.0.1 (DupLabel label) attaches (λ e. cc); is = gone })))
  attach_err BadCrit (Ok answer) attaches gone = inr (inr (inl (record { statement = statement; parsed = parsed; may = may; full = full one bytes receipt parsed.0.0 parsed.0.1 BadCrit attaches (λ e. cc); is = gone })))
  attach_err Sign1OutOfMemory (Ok answer) attaches gone = absurd gone
  attach_err stop (Err e) attaches gone = tt
