-- `attach` has an answer for all bytes.
use Rattle.std.proofs.Common.{◌≡◌, ℕ, ◌≤◌, ◌⊎◌, Bool, true, false, List, length, Result, Ok, Err, inl, inr, refl, leb-true}
use Rattle.std.specs.Prelude.{nat_le, codes, ◌++◌}
use Rattle.std.proofs.lemmas.Bool.{cases_lt, and_parts}
use Rattle.cbor_core.specs.Bytes.{IsBytes}
use Rattle.cbor_core.specs.Limits.{longest_string, most_parts}
use Rattle.cbor_core.specs.Decoding.{SameIsEqual}
use Rattle.cbor_core.specs.Exact.{StrictIsWide}
use Rattle.cbor_core.specs.Fitting.{StrictIsSpelled, UintFits, BytesFit, ArrayFits, MapFits, TagFits, SimpleFits, UintText, UintLength, BytesLength, ArrayLength, MapLength, TagLength, SimpleLength}
use Rattle.cose_sign1.specs.declared.sign1.Sign1.{Sign1}
use Rattle.cose_sign1.specs.Short.{StringsAreShort}
use Rattle.cose_sign1.specs.Sign1Of.{Sign1Of}
use Rattle.cose_sign1.specs.Attached.{receipt_items, attached_item, HasRoom, IsFull, Attaches}
use Rattle.cose_sign1.proofs.AttachLemmas.{attached_is, attached_strict}
use Rattle.statement.specs.declared.statement_type.Statement.{Statement}
use Rattle.statement.specs.declared.stops.ParseStop.{ParseStop}
use Rattle.statement.specs.Parsed.{StatementOf}
use Rattle.statement.specs.OneAnswer.{AnswerOf, SomeAnswer}
use Rattle.receipts.specs.Form.{receipt_of}
use Rattle.scitt_tool.specs.Answer.{Answer, done, refused}
use Rattle.scitt_tool.specs.StopText.{stop_text}
use Rattle.scitt_tool.specs.Attach.{AttachOf, is_of_entry, may_attach}

abbrev Has : (Answer → Type 0) → Type 0
Has P = (answer : Answer) × P answer

either : (b : Bool) → (b ≡ true) ⊎ (b ≡ false)
either true = inl refl
either false = inr refl

-- a receipt that may be attached is short enough for a string
short_enough : (receipt : List ℕ) → may_attach receipt ≡ true → length receipt ≤ longest_string
short_enough receipt may =
    let parts = and_parts (nat_le (length receipt) longest_string) (is_of_entry (receipt_of receipt)) may in
    leb-true (length receipt) longest_string parts.0

module _ (same : SameIsEqual) (wide : StrictIsWide) (spelled : StrictIsSpelled) (short : StringsAreShort)
    (uint : UintFits) (bytes_fit : BytesFit) (array : ArrayFits) (map : MapFits) (tag : TagFits) (simple : SimpleFits) (uint_text : UintText)
    (uint_len : UintLength) (bytes_len : BytesLength) (array_len : ArrayLength) (map_len : MapLength) (tag_len : TagLength) (simple_len : SimpleLength) where
  -- a message with room has strict bytes with one receipt more
  attaches : (bytes receipt : List ℕ) (v : Sign1) → Sign1Of bytes v → HasRoom v → length receipt ≤ longest_string → (attached : List ℕ) × Attaches bytes receipt (Ok attached)
  attaches bytes receipt v is room few =
      let strict = attached_strict uint bytes_fit array map tag simple uint_text uint_len bytes_len array_len map_len tag_len simple_len short bytes receipt v is room few in
      let text = spelled (attached_item v receipt) strict.0 in
      (text.0, (v, is, room, (text.1, attached_is same wide bytes receipt text.0 v is text.1)))

  by_room : (bytes receipt : List ℕ) (s : Statement) (v : Sign1) → StatementOf bytes s → Sign1Of bytes v → may_attach receipt ≡ true → Has (AttachOf bytes receipt)
  by_room bytes receipt s v parsed is may =
      elim (cases_lt (length (receipt_items v.headers.unprotected)) most_parts) [
        | inl room ↦
            let found = attaches bytes receipt v is room (short_enough receipt may) in
            (done found.0, inr (inr (inr (record { statement = s; parsed = parsed; may = may; attached = found.0; spelled = found.1; is = refl }))))
        | inr full ↦
            (refused (codes "refused BadHeader 394"), inr (inr (inl (record { statement = s; parsed = parsed; may = may; full = (v, is, full); is = refl }))))
      ]

  by_statement : (bytes receipt : List ℕ) (s : Statement) → StatementOf bytes s → Has (AttachOf bytes receipt)
  by_statement bytes receipt s parsed =
      elim (either (may_attach receipt)) [
        | inl may ↦ (let read = parsed.0 in by_room bytes receipt s read.0 parsed read.1 may)
        | inr none ↦ (refused (codes "refused receipt"), inr (inl (record { statement = s; parsed = parsed; none = none; is = refl })))
      ]

  by_answer : (bytes receipt : List ℕ) (answer : Result Statement ParseStop) → AnswerOf bytes answer → Has (AttachOf bytes receipt)
  by_answer bytes receipt (Ok s) parsed = by_statement bytes receipt s parsed
  by_answer bytes receipt (Err stop) first = (refused (codes "refused " ++ stop_text stop), inl (record { stop = stop; first = first; is = refl }))

  pub some_attach : SomeAnswer → (bytes receipt : List ℕ) → IsBytes bytes → Has (AttachOf bytes receipt)
  some_attach some bytes receipt fits = let found = some bytes fits in by_answer bytes receipt found.0 found.1
