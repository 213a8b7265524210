use Rattle.receipts.proofs.Whole.{protected_is_strict, proof_is_strict, receipt_is_strict, receipt_is_read, bytes_are_receipt}
use Rattle.receipts.proofs.laws.receipts_are_read_again.Goals as goal

pub returns-clause-protected : goal.returns-clause-protected
returns-clause-protected c =
    let k = c.strict_item_by_kind.ensures in
    let l = c.strict_len_by_kind.ensures in
    protected_is_strict k.uint k.nint k.bytes k.text k.array k.map k.tag k.simple k.uint_text k.nint_text l.uint l.nint l.bytes l.text l.array l.map l.tag l.simple

pub returns-clause-proof : goal.returns-clause-proof
returns-clause-proof c =
    let k = c.strict_item_by_kind.ensures in
    let l = c.strict_len_by_kind.ensures in
    proof_is_strict k.uint k.nint k.bytes k.text k.array k.map k.tag k.simple k.uint_text k.nint_text l.uint l.nint l.bytes l.text l.array l.map l.tag l.simple

pub returns-clause-strict : goal.returns-clause-strict
returns-clause-strict c =
    let k = c.strict_item_by_kind.ensures in
    let l = c.strict_len_by_kind.ensures in
    receipt_is_strict k.uint k.nint k.bytes k.text k.array k.map k.tag k.simple k.uint_text k.nint_text l.uint l.nint l.bytes l.text l.array l.map l.tag l.simple c.strict_items_are_spelled.ensures.spelled c.strict_text_is_exact.ensures.given

pub returns-clause-again : goal.returns-clause-again
returns-clause-again c =
    let k = c.strict_item_by_kind.ensures in
    let l = c.strict_len_by_kind.ensures in
    receipt_is_read k.uint k.nint k.bytes k.text k.array k.map k.tag k.simple k.uint_text k.nint_text l.uint l.nint l.bytes l.text l.array l.map l.tag l.simple c.strict_items_are_spelled.ensures.again

pub returns-clause-bytes : goal.returns-clause-bytes
returns-clause-bytes c =
    let k = c.strict_item_by_kind.ensures in
    let l = c.strict_len_by_kind.ensures in
    bytes_are_receipt k.uint k.nint k.bytes k.text k.array k.map k.tag k.simple k.uint_text k.nint_text l.uint l.nint l.bytes l.text l.array l.map l.tag l.simple c.strict_items_are_spelled.ensures.again c.strict_item_is_exact.ensures.given
