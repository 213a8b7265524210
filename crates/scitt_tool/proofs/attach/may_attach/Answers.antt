use Rattle.std.proofs.Common.{◌≤◌, ◌∙◌, length, arith}
use Rattle.cbor_core.specs.Limits.{longest_string}
use Rattle.scitt_tool.proofs.Attaching.{may_ok, may_err}
use Rattle.scitt_tool.proofs.attach.may_attach.Goals as goal

pub returns-in-Ok : goal.returns-in-Ok
returns-in-Ok c =
    let short : length c.args.receipt.now ≤ longest_string = omega (arith, c.if-receipt-gt-LONGEST.false) in
    c.proves_entry.ensures ∙ may_ok c.strict_item_is_exact.ensures.given c.args.receipt.now c.in-Ok.receipt short c.in-Ok.ensures

pub returns-in-Err : goal.returns-in-Err
returns-in-Err c =
    let short : length c.args.receipt.now ≤ longest_string = omega (arith, c.if-receipt-gt-LONGEST.false) in
    may_err c.strict_item_is_exact.ensures.spelled c.strict_item_is_exact.ensures.given c.whole_bytes_have_one_answer.ensures.not_both c.args.receipt.now (λ i. omega (arith, c.type_inv.receipt i)) short c.in-Err.stop _ c.in-Err.ensures c.no_receipt.ensures
