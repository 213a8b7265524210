use Rattle.std.proofs.lemmas.Result.{err_from_is_err_and}
use Rattle.statement.proofs.ParseLemmas.{names_fail, reads_again}
use Rattle.statement.proofs.parsing.parse.Goals as goal

pub returns-in_err-names : goal.returns-in_err-names
returns-in_err-names c =
    let p = err_from_is_err_and c.from_residual-in_err-names.result c.from_residual-in_err-names.ensures.1 in
    let stop = c.in_err-names.field-0.0 in
    let fails = rw c.as_slice.ensures at c.in_err-names.ensures in
    rw (p.1, p.2) (names_fail c.args.bytes.now c.in_ok-message.message c.in-Some.payload c.in_ok-message.ensures c.in-Some.is stop fails)

pub assemble-requires-clause-again : goal.assemble-requires-clause-again
assemble-requires-clause-again c =
    let named = rw c.as_slice.ensures at c.in_ok-names.ensures in
    reads_again c.args.bytes.now c.in_ok-message.message c.in-Some.payload c.in_ok-message.ensures c.in-Some.is c.bare_message_is_one.ensures.message c.in_ok-names.names named c.in_ok-logged.logged c.as_slice-3.result.now c.as_slice-4.result.now c.as_slice-5.result.now c.as_slice-3.ensures c.as_slice-4.ensures c.as_slice-5.ensures c.in_ok-logged.ensures
