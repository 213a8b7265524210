use Rattle.std.proofs.Common.{◌≤◌, ◌∙◌, ap, length, sym, arith}
use Rattle.statement.specs.Said.{said_of}
use Rattle.generator.proofs.Tallying.{some_said, none_said, same_bytes, of_bytes, no_statement}
use Rattle.generator.proofs.filling.register.Goals as goal

pub take-requires-clause-short : goal.take-requires-clause-short
take-requires-clause-short c =
    let said = some_said c.in_ok-checked.field-0 c.in-Some.checked c.args.bytes.now c.in-Some.is c.in_ok-checked.ensures in
    let same = ap length (same_bytes c.args.bytes.now (said_of c.in-Some.checked.statement) said) in
    omega (arith, same, c.requires.short)

pub returns-in-Some : goal.returns-in-Some
returns-in-Some c =
    let said = some_said c.in_ok-checked.field-0 c.in-Some.checked c.args.bytes.now c.in-Some.is c.in_ok-checked.ensures in
    of_bytes _ _ c.args.bytes.now (said_of c.in-Some.checked.statement) c.args.moment c.take.result said c.take.ensures

pub returns-in-None : goal.returns-in-None
returns-in-None c = no_statement _ c.args.bytes.now c.args.moment (none_said c.in_ok-checked.field-0 c.args.bytes.now c.in-None.is c.in_ok-checked.ensures)
