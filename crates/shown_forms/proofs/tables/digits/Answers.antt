use Rattle.std.proofs.Common.{arith}
use Rattle.hex.proofs.HexLemmas.{decode_of-encode_lower}
use Rattle.shown_forms.proofs.tables.digits.Goals as goal

pub returns-in_err-text-clause-reads : goal.returns-in_err-text-clause-reads
returns-in_err-text-clause-reads c = decode_of-encode_lower c.args.bytes.now (λ i. omega (arith, c.type_inv.bytes i))

pub returns-clause-reads : goal.returns-clause-reads
returns-clause-reads c = decode_of-encode_lower c.args.bytes.now (λ i. omega (arith, c.type_inv.bytes i))
