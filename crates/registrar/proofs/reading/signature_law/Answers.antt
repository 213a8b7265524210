use Rattle.std.proofs.Common.{arith}
use Rattle.registrar.proofs.Signatures.{signature_short}
use Rattle.registrar.proofs.reading.signature_law.Goals as goal

pub returns : goal.returns
returns c =
    signature_short c.strict_item_is_exact.ensures.spelled c.strict_items_are_spelled.ensures.passes c.args.body.now c.args.batch.now (λ i. omega (arith, c.type_inv.body i)) c.requires
