use Rattle.std.proofs.Common.{arith}
use Rattle.cbor_core.proofs.DecodeLaws.{prefix_of, fault_of}
use Rattle.cbor_core.proofs.decoding.decode.Goals as goal

pub returns-in-Ok : goal.returns-in-Ok
returns-in-Ok c =
    rw c.saturating_sub.ensures (prefix_of c.args.g c.args.bytes.now c.in-Ok.item c.in-Ok.rest.now (λ i. omega (arith, c.type_inv.bytes i)) c.in-Ok.ensures)

pub returns-in-Err-At : goal.returns-in-Err-At
returns-in-Err-At c =
    let stopped = rw c.in-Err-At.field-0-is at c.in-Err-At.ensures in
    rw c.saturating_sub-at.ensures (fault_of c.args.g c.args.bytes.now c.in-Err-At.stop (λ i. omega (arith, c.type_inv.bytes i)) stopped)
