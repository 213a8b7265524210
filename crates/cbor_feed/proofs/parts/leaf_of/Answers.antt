use Rattle.std.proofs.Common.{arith}
use Rattle.cbor_feed.proofs.PartSteps.{leaf-whole, leaf-fault}
use Rattle.cbor_feed.proofs.parts.leaf_of.Goals as goal

pub returns-in-Ok : goal.returns-in-Ok
returns-in-Ok c =
    leaf-whole c.args.g c.args.room c.args.bytes.now c.in-Ok.item c.in-Ok.len (λ i. omega (arith, c.type_inv.bytes i)) c.requires.leaf c.in-Ok.ensures.0 c.in-Ok.ensures.1

pub returns-in-Err-Fault : goal.returns-in-Err-Fault
returns-in-Err-Fault c =
    leaf-fault c.args.g c.args.room c.args.bytes.now c.in-Err-Fault.fault.at c.in-Err-Fault.fault.why (λ i. omega (arith, c.type_inv.bytes i)) c.requires.leaf (rw c.in-Err-Fault.field-0-is at c.in-Err-Fault.ensures)
