use Rattle.std.proofs.Common.{arith, rules}
use Rattle.cbor_feed.proofs.PartSteps.{nothing-read, container-part, container-fault}
use Rattle.cbor_feed.proofs.parts.part_of.Goals as goal

pub returns-then-is_empty : goal.returns-then-is_empty
returns-then-is_empty c = nothing-read c.args.g c.args.room c.args.bytes.now (search rules)

pub returns-in-Ok : goal.returns-in-Ok
returns-in-Ok c =
    rw (c.opening_of.ensures, c.saturating_sub.ensures) (container-part c.args.g c.args.room c.args.bytes.now c.in-Ok.container c.in-Ok.rest.now (λ i. omega (arith, c.type_inv.bytes i)) (omega arith) (omega arith) c.in-Ok.ensures)

pub returns-in-Err : goal.returns-in-Err
returns-in-Err c = container-fault c.args.g c.args.room c.args.bytes.now _ c.in-Err.ensures
