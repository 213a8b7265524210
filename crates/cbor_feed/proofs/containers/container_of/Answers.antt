use Rattle.std.proofs.Common.{sym, ◌∙◌, arith}
use Rattle.cbor_feed.proofs.HeadSteps.{container-refused, container-opened}
use Rattle.cbor_feed.proofs.containers.container_of.Goals as goal

pub returns-in-Some : goal.returns-in-Some
returns-in-Some c =
    container-refused c.args.g c.args.room c.args.bytes.now (λ i. omega (arith, c.type_inv.bytes i)) c.requires.from c.requires.to c.in-Ok.read.0 c.in-Ok.read.1.now c.in-Some.why c.in-Ok.ensures (sym c.refused.ensures ∙ c.in-Some.is)

pub returns-in-None : goal.returns-in-None
returns-in-None c =
    rw c.kind_of.ensures (container-opened c.args.g c.args.room c.args.bytes.now (λ i. omega (arith, c.type_inv.bytes i)) c.requires.from c.requires.to c.in-Ok.read.0 c.in-Ok.read.1.now c.in-Ok.ensures (sym c.refused.ensures ∙ c.in-None.is))
