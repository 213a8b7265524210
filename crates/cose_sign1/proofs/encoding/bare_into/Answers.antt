use Rattle.cbor_core.specs.declared.words.Grammar.TheVariants.{Strict, Wide}
use Rattle.cose_sign1.proofs.MessageLemmas.{bare_spelled}
use Rattle.cose_sign1.proofs.encoding.bare_into.Goals as goal

pub returns-clause-strict : goal.returns-clause-strict
returns-clause-strict c =
    rw c.write_bare.ensures (bare_spelled Strict c.args.protected.now c.args.payload.now c.args.signature.now c.requires.protected_fits c.requires.payload_fits c.requires.signature_fits)

pub returns-clause-wide : goal.returns-clause-wide
returns-clause-wide c =
    rw c.write_bare.ensures (bare_spelled Wide c.args.protected.now c.args.payload.now c.args.signature.now c.requires.protected_fits c.requires.payload_fits c.requires.signature_fits)
