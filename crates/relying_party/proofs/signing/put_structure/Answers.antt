use Rattle.relying_party.proofs.signing.put_structure.Goals as goal

pub returns : goal.returns
returns c = c.sig_structure_is_one.ensures.is_text c.args.protected.now c.args.payload.now c.to_be_signed_into.new.buf c.requires.protected_fits c.requires.payload_fits c.to_be_signed_into.ensures
