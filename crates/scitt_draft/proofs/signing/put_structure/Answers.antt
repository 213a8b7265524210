use Rattle.std.proofs.Common.{arith}
use Rattle.scitt_draft.proofs.signing.put_structure.Goals as goal

pub returns : goal.returns
returns c = record {
  text = c.sig_structure_is_one.ensures.is_text c.args.protected.now c.args.payload.now c.to_be_signed_into.new.buf (omega (arith, c.requires.short)) (omega (arith, c.requires.small)) c.to_be_signed_into.ensures;
}
