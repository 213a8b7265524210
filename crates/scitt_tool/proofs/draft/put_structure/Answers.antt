use Rattle.std.proofs.Common.{ap, ◌∙◌}
use Rattle.std.specs.Prelude.{length}
use Rattle.scitt_tool.proofs.draft.put_structure.Goals as goal

pub returns-clause-text : goal.returns-clause-text
returns-clause-text c = c.sig_structure_is_one.ensures.is_text c.args.protected.now c.args.payload.now c.to_be_signed_into.new.buf c.requires.short c.requires.small c.to_be_signed_into.ensures

pub returns-clause-len : goal.returns-clause-len
returns-clause-len c =
    ap length (c.sig_structure_is_one.ensures.is_text c.args.protected.now c.args.payload.now c.to_be_signed_into.new.buf c.requires.short c.requires.small c.to_be_signed_into.ensures)
    ∙ c.sig_structure_is_one.ensures.len c.args.protected.now c.args.payload.now
