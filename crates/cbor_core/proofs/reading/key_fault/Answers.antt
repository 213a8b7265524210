use Rattle.std.proofs.Common.{sym, ◌∙◌}
use Rattle.cbor_core.proofs.KeyLemmas.{no_row_above}
use Rattle.cbor_core.proofs.reading.key_fault.Goals as goal

pub returns-then-below-clause-row : goal.returns-then-below-clause-row
returns-then-below-clause-row c =
    sym (no_row_above c.args.g c.args.room c.args.earlier.now c.args.last.now c.args.key.now c.args.text.now c.requires.rises c.requires.stands (sym c.is_strict.ensures ∙ c.if-is_strict.true) (sym c.below.ensures ∙ c.if-below.true))
