use Rattle.shown_forms.proofs.Found.{key_again}
use Rattle.shown_forms.proofs.tables.key_digits.Goals as goal

pub returns-in_err-text-clause-reads : goal.returns-in_err-text-clause-reads
returns-in_err-text-clause-reads c = key_again c.args.key.now c.fits-key c.told-key

pub returns-clause-reads : goal.returns-clause-reads
returns-clause-reads c = key_again c.args.key.now c.fits-key c.told-key
