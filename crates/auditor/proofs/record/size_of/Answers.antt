use Rattle.std.proofs.lemmas.Nat.{be_bytes_4}
use Rattle.scitt_journal.specs.Layout.{size_bytes, size_in}
use Rattle.auditor.proofs.record.size_of.Goals as goal

pub returns-clause-size : goal.returns-clause-size
unfolding size_in
returns-clause-size c = c.from_be_bytes.ensures

pub returns-clause-spells : goal.returns-clause-spells
unfolding size_bytes
returns-clause-spells c =
    be_bytes_4 c.args.bytes.now c.from_be_bytes.result c.told-bytes c.fits-bytes c.from_be_bytes.ensures
