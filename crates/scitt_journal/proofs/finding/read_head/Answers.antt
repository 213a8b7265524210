use Rattle.std.proofs.Common.{ap, ◌∙◌}
use Rattle.scitt_journal.specs.Layout.{size_in}
use Rattle.scitt_journal.proofs.Scans.{four_behind}
use Rattle.scitt_journal.proofs.finding.read_head.Goals as goal

pub returns-clause-size : goal.returns-clause-size
returns-clause-size g c = λ tells.
    c.spelled_size.ensures.size ∙ ap size_in (four_behind (g.D.Disk.held c.args.disk.now).seen c.read_at.new.buf c.args.at (c.in_ok-read_at.ensures.bytes tells) (c.in_ok-read_at.ensures.within tells))

pub returns-clause-spells : goal.returns-clause-spells
returns-clause-spells g c = λ tells.
    c.spelled_size.ensures.spells ∙ four_behind (g.D.Disk.held c.args.disk.now).seen c.read_at.new.buf c.args.at (c.in_ok-read_at.ensures.bytes tells) (c.in_ok-read_at.ensures.within tells)
