use Rattle.std.proofs.Common.{length, ap, ◌∙◌}
use Rattle.scitt_journal.proofs.Seen.{count_inside}
use Rattle.scitt_journal.proofs.record.Journal.count.Goals as goal

pub returns-clause-at_rest : goal.returns-clause-at_rest
returns-clause-at_rest g c tells bodies was =
    ap length c.deref-offsets.ensures.value ∙ count_inside _ _ c.self.view_is ∙ was.count

pub returns-clause-in_doubt : goal.returns-clause-in_doubt
returns-clause-in_doubt g c tells bodies body was =
    ap length c.deref-offsets.ensures.value ∙ count_inside _ _ c.self.view_is ∙ was.count
