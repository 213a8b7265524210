use Rattle.receipt_laws.proofs.Standing.{were_admitted}
use Rattle.receipt_laws.proofs.laws.entries_were_admitted.Goals as goal

pub returns : goal.returns
returns c =
    were_admitted c.home_laws.ensures.home c.log_laws.ensures.fronts c.log_laws.ensures.one_less c.growth_laws.ensures.first c.growth_laws.ensures.header c.record_laws.ensures.entry c.growth_laws.ensures.ids c.growth_laws.ensures.leaves
