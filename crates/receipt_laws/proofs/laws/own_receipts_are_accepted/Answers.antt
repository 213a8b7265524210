use Rattle.receipt_laws.proofs.Accepted.{own_accepted}
use Rattle.receipt_laws.proofs.laws.own_receipts_are_accepted.Goals as goal

pub returns : goal.returns
returns c =
    own_accepted c.statements_have_one_answer.ensures.one c.attached_statement_is_the_same.ensures c.shown_entries_are_accepted.ensures.shown c.shown_entries_are_accepted.ensures.attached
    c.growth_laws.ensures.leaves c.entries_have_receipts.ensures
