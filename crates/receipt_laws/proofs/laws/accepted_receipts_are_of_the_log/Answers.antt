use Rattle.receipt_laws.proofs.Meaning.{of_the_log}
use Rattle.receipt_laws.proofs.laws.accepted_receipts_are_of_the_log.Goals as goal

pub returns : goal.returns
returns c =
    of_the_log c.strict_item_is_exact.ensures.spelled c.strict_item_is_exact.ensures.given c.whole_bytes_have_one_answer.ensures.not_empty c.strict_text_is_exact.ensures.spelled c.logged_form_is_the_statement.ensures.logged
    c.entries_were_admitted.ensures c.growth_laws.ensures.leaves c.statements_have_one_answer.ensures.one c.accepted_receipts_mean_entries.ensures
