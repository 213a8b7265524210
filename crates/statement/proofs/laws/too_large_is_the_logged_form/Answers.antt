use Rattle.statement.proofs.LargeLemmas.{too_large_is_logged}
use Rattle.statement.proofs.laws.too_large_is_the_logged_form.Goals as goal

pub returns : goal.returns
returns c = too_large_is_logged c.strict_spelling_is_unique.ensures c.bare_message_is_one.ensures.spelled c.message_strings_are_short.ensures
