use Rattle.statement.proofs.AttachedLemmas.{attached_is_same}
use Rattle.statement.proofs.laws.attached_statement_is_the_same.Goals as goal

pub returns : goal.returns
returns c = attached_is_same c.messages_have_one_answer.ensures.one c.strict_is_wide.ensures c.bare_message_is_one.ensures.message
