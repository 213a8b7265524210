use Rattle.relying_party.proofs.Accepting.{shown_accepted, attached_accepted}
use Rattle.relying_party.proofs.laws.shown_entries_are_accepted.Goals as goal

pub returns-clause-shown : goal.returns-clause-shown
returns-clause-shown c = shown_accepted c.path_laws.ensures.leads

pub returns-clause-attached : goal.returns-clause-attached
returns-clause-attached c =
    attached_accepted c.path_laws.ensures.leads c.statements_have_one_answer.ensures.one c.logged_form_is_the_statement.ensures.logged c.attached_statement_is_the_same.ensures
