use Rattle.std.proofs.Common.{arith, ◌∙◌, sym}
use Rattle.log_replay.proofs.Statements.{is_logged, not_logged}
use Rattle.generator.proofs.filling.statement_of.Goals as goal

pub returns-in-Ok : goal.returns-in-Ok
returns-in-Ok c =
    is_logged c.logged_form_is_the_statement.ensures.logged c.statements_have_one_answer.ensures.one c.logged_form_is_the_statement.ensures.statement c.args.bytes.now c.in-Ok.statement c.when_logged.result
    (λ i. omega (arith, c.type_inv.bytes i)) c.in-Ok.ensures c.when_logged.ensures.some c.when_logged.ensures.none

pub returns-else-is_wanting : goal.returns-else-is_wanting
returns-else-is_wanting c =
    not_logged c.statements_have_one_answer.ensures.one c.logged_form_is_the_statement.ensures.statement c.args.bytes.now c.in-Err.stop (sym c.is_wanting.ensures ∙ c.if-is_wanting.false) (λ i. omega (arith, c.type_inv.bytes i)) c.in-Err.ensures
