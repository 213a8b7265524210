use Rattle.scitt_answers.proofs.Told.{registered_told, unchecked_told}
use Rattle.scitt_answers.proofs.answering.register.Goals as goal

pub returns-in-Ok-clause-answered : goal.returns-in-Ok-clause-answered
returns-in-Ok-clause-answered g c = λ body asked before after of_body reads.
    registered_told (g.met.T.Turns.follows_last _) asked c.args.manner body c.args.statement c.in-Ok.checked.statement before after c.register-outcome.result.0 c.key_hint-key.ensures.turned c.in-Ok.ensures.statement
    c.register-outcome.ensures.turned c.registered_answer.ensures.answer of_body reads

pub returns-in-Ok-clause-same : goal.returns-in-Ok-clause-same
returns-in-Ok-clause-same g c = g.met.T.Turns.same_then _ _ _ c.key_hint-key.ensures.same c.register-outcome.ensures.same

pub returns-clause-answered : goal.returns-clause-answered
returns-clause-answered g c = λ body asked before after of_body reads.
    unchecked_told (g.met.T.Turns.follows_last _) asked c.args.manner body c.args.statement before after c.key_hint-key.ensures.turned c.refuse.ensures.turned c.refuse.ensures.answer of_body reads

pub returns-clause-same : goal.returns-clause-same
returns-clause-same g c = g.met.T.Turns.same_then _ _ _ c.key_hint-key.ensures.same c.refuse.ensures.same
