use Rattle.std.proofs.Common.{ap}
use Rattle.std.specs.Result.{result_ok}
use Rattle.scitt_answers.specs.Asking.{call_of}
use Rattle.scitt_answers.proofs.Told.{read_told, made_told}
use Rattle.scitt_answers.proofs.answering.read.Goals as goal

pub returns-in-Receipt-clause-answered : goal.returns-in-Receipt-clause-answered
returns-in-Receipt-clause-answered g c = λ asked clock.
    read_told g.T.Turns.follows asked c.args.manner clock c.args.reading c.receipt-bytes.result.0 (ap call_of c.in-Receipt.is) c.receipt-bytes.ensures.turned c.read_answer.ensures.answer

pub returns-in-Statement-clause-answered : goal.returns-in-Statement-clause-answered
returns-in-Statement-clause-answered g c = λ asked clock.
    read_told g.T.Turns.follows asked c.args.manner clock c.args.reading c.statement-bytes.result.0 (ap call_of c.in-Statement.is) c.statement-bytes.ensures.turned c.read_answer-in-Statement.ensures.answer

pub returns-in-Consistency-clause-answered : goal.returns-in-Consistency-clause-answered
returns-in-Consistency-clause-answered g c = λ asked clock.
    read_told g.T.Turns.follows asked c.args.manner clock c.args.reading c.consistency-bytes.result.0 (ap call_of c.in-Consistency.is) c.consistency-bytes.ensures.turned c.read_answer-in-Consistency.ensures.answer

pub returns-in-Keys-clause-answered : goal.returns-in-Keys-clause-answered
returns-in-Keys-clause-answered g c = λ asked clock.
    made_told g.T.Turns.follows asked c.args.manner clock c.args.reading (result_ok c.keys-bytes.result.0) (ap call_of c.in-Keys.is) c.keys-bytes.ensures.turned c.made_answer.ensures.answer

pub returns-in-Policy-clause-answered : goal.returns-in-Policy-clause-answered
returns-in-Policy-clause-answered g c = λ asked clock.
    made_told g.T.Turns.follows asked c.args.manner clock c.args.reading (result_ok c.policy-bytes.result.0) (ap call_of c.in-Policy.is) c.policy-bytes.ensures.turned c.made_answer-in-Policy.ensures.answer
