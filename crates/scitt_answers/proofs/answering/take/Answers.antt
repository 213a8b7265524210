use Rattle.scitt_answers.specs.Exchanges.{ClockState, state_of}
use Rattle.scitt_answers.proofs.Told.{body_told}
use Rattle.scitt_answers.proofs.answering.take.Goals as goal

pub returns-in-Ok-clause-answered : goal.returns-in-Ok-clause-answered
returns-in-Ok-clause-answered g c = λ asked. c.register_now.ensures.answered c.args.body.now asked c.in-Ok.ensures

pub returns-in-Err-clause-answered : goal.returns-in-Err-clause-answered
returns-in-Err-clause-answered g c = λ asked.
    let clock : ClockState = state_of g.C.Clock.misses g.C.Clock.readings g.C.Clock.moments c.args.clock.now in
    body_told g.T.Turns.follows asked c.args.manner c.args.body.now c.in-Err.stop clock c.refuse.ensures.turned (rw c.parse_problem.ensures at c.refuse.ensures.answer) c.in-Err.ensures
