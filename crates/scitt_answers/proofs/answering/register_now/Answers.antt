use Rattle.scitt_answers.specs.Exchanges.{ClockState, state_of}
use Rattle.scitt_answers.proofs.Told.{ticks_given, ticks_missed, moment_lacking}
use Rattle.scitt_answers.proofs.answering.register_now.Goals as goal

pub returns-in-Ok-clause-answered : goal.returns-in-Ok-clause-answered
returns-in-Ok-clause-answered g c = λ body asked of_body.
    let before : ClockState = state_of g.C.Clock.misses g.C.Clock.readings g.C.Clock.moments c.args.clock.now in
    let after : ClockState = state_of g.C.Clock.misses g.C.Clock.readings g.C.Clock.moments c.now.new.self in
    c.register.ensures.answered body asked before after of_body
    (record { misses = c.in-Ok.ensures.cause.kept; readings = c.in-Ok.ensures.read; moments = ticks_given _ _ _ _ c.in-Ok.ensures.ticks; telling = c.in-Ok.ensures.telling })

pub returns-in-Err-clause-answered : goal.returns-in-Err-clause-answered
returns-in-Err-clause-answered g c = λ body asked of_body.
    let before : ClockState = state_of g.C.Clock.misses g.C.Clock.readings g.C.Clock.moments c.args.clock.now in
    let after : ClockState = state_of g.C.Clock.misses g.C.Clock.readings g.C.Clock.moments c.now.new.self in
    moment_lacking g.T.Turns.follows asked c.args.manner body c.args.statement before after c.refuse.ensures.turned c.refuse.ensures.answer of_body
    (record { misses = c.in-Err.ensures.cause.failed; readings = c.in-Err.ensures.read; moments = ticks_missed _ _ _ _ c.in-Err.ensures.ticks; telling = c.in-Err.ensures.telling })
