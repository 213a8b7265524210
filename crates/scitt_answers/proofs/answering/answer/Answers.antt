use Rattle.std.proofs.Common.{sym, ◌∙◌}
use Rattle.scitt_answers.specs.Exchanges.{ClockState, request, state_of}
use Rattle.scitt_answers.proofs.Told.{refused_told, by_ask}
use Rattle.scitt_answers.proofs.answering.answer.Goals as goal

pub returns-in-Refuse-clause-answered : goal.returns-in-Refuse-clause-answered
returns-in-Refuse-clause-answered g c =
    let clock : ClockState = state_of g.C.Clock.misses g.C.Clock.readings g.C.Clock.moments c.args.clock.now in
    by_ask c.args.request _ c.manner_of-manner.result c.args.is_last clock clock c.refuse.result (sym c.in-Refuse.is ∙ c.ask_of.ensures) c.manner_of-manner.ensures
    (refused_told g.T.Turns.follows (request c.args.request) c.manner_of-manner.result clock c.in-Refuse.problem c.refuse.ensures.turned c.refuse.ensures.answer)

pub returns-in-Read-clause-answered : goal.returns-in-Read-clause-answered
returns-in-Read-clause-answered g c =
    let clock : ClockState = state_of g.C.Clock.misses g.C.Clock.readings g.C.Clock.moments c.args.clock.now in
    by_ask c.args.request _ c.manner_of-manner.result c.args.is_last clock clock c.read.result (sym c.in-Read.is ∙ c.ask_of.ensures) c.manner_of-manner.ensures
    (c.read.ensures.answered (request c.args.request) clock)

pub returns-clause-answered : goal.returns-clause-answered
returns-clause-answered g c =
    let before : ClockState = state_of g.C.Clock.misses g.C.Clock.readings g.C.Clock.moments c.args.clock.now in
    let after : ClockState = state_of g.C.Clock.misses g.C.Clock.readings g.C.Clock.moments c.take.new.clock in
    by_ask c.args.request _ c.manner_of-manner.result c.args.is_last before after c.take.result (sym c.in-Register.is ∙ c.ask_of.ensures) c.manner_of-manner.ensures
    (rw c.as_slice.ensures at (c.take.ensures.answered (request c.args.request)))
