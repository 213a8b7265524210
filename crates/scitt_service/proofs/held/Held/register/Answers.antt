use Rattle.scitt_service.proofs.Growing.{registers_grows}
use Rattle.scitt_service.proofs.held.Held.register.Goals as goal

pub returns-clause-works : goal.returns-clause-works
returns-clause-works g c = record {
  turn = c.register-answer.ensures.turn;
  grows = registers_grows _ _ _ _ _ _ c.register-answer.ensures.turn.turns;
  faults = c.register-answer.ensures.cause;
}
