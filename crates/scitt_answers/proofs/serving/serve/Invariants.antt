use Rattle.std.proofs.Common.{◌≡◌, [], None}
use Rattle.scitt_answers.specs.Exchanges.{state_of}
use Rattle.scitt_answers.specs.Sessions.{Served}
use Rattle.scitt_answers.proofs.serving.serve.Given as goal

abbrev pub invariant-loop-number : goal.invariant-loop-number
invariant-loop-number g l = record {
  stop : l.wire.stop ≡ None;
  ready : g.T.Turns.ready l.turns;
  served : Served g.T.Turns.tells g.T.Turns.follows 1 l.number (g.T.Turns.begins l.fn.turns) (g.T.Turns.begins l.turns) (g.T.Turns.last l.fn.turns) (g.T.Turns.last l.turns) [] l.wire.held
      (g.L.Source.left l.fn.link) (g.L.Source.left l.link) (g.L.Sink.taken l.fn.link) (g.L.Sink.taken l.link)
      (state_of g.C.Clock.misses g.C.Clock.readings g.C.Clock.moments l.fn.clock) (state_of g.C.Clock.misses g.C.Clock.readings g.C.Clock.moments l.clock) None;
  same : g.T.Turns.same l.fn.turns l.turns;
  reads : g.L.Source.faults l.link ≡ g.L.Source.faults l.fn.link;
  writes : g.L.Sink.refused l.link ≡ g.L.Sink.refused l.fn.link;
}
