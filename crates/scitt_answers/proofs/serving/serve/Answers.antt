use Rattle.std.proofs.Common.{[], refl, ap, ◌∙◌}
use Rattle.std.proofs.KnownBytes.{Consumes-nil, Appends-nil}
use Rattle.http_wire.specs.Taking.{Waiting}
use Rattle.scitt_answers.proofs.Exchanging.{nothing_served, served_anywhere}
use Rattle.scitt_answers.proofs.Joining.{served_then}
use Rattle.scitt_answers.proofs.serving.serve.Goals as goal

pub loop-number-init : goal.loop-number-init
loop-number-init g c = record {
  stop = ap (λ (w : Waiting). w.stop) c.in-Ok-new.ensures;
  ready = c.requires;
  served = nothing_served [] (Consumes-nil _) (Appends-nil _) (tt, ap (λ (w : Waiting). w.held) c.in-Ok-new.ensures, refl);
  same = g.met.T.Turns.same_self _;
  reads = refl;
  writes = refl;
}

pub returns-in_default-clause-served : goal.returns-in_default-clause-served
returns-in_default-clause-served g c = ([], nothing_served [] (Consumes-nil _) (Appends-nil _) tt)

pub returns-in_default-new-clause-served : goal.returns-in_default-new-clause-served
returns-in_default-new-clause-served g c = ([], nothing_served [] (Consumes-nil _) (Appends-nil _) tt)

pub returns-in-Some-clause-served : goal.returns-in-Some-clause-served
returns-in-Some-clause-served g c = (c.exchange.new.wire.held, served_anywhere (served_then c.loop-number.invariant.served c.in-Some.ensures.served))

pub loop-number-preserved : goal.loop-number-preserved
loop-number-preserved g c = record {
  stop = c.in_default-exchange.ensures.goes_on refl;
  ready = c.in_default-exchange.ensures.ready;
  served = served_then c.loop-number.invariant.served c.in_default-exchange.ensures.served;
  same = g.met.T.Turns.same_then _ _ _ c.loop-number.invariant.same c.in_default-exchange.ensures.same;
  reads = c.in_default-exchange.ensures.reading.kept (λ e. cc e) ∙ c.loop-number.invariant.reads;
  writes = c.in_default-exchange.ensures.writing.kept (λ e. cc e) ∙ c.loop-number.invariant.writes;
}
