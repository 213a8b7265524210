use Rattle.scitt_service.specs.declared.held.Held.{Held}
use Rattle.scitt_service.specs.Served.{Looks}
use Rattle.scitt_service.proofs.Growing.{moved}
use Rattle.scitt_service.proofs.service.Service.size.Goals as goal

pub returns-clause-turn : goal.returns-clause-turn
returns-clause-turn g c =
    let turn = c.with.ensures in
    record {
      value = turn.value.registrar;
      left = turn.left.registrar;
      does = moved (λ (v w : Held g.row.D.Denot). Looks v.registrar w.registrar) turn.worked.shows turn.worked.leaves turn.worked.met.0;
      lock = turn.lock;
      weight = turn.weight;
      grown = turn.grown;
      list_found = turn.list_found;
      list_left = turn.list_left;
      marks_found = turn.marks_found;
      marks_left = turn.marks_left;
    }
