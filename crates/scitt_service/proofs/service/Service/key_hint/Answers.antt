use Rattle.std.proofs.Common.{IsTrue}
use Rattle.statement.specs.Said.{said_of}
use Rattle.registrar.specs.Turns.{key_hint_call, hint}
use Rattle.scitt_service.specs.declared.held.Held.{Held}
use Rattle.scitt_service.specs.Served.{Works, Stays}
use Rattle.scitt_service.proofs.Growing.{moved}
use Rattle.scitt_service.proofs.service.Service.key_hint.Goals as goal

pub returns : goal.returns
returns g c =
    let turn = c.with.ensures in
    record {
      turn = record {
        value = turn.value.registrar;
        left = turn.left.registrar;
        does = moved (λ (v w : Held g.row.D.Denot). Works g.D.Disk.fault_count (IsTrue g.D.Disk.tells) (key_hint_call (said_of c.args.statement.now)) (hint c.with.result) Stays v.registrar w.registrar) turn.worked.shows turn.worked.leaves turn.worked.met;
        lock = turn.lock;
        weight = turn.weight;
        grown = turn.grown;
        list_found = turn.list_found;
        list_left = turn.list_left;
        marks_found = turn.marks_found;
        marks_left = turn.marks_left;
      };
    }
