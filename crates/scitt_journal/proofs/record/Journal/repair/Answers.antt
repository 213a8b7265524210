use Rattle.std.proofs.Common.{◌∷◌, []}
use Rattle.scitt_disk.specs.Leaves.{leaves_weaker}
use Rattle.scitt_journal.specs.Layout.{OneOf}
use Rattle.scitt_journal.specs.State.{MayLeave}
use Rattle.scitt_journal.proofs.Stages.{gate_may_leave, gate_failed, gate_closed}
use Rattle.scitt_journal.proofs.Seen.{doubt_inside, leaves_outside, on_err}
use Rattle.scitt_journal.proofs.record.Journal.repair.Goals as goal

pub returns-in_err-write_and_sync-clause-in_doubt :
    goal.returns-in_err-write_and_sync-clause-in_doubt
returns-in_err-write_and_sync-clause-in_doubt g c =
    on_err c.from_residual.result (λ bodies body tells was.
    let held = g.D.Disk.held in
    let inside = doubt_inside held _ _ bodies body c.self.view_is was in
    record {
      pending = gate_failed (held c.self.inside.disk) (held c.write_and_sync.new.disk) c.self.inside.gate bodies body inside.pending (c.in_err-write_and_sync.ensures.failed tells);
      offsets = inside.offsets;
      count = inside.count;
    })

pub returns-in_err-write_and_sync-clause-any_moment :
    goal.returns-in_err-write_and_sync-clause-any_moment
returns-in_err-write_and_sync-clause-any_moment g c = λ bodies body tells needed was.
    let held = g.D.Disk.held in
    let inside = doubt_inside held _ _ bodies body c.self.view_is was in
    leaves_outside held _ _ _ (OneOf bodies body) c.self.view_is (leaves_weaker (MayLeave c.self.inside.gate (0 ∷ []) (held c.self.inside.disk)) _ _ _ (λ image may. gate_may_leave _ _ bodies body 0 image inside.pending may) (c.write_and_sync.ensures.any_moment tells))

pub returns-clause-repaired : goal.returns-clause-repaired
returns-clause-repaired g c = λ bodies body tells needed was.
    let held = g.D.Disk.held in
    let inside = doubt_inside held _ _ bodies body c.self.view_is was in
    record {
      closed = rw (c.in_ok-write_and_sync.ensures.done tells) (gate_closed (held c.self.inside.disk) c.self.inside.gate bodies body inside.pending);
      offsets = inside.offsets;
      count = inside.count;
    }

pub returns-clause-any_moment : goal.returns-clause-any_moment
returns-clause-any_moment g c = λ bodies body tells needed was.
    let held = g.D.Disk.held in
    let inside = doubt_inside held _ _ bodies body c.self.view_is was in
    leaves_outside held _ _ _ (OneOf bodies body) c.self.view_is (leaves_weaker (MayLeave c.self.inside.gate (0 ∷ []) (held c.self.inside.disk)) _ _ _ (λ image may. gate_may_leave _ _ bodies body 0 image inside.pending may) (c.write_and_sync.ensures.any_moment tells))
