use Rattle.std.proofs.Common.{◌≡◌, ◌+◌, ◌++◌, ◌∷◌, [], length, ◌∙◌, inl, arith}
use Rattle.scitt_disk.specs.Leaves.{leaves_then, leaves_weaker}
use Rattle.scitt_journal.specs.Layout.{OneOf, starts}
use Rattle.scitt_journal.specs.State.{Closed, MayLeave}
use Rattle.scitt_journal.proofs.Stages.{closed_now, record_may_leave, record_failed, gate_may_leave, gate_failed, gate_opened, records_after, records_long}
use Rattle.scitt_journal.proofs.Seen.{rest_inside, records_inside, long_inside, leaves_outside, on_err, pending_after, offsets_after, count_after}
use Rattle.scitt_journal.proofs.record.Journal.append.Goals as goal

pub returns-in_err-write_and_sync-clause-any_moment :
    goal.returns-in_err-write_and_sync-clause-any_moment
returns-in_err-write_and_sync-clause-any_moment g c = λ bodies tells was.
    let held = g.D.Disk.held in
    let inside = rest_inside held _ _ bodies c.self.view_is was in
    leaves_outside held _ _ _ (OneOf bodies c.args.body.now) c.self.view_is (leaves_weaker (MayLeave (c.self.inside.gate + 1) c.deref.result.now (held c.self.inside.disk)) _ _ _ (λ image may. inl (record_may_leave _ _ bodies _ image inside.closed may)) (c.write_and_sync.ensures.any_moment tells))

pub returns-in_err-write_and_sync-clause-as_before :
    goal.returns-in_err-write_and_sync-clause-as_before
returns-in_err-write_and_sync-clause-as_before g c =
    on_err c.from_residual.result (λ ready bodies tells was.
    let held = g.D.Disk.held in
    let inside = rest_inside held _ _ bodies c.self.view_is was in
    record {
      closed = record_failed (held c.self.inside.disk) (held c.write_and_sync.new.disk) c.self.inside.gate (length c.deref.result.now) bodies inside.closed (c.in_err-write_and_sync.ensures.failed tells);
      offsets = inside.offsets;
      count = inside.count;
    })

pub returns-in_err-write_and_sync-2-clause-any_moment :
    goal.returns-in_err-write_and_sync-2-clause-any_moment
returns-in_err-write_and_sync-2-clause-any_moment g c = λ bodies tells was.
    let held = g.D.Disk.held in
    let body = c.args.body.now in
    let inside = rest_inside held _ _ bodies c.self.view_is was in
    let pending = pending_after (held c.self.inside.disk) (held c.write_and_sync.new.disk) c.self.inside.gate bodies body c.deref.result.now (c.deref.ensures.value ∙ c.fill.ensures.items) (c.in_ok-write_and_sync.ensures.done tells) (omega arith) inside.closed in
    leaves_outside held _ _ _ (OneOf bodies body) c.self.view_is (leaves_then c.moment_laws.ensures.joined (OneOf bodies body) _ (held c.write_and_sync.new.disk) _ (leaves_weaker (MayLeave (c.self.inside.gate + 1) c.deref.result.now (held c.self.inside.disk)) _ _ _ (λ image may. inl (record_may_leave _ _ bodies _ image inside.closed may)) (c.write_and_sync.ensures.any_moment tells)) (leaves_weaker (MayLeave c.self.inside.gate (1 ∷ []) (held c.write_and_sync.new.disk)) _ _ _ (λ image may. gate_may_leave _ _ bodies body 1 image pending may) (c.write_and_sync-2.ensures.any_moment tells)))

pub returns-in_err-write_and_sync-2-clause-in_doubt :
    goal.returns-in_err-write_and_sync-2-clause-in_doubt
returns-in_err-write_and_sync-2-clause-in_doubt g c =
    on_err c.from_residual-in_err-write_and_sync-2.result (λ begun bodies tells was.
    let held = g.D.Disk.held in
    let body = c.args.body.now in
    let inside = rest_inside held _ _ bodies c.self.view_is was in
    let pending = pending_after (held c.self.inside.disk) (held c.write_and_sync.new.disk) c.self.inside.gate bodies body c.deref.result.now (c.deref.ensures.value ∙ c.fill.ensures.items) (c.in_ok-write_and_sync.ensures.done tells) (omega arith) inside.closed in
    record {
      pending = gate_failed (held c.write_and_sync.new.disk) (held c.write_and_sync-2.new.disk) c.self.inside.gate bodies body pending (c.in_err-write_and_sync-2.ensures.failed tells);
      offsets = inside.offsets;
      count = inside.count;
    })

pub returns-clause-any_moment : goal.returns-clause-any_moment
returns-clause-any_moment g c = λ bodies tells was.
    let held = g.D.Disk.held in
    let body = c.args.body.now in
    let inside = rest_inside held _ _ bodies c.self.view_is was in
    let pending = pending_after (held c.self.inside.disk) (held c.write_and_sync.new.disk) c.self.inside.gate bodies body c.deref.result.now (c.deref.ensures.value ∙ c.fill.ensures.items) (c.in_ok-write_and_sync.ensures.done tells) (omega arith) inside.closed in
    leaves_outside held _ _ _ (OneOf bodies body) c.self.view_is (leaves_then c.moment_laws.ensures.joined (OneOf bodies body) _ (held c.write_and_sync.new.disk) _ (leaves_weaker (MayLeave (c.self.inside.gate + 1) c.deref.result.now (held c.self.inside.disk)) _ _ _ (λ image may. inl (record_may_leave _ _ bodies _ image inside.closed may)) (c.write_and_sync.ensures.any_moment tells)) (leaves_weaker (MayLeave c.self.inside.gate (1 ∷ []) (held c.write_and_sync.new.disk)) _ _ _ (λ image may. gate_may_leave _ _ bodies body 1 image pending may) (c.write_and_sync-2.ensures.any_moment tells)))

pub returns-clause-appended : goal.returns-clause-appended
returns-clause-appended g c = λ bodies tells was.
    let held = g.D.Disk.held in
    let body = c.args.body.now in
    let inside = rest_inside held _ _ bodies c.self.view_is was in
    let pending = pending_after (held c.self.inside.disk) (held c.write_and_sync.new.disk) c.self.inside.gate bodies body c.deref.result.now (c.deref.ensures.value ∙ c.fill.ensures.items) (c.in_ok-write_and_sync.ensures.done tells) (omega arith) inside.closed in
    let offsets : c.push.new.self.items ≡ starts 0 (bodies ++ body ∷ []) = offsets_after c.push.result c.unwrap.result c.self.inside.offsets.items c.push.new.self.items c.self.inside.gate bodies body c.unwrap.ensures c.push.ensures.items inside.offsets inside.closed.place in
    record {
      closed = rw (c.in_ok-write_and_sync-2.ensures.done tells) (gate_opened (held c.write_and_sync.new.disk) c.self.inside.gate bodies body pending);
      offsets = offsets;
      count = count_after c.push.new.self.items (bodies ++ body ∷ []) offsets;
    }

pub returns-clause-sure : goal.returns-clause-sure
returns-clause-sure g c = λ bodies tells was image now.
    let held = g.D.Disk.held in
    let body = c.args.body.now in
    let inside = rest_inside held _ _ bodies c.self.view_is was in
    let pending = pending_after (held c.self.inside.disk) (held c.write_and_sync.new.disk) c.self.inside.gate bodies body c.deref.result.now (c.deref.ensures.value ∙ c.fill.ensures.items) (c.in_ok-write_and_sync.ensures.done tells) (omega arith) inside.closed in
    let closed : Closed (held c.write_and_sync-2.new.disk) (c.self.inside.gate + (length body + 5)) (bodies ++ body ∷ []) = rw (c.in_ok-write_and_sync-2.ensures.done tells) (gate_opened (held c.write_and_sync.new.disk) c.self.inside.gate bodies body pending) in
    closed_now _ _ _ image closed now

pub returns-clause-rest_is : goal.returns-clause-rest_is
returns-clause-rest_is g c = λ bodies tells records was.
    let held = g.D.Disk.held in
    let inside = rest_inside held _ _ bodies c.self.view_is was in
    records_after (held c.self.inside.disk) (held c.write_and_sync.new.disk) (held c.write_and_sync-2.new.disk) c.self.inside.gate c.self.inside.rest _ bodies c.args.body.now c.deref.result.now inside.closed (omega arith) (c.deref.ensures.value ∙ c.fill.ensures.items) (c.in_ok-write_and_sync.ensures.done tells) (c.in_ok-write_and_sync-2.ensures.done tells) (records_long _ _ _ bodies inside.closed.place (records_inside held _ _ bodies c.self.view_is records)) c.saturating_sub-self-inside.ensures

pub returns-clause-first_rest : goal.returns-clause-first_rest
returns-clause-first_rest g c = λ tells long was.
    let held = g.D.Disk.held in
    let inside = rest_inside held _ _ [] c.self.view_is was in
    let left = long_inside held _ _ c.self.view_is long in
    records_after (held c.self.inside.disk) (held c.write_and_sync.new.disk) (held c.write_and_sync-2.new.disk) c.self.inside.gate c.self.inside.rest _ [] c.args.body.now c.deref.result.now inside.closed (omega arith) (c.deref.ensures.value ∙ c.fill.ensures.items) (c.in_ok-write_and_sync.ensures.done tells) (c.in_ok-write_and_sync-2.ensures.done tells) (omega (arith, left, inside.closed.place)) c.saturating_sub-self-inside.ensures
