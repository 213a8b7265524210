use Rattle.std.proofs.Common.{[], length, refl, ap, inl}
use Rattle.scitt_disk.specs.Changes.{after_sync}
use Rattle.scitt_disk.specs.Leaves.{leaves_then, leaves_weaker}
use Rattle.scitt_journal.specs.Layout.{NoLog, OneOf}
use Rattle.scitt_journal.proofs.record.Journal.create.Goals as goal

pub returns-in-Ok-append-clause-created : goal.returns-in-Ok-append-clause-created
returns-in-Ok-append-clause-created g c = λ tells.
    c.in-Ok-append.ensures.appended [] tells (record { closed = c.in-Ok.ensures.closed tells; offsets = c.in-Ok.ensures.offsets; count = ap length c.in-Ok.ensures.offsets })

pub returns-in-Ok-append-clause-sure : goal.returns-in-Ok-append-clause-sure
returns-in-Ok-append-clause-sure g c = λ tells image now.
    c.in-Ok-append.ensures.sure [] tells (record { closed = c.in-Ok.ensures.closed tells; offsets = c.in-Ok.ensures.offsets; count = ap length c.in-Ok.ensures.offsets }) image now

pub returns-in-Ok-append-clause-any_moment : goal.returns-in-Ok-append-clause-any_moment
returns-in-Ok-append-clause-any_moment g c = λ tells.
    let held = g.D.Disk.held in
    leaves_then c.moment_laws.ensures.joined (OneOf [] c.args.body.now) (after_sync (held c.args.disk)) (held c.prepare.new.disk) (held c.append.new.self.disk) (leaves_weaker NoLog _ _ _ (λ image none. inl (inl (none, refl))) (c.in-Ok.ensures.any_moment tells (c.in-Ok.ensures.none tells) (c.in-Ok.ensures.synced tells))) (c.in-Ok-append.ensures.any_moment [] tells (record { closed = c.in-Ok.ensures.closed tells; offsets = c.in-Ok.ensures.offsets; count = ap length c.in-Ok.ensures.offsets }))

pub returns-in-Err-append-clause-stopped : goal.returns-in-Err-append-clause-stopped
returns-in-Err-append-clause-stopped g c = λ tells none later.
    let held = g.D.Disk.held in
    rw c.close.ensures (leaves_then c.moment_laws.ensures.joined (OneOf [] c.args.body.now) (after_sync (held c.args.disk)) (held c.prepare.new.disk) (held c.append.new.self.disk) (leaves_weaker NoLog _ _ _ (λ image none. inl (inl (none, refl))) (c.in-Ok.ensures.any_moment tells (c.in-Ok.ensures.none tells) (c.in-Ok.ensures.synced tells))) (c.in-Err-append.ensures.any_moment [] tells (record { closed = c.in-Ok.ensures.closed tells; offsets = c.in-Ok.ensures.offsets; count = ap length c.in-Ok.ensures.offsets })))

pub returns-in-Ok-append-clause-rest_is : goal.returns-in-Ok-append-clause-rest_is
returns-in-Ok-append-clause-rest_is g c = λ tells.
    c.in-Ok-append.ensures.first_rest tells (c.in-Ok.ensures.left tells) (record { closed = c.in-Ok.ensures.closed tells; offsets = c.in-Ok.ensures.offsets; count = ap length c.in-Ok.ensures.offsets })
