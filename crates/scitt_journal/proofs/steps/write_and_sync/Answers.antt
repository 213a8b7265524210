use Rattle.std.proofs.Common.{IsTrue}
use Rattle.scitt_journal.proofs.Stretches.{done_leaves, failed_leaves, unsynced_as_failed}
use Rattle.scitt_journal.proofs.steps.write_and_sync.Goals as goal

pub returns-in_err-write_at-clause-any_moment : goal.returns-in_err-write_at-clause-any_moment
returns-in_err-write_at-clause-any_moment g c = λ tells.
    let held = g.D.Disk.held in
    failed_leaves c.moment_laws.ensures.epoch c.moment_laws.ensures.failed c.image_laws.ensures.failed c.args.at c.args.bytes.now (held c.args.disk.now) (held c.write_at.new.self) (c.in_err-write_at.ensures.failed tells)

pub returns-clause-any_moment : goal.returns-clause-any_moment
returns-clause-any_moment g c = λ tells.
    let held = g.D.Disk.held in
    done_leaves (IsTrue g.D.Disk.tells) c.moment_laws.ensures.epoch c.moment_laws.ensures.write c.moment_laws.ensures.sync c.moment_laws.ensures.joined c.args.at c.args.bytes.now (held c.args.disk.now) (held c.write_at.new.self) (held c.sync.new.self) c.sync.result tells (c.in_ok-write_at.ensures.written tells) c.sync.ensures.synced c.sync.ensures.failed

pub returns-clause-failed : goal.returns-clause-failed
returns-clause-failed g c =
    let held = g.D.Disk.held in
    unsynced_as_failed (IsTrue g.D.Disk.tells) c.image_laws.ensures.wrote c.args.at c.args.bytes.now (held c.args.disk.now) (held c.write_at.new.self) (held c.sync.new.self) c.sync.result c.in_ok-write_at.ensures.written c.sync.ensures.failed
