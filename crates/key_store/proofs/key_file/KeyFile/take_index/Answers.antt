use Rattle.std.proofs.Common.{◌<◌, sym, ap, subst}
use Rattle.scitt_disk.specs.Images.{ImageNow, CrashLeaves}
use Rattle.key_store.specs.Keys.{Keyed, LeavesKey, HoldsAbove, reserved_of}
use Rattle.key_store.proofs.KeyLemmas.{settled_leaves, above_leaves, sure_above}
use Rattle.key_store.proofs.key_file.KeyFile.take_index.Goals as goal

pub returns-in_err-settle-clause-above : goal.returns-in_err-settle-clause-above
returns-in_err-settle-clause-above g c = λ index tells below.
    above_leaves c.args.self.now.head c.args.self.now.standing index _ _ c.sound.ensures.limits (c.sound.ensures.sound tells) below (c.settle.ensures.images tells)

pub returns-in_err-prepare_next-clause-images : goal.returns-in_err-prepare_next-clause-images
returns-in_err-prepare_next-clause-images g c = λ tells.
    let settled = c.in_ok-settle.ensures.settled in
    settled_leaves c.args.self.now.head c.settle.new.self.head c.args.self.now.standing c.settle.new.self.standing _ _ _ c.moment_laws.ensures.joined (ap (λ (k : Keyed g.row.D.Denot). k.head) settled) (ap (λ (k : Keyed g.row.D.Denot). k.standing) settled) (c.settle.ensures.images tells) (c.prepare_next.ensures.images tells)

pub returns-in_err-prepare_next-clause-above : goal.returns-in_err-prepare_next-clause-above
returns-in_err-prepare_next-clause-above g c = λ index tells below.
    let settled = c.in_ok-settle.ensures.settled in
    above_leaves c.args.self.now.head c.args.self.now.standing index _ _ c.sound.ensures.limits (c.sound.ensures.sound tells) below (settled_leaves c.args.self.now.head c.settle.new.self.head c.args.self.now.standing c.settle.new.self.standing _ _ _ c.moment_laws.ensures.joined (ap (λ (k : Keyed g.row.D.Denot). k.head) settled) (ap (λ (k : Keyed g.row.D.Denot). k.standing) settled) (c.settle.ensures.images tells) (c.prepare_next.ensures.images tells))

pub returns-clause-images : goal.returns-clause-images
returns-clause-images g c = λ tells.
    let settled = c.in_ok-settle.ensures.settled in
    subst (λ (k : Keyed g.row.D.Denot). CrashLeaves (LeavesKey c.args.self.now.head c.args.self.now.standing) (g.D.Disk.held c.args.self.now.disk) (g.D.Disk.held k.disk)) (sym c.give.ensures.given) (settled_leaves c.args.self.now.head c.settle.new.self.head c.args.self.now.standing c.settle.new.self.standing (g.D.Disk.held c.args.self.now.disk) (g.D.Disk.held c.settle.new.self.disk) (g.D.Disk.held c.prepare_next.new.self.disk) c.moment_laws.ensures.joined (ap (λ (k : Keyed g.row.D.Denot). k.head) settled) (ap (λ (k : Keyed g.row.D.Denot). k.standing) settled) (c.settle.ensures.images tells) (c.prepare_next.ensures.images tells))

pub returns-clause-above : goal.returns-clause-above
returns-clause-above g c = λ index tells below.
    let settled = c.in_ok-settle.ensures.settled in
    subst (λ (k : Keyed g.row.D.Denot). CrashLeaves (HoldsAbove index) (g.D.Disk.held c.args.self.now.disk) (g.D.Disk.held k.disk)) (sym c.give.ensures.given) (above_leaves c.args.self.now.head c.args.self.now.standing index (g.D.Disk.held c.args.self.now.disk) (g.D.Disk.held c.prepare_next.new.self.disk) c.sound.ensures.limits (c.sound.ensures.sound tells) below (settled_leaves c.args.self.now.head c.settle.new.self.head c.args.self.now.standing c.settle.new.self.standing (g.D.Disk.held c.args.self.now.disk) (g.D.Disk.held c.settle.new.self.disk) (g.D.Disk.held c.prepare_next.new.self.disk) c.moment_laws.ensures.joined (ap (λ (k : Keyed g.row.D.Denot). k.head) settled) (ap (λ (k : Keyed g.row.D.Denot). k.standing) settled) (c.settle.ensures.images tells) (c.prepare_next.ensures.images tells)))

pub returns-clause-sure : goal.returns-clause-sure
returns-clause-sure g c = λ tells image now.
    let here = subst (λ (k : Keyed g.row.D.Denot). ImageNow (g.D.Disk.held k.disk) image) c.give.ensures.given now in
    sure_above c.prepare_next.new.self.standing.records c.prepare_next.new.self.standing.pending c.give.result image c.in_ok-prepare_next.ensures.settled (subst (λ n. n < reserved_of c.prepare_next.new.self.standing.records) (sym c.give.ensures.index) (c.give.ensures.reserved tells)) (c.images.ensures tells image here)

pub returns-then-self-capacity-clause-above : goal.returns-then-self-capacity-clause-above
returns-then-self-capacity-clause-above g c = λ index tells below.
    above_leaves c.args.self.now.head c.args.self.now.standing index _ _ c.sound.ensures.limits (c.sound.ensures.sound tells) below (c.settle.ensures.images tells)
