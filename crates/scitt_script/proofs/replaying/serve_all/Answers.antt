use Rattle.std.proofs.Common.{◌≡◌, rules, sym, ap}
use Rattle.scitt_io.specs.Memory.{Connection}
use Rattle.scitt_disk.specs.Memory.{plan_of}
use Rattle.scitt_script.proofs.Played.{session_by, whole_end}
use Rattle.scitt_script.proofs.replaying.serve_all.Goals as goal

pub returns-clause-session : goal.returns-clause-session
returns-clause-session c =
    let served = c.serve_local-end.ensures.served in
    let after = c.serve_local-end.new in
    let clear = c.lacks_memory-lacks.ensures in
    let left : c.new-link.result.left ≡ c.args.session.now = search rules in
    let given : c.new-clock.result.left ≡ c.args.moments.now = search rules in
    session_by c.args.log.now.standing after.registrar.standing served.0 after.link.left after.clock.left after.clock.readings after.clock.plan.faults c.serve_local-end.result
    (plan_of c.args.log.now.disk).faults (plan_of after.registrar.disk).faults c.new-link.result.left c.new-link.result.taken after.link.taken c.new-clock.result.left
    c.new-clock.result.readings c.new-clock.result.plan.faults c.args.session.now c.into_content.result.items c.args.moments.now
    served.1 c.requires (clear.disk c.if-lacks.false) left (ap (λ (k : Connection). k.taken) c.new-link.ensures) (sym c.into_content.ensures) given
    c.new-clock.ensures.readings c.new-clock.ensures.faults c.is_late.ensures
    (whole_end c.serve_local-end.result c.new-link.result.faults after.link.faults c.new-link.result.refused after.link.refused c.serve_local-end.ensures.reading c.serve_local-end.ensures.writing
    (ap (λ (k : Connection). k.faults) c.new-link.ensures) (ap (λ (k : Connection). k.refused) c.new-link.ensures) (clear.reads c.if-lacks.false) (clear.writes c.if-lacks.false) (clear.memory c.if-lacks.false))
