use Rattle.std.proofs.Common.{◌≡◌, ◌≢◌, ◌+◌, ◌<◌, ◌≤◌, IsTrue, length, get_or, ap, ◌∙◌, arith}
use Rattle.std.proofs.lemmas.Result.{err_from_is_err_and}
use Rattle.scitt_journal.specs.Stops.{IsWhole}
use Rattle.scitt_journal.proofs.Scans.{explains_walk, scanned_more, finds_end, pushed_is}
use Rattle.scitt_journal.proofs.finding.walk.Goals as goal

pub returns-in_err-next-clause-stops : goal.returns-in_err-next-clause-stops
returns-in_err-next-clause-stops g c =
    let held = g.D.Disk.held in
    let was = c.records.invariant in
    let seen = (held c.args.disk.now).seen in
    let p = err_from_is_err_and c.from_residual.result c.from_residual.ensures.1 in
    rw (p.1, p.2) (explains_walk (IsTrue g.D.Disk.tells) seen (held c.records.disk).seen c.records.offsets.items c.records.gate (g.D.Disk.fault_count c.args.disk.now) (g.D.Disk.fault_count c.records.disk) (g.D.Disk.fault_count c.next_gate.new.disk) c.in_err-next.field-0.0 was.count (λ tells. ap (λ state. state.seen) (was.kept tells)) was.scanned (λ tells. omega (arith, was.within, c.requires.long tells)) (λ tells. omega (arith, c.requires.six, c.requires.long tells)) c.in_err-next.ensures.stops)

pub returns-in_default-clause-finds : goal.returns-in_default-clause-finds
returns-in_default-clause-finds g c = λ tells.
    let held = g.D.Disk.held in
    let was = c.records.invariant in
    let seen = (held c.args.disk.now).seen in
    let long : c.args.len ≡ length seen = c.requires.long tells in
    let shut : get_or seen c.records.gate 0 ≢ 1 = rw (was.kept tells) at (c.in_ok-next.ensures.shut c.in_default.is tells) in
    finds_end seen c.records.gate _ c.records.offsets.items (was.scanned tells) shut (omega (arith, was.within, long)) (grind (arith, c.is_empty.ensures, c.if-is_empty.false)) (omega (arith, long))

pub records-preserved : goal.records-preserved
records-preserved g c =
    let held = g.D.Disk.held in
    let was = c.records.invariant in
    let seen = (held c.args.disk.now).seen in
    let pushed = pushed_is c.push.result c.in_ok-push.field-0 c.records.offsets.items c.push.new.self.items c.records.gate c.in_ok-push.was c.push.ensures.items in
    let within : c.in-Some.next < c.args.len = rw c.in-Some.is at c.in_ok-next.ensures.within in
    let near : c.in-Some.next ≤ c.records.gate + 4294967300 = rw c.in-Some.is at c.in_ok-next.ensures.near in
    record {
      within = within;
      bound = omega (arith, was.bound, near, c.in_ok-push.ensures.len);
      kept = λ tells. c.next_gate.ensures.kept tells ∙ was.kept tells;
      count = c.in_ok-next.ensures.counted ∙ was.count;
      strays = λ tells. c.next_gate.ensures.strays tells ∙ was.strays tells;
      same = g.met.D.Disk.same_then _ _ _ was.same c.next_gate.ensures.same;
      scanned = λ tells.
          let opened : IsTrue g.D.Disk.tells → get_or (held c.records.disk).seen c.records.gate 0 ≡ 1 = rw c.in-Some.is at c.in_ok-next.ensures.opened in
          let whole : IsTrue g.D.Disk.tells → IsWhole (held c.records.disk).seen c.records.gate c.in-Some.next = rw c.in-Some.is at c.in_ok-next.ensures.whole in
          let opened_so : get_or seen c.records.gate 0 ≡ 1 = rw (was.kept tells) at (opened tells) in
          let whole_so : IsWhole seen c.records.gate c.in-Some.next = rw (was.kept tells) at (whole tells) in
          rw pushed (scanned_more seen c.records.gate c.in-Some.next c.records.offsets.items (was.scanned tells) opened_so whole_so (omega (arith, within, c.requires.long tells)));
    }
