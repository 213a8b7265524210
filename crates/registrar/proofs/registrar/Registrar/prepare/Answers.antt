use Rattle.std.proofs.Common.{◌≡◌, ◌≤◌, Some, subst}
use Rattle.statement.specs.Said.{said_of}
use Rattle.log_replay.specs.Records.{header_of, reserved_of, used_of}
use Rattle.registrar.specs.Seen.{log_of}
use Rattle.registrar.specs.Fits.{Registered}
use Rattle.registrar.specs.Ready.{IsSealed}
use Rattle.registrar.proofs.Ruling.{goes_says}
use Rattle.registrar.proofs.MadeReady.{is_ready, small_next, few_entries}
use Rattle.registrar.proofs.registrar.Registrar.prepare.Goals as goal

pub returns-clause-made : goal.returns-clause-made
returns-clause-made g c = λ room needed_within within.
    let S = c.args.self.now.standing in
    let said = said_of c.args.checked.now.statement in
    let V : Type 0 = Registered g.row.D.Denot in
    let inner = c.self.invariant.headed in
    let h = inner.header in
    let is : header_of S.log ≡ Some h = subst (λ (v : V). header_of v.standing.log ≡ Some h) c.self.view_is inner.first in
    let says = goes_says S h said c.args.moment c.args.rule is c.requires.judged in
    let near = c.in_ok-sealed.ensures.made (log_of c.self.inside.log.value) h c.self.invariant.state inner.first in
    let seals : IsSealed S.log h said c.args.at c.args.rule S.next c.in_ok-sealed.sealed.batch c.in_ok-sealed.sealed.receipt =
    subst (λ (v : V). IsSealed v.standing.log h said c.args.at c.args.rule v.standing.next c.in_ok-sealed.sealed.batch c.in_ok-sealed.sealed.receipt) c.self.view_is near in
    let above : used_of S.log ≤ S.next = subst (λ (v : V). used_of v.standing.log ≤ v.standing.next) c.self.view_is c.self.invariant.above in
    let ahead : S.next ≤ reserved_of S.log = subst (λ (v : V). v.standing.next ≤ reserved_of v.standing.log) c.self.view_is c.self.invariant.ahead in
    is_ready
    (record {
      fits = c.fitting_laws.ensures.batch;
      more = c.log_laws.ensures.one_more;
      bounded = c.growth_laws.ensures.bounds;
      adds = c.more_laws.ensures.batch;
      stays = c.growth_laws.ensures.header;
      homes = c.home_laws.ensures.home;
      batches = c.home_laws.ensures.count;
      leaves = c.growth_laws.ensures.leaves;
      receipts = c.answer_laws.ensures.receipt;
    })
    S h said c.args.moment c.args.rule c.args.at room c.in_ok-needed.needed c.in_ok-sealed.sealed.batch c.in_ok-sealed.sealed.receipt
    (c.in_ok-needed.ensures h is) seals c.sound.ensures.log is says c.requires.at c.entry_law.ensures.reads above
    (small_next c.growth_laws.ensures.bounds c.limit_laws.ensures.header c.levels_law.ensures.capacity S h said _ c.args.rule c.sound.ensures.log is says ahead)
    needed_within within

pub returns-clause-few : goal.returns-clause-few
returns-clause-few g c =
    let S = c.args.self.now.standing in
    let said = said_of c.args.checked.now.statement in
    let V : Type 0 = Registered g.row.D.Denot in
    let inner = c.self.invariant.headed in
    let h = inner.header in
    let is : header_of S.log ≡ Some h = subst (λ (v : V). header_of v.standing.log ≡ Some h) c.self.view_is inner.first in
    let says = goes_says S h said c.args.moment c.args.rule is c.requires.judged in
    few_entries c.growth_laws.ensures.bounds c.limit_laws.ensures.header S h said _ c.args.rule c.sound.ensures.log is says
