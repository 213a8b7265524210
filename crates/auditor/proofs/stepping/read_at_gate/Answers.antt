use Rattle.std.proofs.Common.{◌-◌, subst, Ok}
use Rattle.auditor.specs.declared.stepping.Behind.{Behind}
use Rattle.auditor.specs.Fetches.{Took, IsRest, IsBehind}
use Rattle.auditor.proofs.Gates.{reads_ended, reads_whole, reads_cut}
use Rattle.auditor.proofs.stepping.read_at_gate.Goals as goal

pub returns-then-gate-ne-OPEN-clause-reads : goal.returns-then-gate-ne-OPEN-clause-reads
returns-then-gate-ne-OPEN-clause-reads g c = λ R before.
    let took = c.in_ok-rest.ensures.took in
    reads_ended c.args.limit c.args.place c.args.gate IsRest _ _ c.in_ok-rest.rest c.shut.result R before c.requires took c.shut.ensures.told.1
    (c.shut.ensures.says R c.args.gate took.bytes _ before c.if-gate-ne-OPEN.true took.is.counted took.is.end)

pub returns-in-Whole-clause-reads : goal.returns-in-Whole-clause-reads
returns-in-Whole-clause-reads g c = λ R before.
    reads_whole c.args.limit c.args.place c.args.gate _ _ c.in-Whole.whole R c.if-gate-ne-OPEN.false before c.requires
    (subst (λ (b : Behind). Took (c.args.limit - c.args.place - 1) IsBehind (g.S.Source.left c.args.source.now) (g.S.Source.left c.read_behind_gate.new.source) (Ok b)) c.in-Whole.is c.in_ok-whole.ensures.took)

pub returns-in-Cut-clause-reads : goal.returns-in-Cut-clause-reads
returns-in-Cut-clause-reads g c = λ R before.
    reads_cut c.args.limit c.args.place c.args.gate c.in-Cut.tail _ _ c.cut.result R c.if-gate-ne-OPEN.false before c.requires
    (subst (λ (b : Behind). Took (c.args.limit - c.args.place - 1) IsBehind (g.S.Source.left c.args.source.now) (g.S.Source.left c.read_behind_gate.new.source) (Ok b)) c.in-Cut.is c.in_ok-whole.ensures.took)
    c.cut.ensures.told.1 (λ bytes left. c.cut.ensures.says R bytes left)
