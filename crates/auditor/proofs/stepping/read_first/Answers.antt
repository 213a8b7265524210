use Rattle.std.proofs.Common.{◌<◌, [], length}
use Rattle.auditor.proofs.Gates.{reads_first, before_first, is_one, some_there}
use Rattle.auditor.proofs.stepping.read_first.Goals as goal

pub returns-clause-reads : goal.returns-clause-reads
returns-clause-reads g c =
    let some : 0 < length c.in_ok-one.one.items = some_there c.in_ok-one.one.items c.in_ok-one.one.len c.in_ok-one.one.ok.0 c.if-is_empty.ensures in
    let first = c.in_ok-one.ensures.took in
    reads_first c.args.limit c.index.result.now _ _ _ first.bytes c.read_at_gate.result first.taken (is_one first.bytes c.in_ok-one.one.items c.index.result.now first.is.items first.is.most some c.index.ensures) (c.read_at_gate.ensures.reads [] (before_first c.index.result.now))
