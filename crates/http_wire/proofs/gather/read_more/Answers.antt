use Rattle.std.proofs.Common.{◌+◌, arith}
use Rattle.http_wire.proofs.Gathering.{read_front}
use Rattle.http_wire.proofs.gather.read_more.Goals as goal

pub returns-in-Ok-clause-gathers : goal.returns-in-Ok-clause-gathers
returns-in-Ok-clause-gathers g c =
    read_front c.args.bytes.now.items _ _ _ _ c.len-start.result (c.len-start.result + c.min.result) _ _ _ (omega (arith, c.len-start.ensures, c.args.bytes.now.ok.0)) (omega arith) c.in_ok-resize.ensures.items c.in-Ok.ensures.front c.truncate.ensures.items c.in-Ok.ensures.reads.0
