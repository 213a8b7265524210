use denote.Param.Send.{sendable}
use Rattle.std.proofs.Crossing.{crosses}
use Rattle.scitt_service.proofs.Sent.{service_shared}
use Rattle.scittd.proofs.serving.serve.Goals as goal

pub for_each_mut-requires-sync-F : goal.for_each_mut-requires-sync-F
for_each_mut-requires-sync-F g c =
    let system = c.type_bounds.sync-R in
    let service = service_shared _ g.D.Disk c.type_bounds.send-D in
    search (crosses, sendable) depth 60 fits 20000
