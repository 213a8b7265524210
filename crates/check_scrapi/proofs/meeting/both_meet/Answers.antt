use denote.Param.Send.{IsSend, sendable}
use Rattle.std.proofs.Crossing.{crosses}
use Rattle.turn_lock.proofs.seat.CallerSeat.TheSendSync as seat
use Rattle.scitt_disk.specs.contracts.memory.MemDisk as disk
use Rattle.scitt_disk.specs.contracts.memory.MemDiskDisk.TheImpl.{ghosts}
use Rattle.scitt_service.proofs.Sent.{service_shared}
use Rattle.check_scrapi.proofs.meeting.both_meet.Goals as goal

pub join-first-requires-send-F : goal.join-first-requires-send-F
join-first-requires-send-F g c κs within =
    let system = c.type_bounds.sync-typeof-rt in
    let memory : IsSend disk.the_row = search (crosses, sendable) depth 60 fits 20000 in
    let service = service_shared disk.the_row ghosts memory in
    search (seat.the_send, crosses, sendable) depth 60 fits 20000
