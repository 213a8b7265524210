use Rattle.std.proofs.Common.{refl}
use Rattle.generator.proofs.Beginning.{begun_holds, never_refused}
use Rattle.generator.proofs.generating.begin.Goals as goal

pub returns-in-Ok : goal.returns-in-Ok
returns-in-Ok c =
    begun_holds c.in_ok-params.params c.of-service.result.id c.of-service.result.seed _ c.in_ok-params.ensures.params c.of-service.ensures.id c.of-service.ensures.seed
    c.in-Ok.ensures.begun c.in-Ok.ensures.reads c.in-Ok.ensures.sound

pub unreachable-requires : goal.unreachable-requires
unreachable-requires c =
    never_refused _ c.in_ok-params.params c.of-service.result.id c.of-service.result.seed _ _ _ _ c.in_ok-params.ensures.params c.of-service.ensures.id c.of-service.ensures.seed
    c.in_ok-params.ensures.short refl c.empty_disk-disk.ensures c.in_default.not-DiskFault c.in_default.not-OutOfMemory c.in-Err.ensures.stops
