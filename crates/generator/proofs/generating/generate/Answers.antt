use Rattle.std.proofs.Common.{List, ℕ, refl, subst}
use Rattle.scitt_disk.specs.declared.memory.MemDisk.{MemDisk}
use Rattle.scitt_disk.specs.Images.{ImageNow}
use Rattle.scitt_disk.specs.Memory.{held_of}
use Rattle.generator.specs.Tallies.{tally}
use Rattle.generator.proofs.Auditing.{on_disk}
use Rattle.generator.proofs.generating.generate.Goals as goal

pub told-requires-clause-log : goal.told-requires-clause-log
told-requires-clause-log c =
    on_disk (tally c.args.count) c.fill-counts.new.log.disk c.close-disk.result c.fill-counts.new.log.standing c.close-disk.ensures c.in_ok-counts.ensures.holds (c.images.ensures refl)
