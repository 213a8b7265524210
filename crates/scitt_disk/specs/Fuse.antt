use Rattle.std.specs.Prelude.{ℕ, ◌+◌, ◌-◌, ◌^◌, min}
use Rattle.scitt_disk.specs.declared.memory.MemDisk.{MemDisk}
use Rattle.scitt_disk.specs.Memory.{plan_of}
use Rattle.scitt_disk.specs.declared.fuse.FuseDisk.{FuseDisk}

-- the disk beneath a fuse
abbrev pub beneath : FuseDisk → MemDisk
beneath fuse = fuse.disk

-- how many calls a fuse still passes on
abbrev pub passes_of : FuseDisk → ℕ
passes_of fuse = fuse.passes

-- the faults of the disk beneath, and the calls that weren't passed on
abbrev pub faults_of : FuseDisk → ℕ
faults_of fuse = min ((plan_of (beneath fuse)).faults + fuse.refused) (2 ^ 64 - 1)
