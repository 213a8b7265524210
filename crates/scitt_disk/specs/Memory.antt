use Rattle.std.specs.Prelude.{ℕ}
use Rattle.scitt_io.specs.declared.plan.Plan.{Plan}
use Rattle.scitt_disk.specs.declared.memory.MemDisk.{MemDisk}
use Rattle.scitt_disk.specs.Images.{Held}
use Rattle.scitt_disk.specs.Calls.{held_from}

-- what a memory disk holds
abbrev pub held_of : MemDisk → Held
held_of disk = held_from disk.kept disk.first.items disk.bytes.items disk.changes.items

-- its list of failing calls, and the calls made so far
abbrev pub plan_of : MemDisk → Plan
plan_of disk = disk.plan

-- how often it was asked for what it doesn't hold
abbrev pub strays_of : MemDisk → ℕ
strays_of disk = disk.strays

-- how often memory was wanting for what it keeps
abbrev pub wants_of : MemDisk → ℕ
wants_of disk = disk.wants
