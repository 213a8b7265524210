-- Why a command ends without an answer of its own, and what its counts then are.
use Rattle.std.specs.Prelude.{◌≡◌, ℕ, Result, Ok, Err}
use Rattle.scitt_io.specs.Causes.{Rose}
use Rattle.scitt_tool.specs.Answer.{Answer, unread, disk_fault}
use Rattle.scitt_tool.specs.declared.stops.ToolStop.{ToolStop}
use Rattle.scitt_tool.specs.declared.stops.ToolStop.TheVariants.{ReadFault, DiskFault, OutOfMemory}

-- a fault is answered as such, and want of memory isn't
abbrev pub Stopped : {E : Type 0} → Result Answer ToolStop → Result Answer E → Type 0
Stopped (Ok answer) result = result ≡ Ok answer
Stopped (Err ReadFault) result = result ≡ Ok unread
Stopped (Err DiskFault) result = result ≡ Ok disk_fault
Stopped (Err OutOfMemory) (Ok answer) = ⊥
Stopped (Err OutOfMemory) (Err none) = Unit {0}

-- the random source's count: a read fault raised it, and it stays at every other end
abbrev pub CountsRandom : {A : Type 0} → ℕ → ℕ → Result A ToolStop → Type 0
CountsRandom before now (Err ReadFault) = Rose before now
CountsRandom before now _ = now ≡ before

-- the disk's count: a disk fault raised it, and it stays at every other end
abbrev pub CountsKey : {A : Type 0} → ℕ → ℕ → Result A ToolStop → Type 0
CountsKey before now (Err DiskFault) = Rose before now
CountsKey before now _ = now ≡ before
