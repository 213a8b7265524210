-- What is read of a chosen file.
use Rattle.std.specs.Prelude.{◌≡◌, ◌<◌, ◌≤◌, ℕ, List, length, Option, Some, Result, Ok, Err, IfSome}
use Rattle.std.specs.Global.{Vec}
use Rattle.scitt_io.specs.declared.source.ReadStop.{ReadStop}
use Rattle.scitt_io.specs.declared.source.ReadStop.TheVariants.{TooLong, ReadFault, OutOfMemory}

-- the file of each name
abbrev pub FileOf : Type 0
FileOf = List ℕ → Option (List ℕ)

-- what a file of this name has, where files are told; none where it is missing
abbrev pub TellsFile : Option FileOf → List ℕ → Option (List ℕ) → Type 0
TellsFile told name content = IfSome told (λ file_of. file_of name ≡ content)

-- the file's bytes within this limit, or it is longer; nothing is said of a refused read
abbrev pub ReadOf : ℕ → Option (List ℕ) → Result (Vec ℕ) ReadStop → Type 0
ReadOf limit content (Ok bytes) = (content ≡ Some bytes.items) × (length bytes.items ≤ limit)
ReadOf limit content (Err TooLong) = (bytes : List ℕ) × (content ≡ Some bytes) × (limit < length bytes)
ReadOf limit content (Err ReadFault) = Unit {0}
ReadOf limit content (Err OutOfMemory) = Unit {0}
