use Rattle.std.specs.Prelude.{ℕ}
use Rattle.scitt_disk.specs.declared.file.FileDisk.{FileDisk}

-- how many calls of a file's disk have failed
abbrev pub faults_of_file : {R : Type 0} → FileDisk R → ℕ
faults_of_file disk = disk.faults
