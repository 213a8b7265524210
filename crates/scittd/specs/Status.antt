-- How the server's start ends.
use Rattle.std.specs.Prelude.{ℕ}
use Rattle.scittd.specs.declared.fault.StartFault.{StartFault}
use Rattle.scittd.specs.declared.fault.StartFault.TheVariants.{WordsRefused}

-- the exit status: 2 for refused words, else 1
abbrev pub status_of : StartFault → ℕ
status_of WordsRefused = 2
status_of _ = 1
