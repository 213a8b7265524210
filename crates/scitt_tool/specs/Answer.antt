-- What a command answers: a status, and lines of text, or the bytes of a statement.
use Rattle.std.specs.Prelude.{ℕ, ◌++◌, codes}
use Rattle.std.specs.Fmt.{decimal}
pub use Rattle.command_line.specs.Answer.{Answer, line, done, refused, words_refused, unread, too_long, Says}

-- a call of the key file's disk failed
abbrev pub disk_fault : Answer
disk_fault = record { status = 6; text = line (codes "disk fault") }

-- no index of the key is left: the next one is the number of all
abbrev pub exhausted : ℕ → ℕ → Answer
exhausted next capacity = record { status = 7; text = line (codes "exhausted " ++ decimal next ++ codes " " ++ decimal capacity) }
