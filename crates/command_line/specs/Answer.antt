-- What a program answers: a status, and lines of text, or bytes.
use Rattle.std.specs.Prelude.{◌≡◌, ◌<◌, ℕ, ◌++◌, ◌∷◌, [], List, length, take, codes, ◌⊎◌}
use Rattle.std.specs.Fmt.{decimal}
use Rattle.std.specs.Io.KnownBytes.{Appends}
use Rattle.std.specs.declared.option.Option.{Option}
use Rattle.scitt_io.specs.Causes.{Rose}

pub record Answer : Type 0 where
  pub status : ℕ
  pub text : List ℕ

-- a line ends with LF
abbrev pub line : List ℕ → List ℕ
line text = text ++ 10 ∷ []

-- done
abbrev pub done : List ℕ → Answer
done text = record { status = 0; text = text }

-- refused by a written rule
abbrev pub refused : List ℕ → Answer
refused text = record { status = 1; text = line text }

-- the words name no command
abbrev pub words_refused : Answer
words_refused = record { status = 2; text = line (codes "words refused") }

-- a read was refused
abbrev pub unread : Answer
unread = record { status = 3; text = line (codes "read fault") }

-- a chosen file is longer than this limit
abbrev pub too_long : ℕ → Answer
too_long limit = record { status = 8; text = line (codes "too long " ++ decimal limit) }

-- The answer's status after its whole text was written, or status 4 after a part of it, where the sink's count rose.
pub record Says (answer : Answer) (old new : Option (List ℕ)) (before now : ℕ) (status : ℕ) : Type 0 where
  pub count : ℕ
  pub written : Appends old new (take count answer.text)
  pub ends : ((status ≡ answer.status) × (count ≡ length answer.text) × (now ≡ before))
      ⊎ ((status ≡ 4) × (count < length answer.text) × Rose before now)
