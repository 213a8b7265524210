-- What is made ready to be written.
use Rattle.std.specs.Prelude.{ℕ, ◌<◌, ◌≤◌, List, length, Option, option_map}
use Rattle.registrar.specs.declared.writing.Needed.{Needed}

-- the body of the Reserve that is needed, where one is
abbrev pub body_needed : Option Needed → Option (List ℕ)
body_needed needed = option_map (λ n. n.body.items) needed

-- a body that a ledger with this room may take
pub record HasRoomFor (room : ℕ) (body : List ℕ) : Type 0 where
  pub some : 0 < length body
  pub short : length body ≤ 16777216
  pub within : length body ≤ room
