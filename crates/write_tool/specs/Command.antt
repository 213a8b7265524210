-- The commands, and the words of each: what is asked for, and the file that it is asked of.
use Rattle.std.specs.Prelude.{ℕ, List, [], ◌∷◌, Option, Some, None, if◌then◌else◌, codes}
use Rattle.std.specs.Str.{bytes_eq}
use Rattle.write_tool.specs.declared.command.Kind.TheVariants.{Policy, Params, Trust}
use Rattle.write_tool.specs.declared.command.Task.{Task}
use Rattle.write_tool.specs.declared.command.Task.TheVariants.{Write, Show}

pub record Command : Type 0 where
  pub task : Task
  pub file : List ℕ

abbrev pub command : Task → List ℕ → Command
command task file = record { task = task; file = file }

abbrev pub with_one : List ℕ → List ℕ → Option Command
with_one name file =
    if bytes_eq name (codes "policy") then Some (command (Write Policy) file)
    else (if bytes_eq name (codes "params") then Some (command (Write Params) file)
    else (if bytes_eq name (codes "trust") then Some (command (Write Trust) file)
    else (if bytes_eq name (codes "show") then Some (command Show file)
    else None)))

-- the command that these words are, exactly
abbrev pub command_of : List (List ℕ) → Option Command
command_of (name ∷ file ∷ []) = with_one name file
command_of _ = None

-- the file that a command reads
abbrev pub files_of : Option Command → List (List ℕ)
files_of None = []
files_of (Some command) = command.file ∷ []
