-- The commands, and the words of each.
use Rattle.std.specs.Prelude.{ℕ, Bool, true, false, List, [], ◌∷◌, Option, Some, None, option_map, option_and_then, if◌then◌else◌, codes}
use Rattle.std.specs.Str.{bytes_eq}
use Rattle.lms_tree.specs.declared.types.Level.{Level}
use Rattle.scitt_draft.specs.Drafts.{Claims}
use Rattle.scitt_tool.specs.Claims.{claims_of}
use Rattle.level_names.specs.LevelNames.{levels_named}
use Rattle.scitt_tool.specs.Consistent.{size_named, root_named}
use Rattle.scitt_tool.specs.Generate.{count_named}

pub data Command : Type 0 where
  Root : (file : List ℕ) → Command
  Show : (file : List ℕ) → Command
  Policy : (file : List ℕ) → Command
  Audit : (file : List ℕ) → Command
  Replay : (file : List ℕ) → Command
  Generate : (count : ℕ) → Command
  Keygen : (levels : List Level) → Command
  Sign : (claims : Claims) → (file : List ℕ) → Command
  Attach : (statement : List ℕ) → (receipt : List ℕ) → Command
  Verify : (trust : List ℕ) → (statement : List ℕ) → Command
  Consistent : (trust : List ℕ) → (receipt : List ℕ) → (size : ℕ) → (root : List ℕ) → Command

-- a name and one argument
abbrev pub with_one : List ℕ → List ℕ → Option Command
with_one name a =
    if bytes_eq name (codes "root") then Some (Root a)
    else (if bytes_eq name (codes "show") then Some (Show a)
    else (if bytes_eq name (codes "policy") then Some (Policy a)
    else (if bytes_eq name (codes "audit") then Some (Audit a)
    else (if bytes_eq name (codes "replay") then Some (Replay a)
    else (if bytes_eq name (codes "generate") then option_map Generate (count_named a)
    else (if bytes_eq name (codes "keygen") then option_map Keygen (levels_named a)
    else None))))))

-- a name and two
abbrev pub with_two : List ℕ → List ℕ → List ℕ → Option Command
with_two name a b =
    if bytes_eq name (codes "attach") then Some (Attach a b)
    else (if bytes_eq name (codes "verify") then Some (Verify a b)
    else None)

-- and four
abbrev pub with_four : List ℕ → List ℕ → List ℕ → List ℕ → List ℕ → Option Command
with_four name a b c d =
    if bytes_eq name (codes "consistent") then option_and_then (λ size. option_map (Consistent a b size) (root_named d)) (size_named c) else None

-- and six
abbrev pub signing : List ℕ → Claims → Command
signing file claims = Sign claims file

abbrev pub with_six : List ℕ → List ℕ → List ℕ → List ℕ → List ℕ → List ℕ → List ℕ → Option Command
with_six name iss sub type nbf exp file =
    if bytes_eq name (codes "sign") then option_map (signing file) (claims_of iss sub type nbf exp) else None

-- the command that these words are, exactly
abbrev pub command_of : List (List ℕ) → Option Command
command_of (name ∷ a ∷ []) = with_one name a
command_of (name ∷ a ∷ b ∷ []) = with_two name a b
command_of (name ∷ a ∷ b ∷ c ∷ d ∷ []) = with_four name a b c d
command_of (name ∷ a ∷ b ∷ c ∷ d ∷ e ∷ f ∷ []) = with_six name a b c d e f
command_of _ = None

-- the files that a command reads, in the order of the words
abbrev pub files_of : Command → List (List ℕ)
files_of (Root file) = file ∷ []
files_of (Show file) = file ∷ []
files_of (Policy file) = file ∷ []
files_of (Audit file) = file ∷ []
files_of (Replay file) = file ∷ []
files_of (Generate count) = []
files_of (Keygen levels) = []
files_of (Sign claims file) = file ∷ []
files_of (Attach statement receipt) = statement ∷ receipt ∷ []
files_of (Verify trust statement) = trust ∷ statement ∷ []
files_of (Consistent trust receipt size root) = trust ∷ receipt ∷ []

-- how long each of them may be
abbrev pub limit_of : Command → ℕ
limit_of (Audit file) = 3221225472
limit_of _ = 16777216

-- the files that words read: none where they are no command
abbrev pub files_read : Option Command → List (List ℕ)
files_read None = []
files_read (Some command) = files_of command

-- the command uses the key file
abbrev pub uses_key : Option Command → Bool
uses_key (Some (Keygen levels)) = true
uses_key (Some (Sign claims file)) = true
uses_key _ = false

-- it takes random bytes
abbrev pub uses_random : Option Command → Bool
uses_random (Some (Keygen levels)) = true
uses_random _ = false
