-- Scripts, as items spell them.
use Rattle.std.specs.Prelude.{◌≡◌, ℕ, ◌==◌, List, [], ◌∷◌, length, Option, Some, None, option_and_then, Result, Ok, Err, if◌then◌else◌}
use Rattle.cbor_core.specs.declared.words.Grammar.TheVariants.{Strict}
use Rattle.cbor_core.specs.declared.tree.Item.{Item}
use Rattle.cbor_core.specs.Spells.{Spells}
use Rattle.cbor_core.specs.Items.{uint_in, bytes_in, array_in, is_uint}
use Rattle.policy_rules.specs.Conditions.{each_onto}
use Rattle.registrar.specs.declared.words.Params.{Params}
use Rattle.log_params.specs.ParamFiles.{params_of_parts}
use Rattle.scitt_script.specs.declared.script.Script.{Script}
use Rattle.scitt_script.specs.declared.script.ScriptStop.{ScriptStop}
use Rattle.scitt_script.specs.declared.script.ScriptStop.TheVariants.{BadScript, OutOfMemory}

-- a byte string of so many bytes
abbrev pub bytes_of_length : ℕ → Item → Option (List ℕ)
bytes_of_length n item = option_and_then (λ bytes. if length bytes == n then Some bytes else None) (bytes_in item)

-- an array of unsigned numbers
abbrev pub moments_in : Item → Option (List ℕ)
moments_in item = option_and_then (each_onto uint_in []) (array_in item)

abbrev pub script_from : Option (List ℕ) → Option (List ℕ) → Option Params → Option (List ℕ) → Option (List ℕ) → Option Script
script_from (Some seed) (Some id) (Some params) (Some moments) (Some session) =
    Some (record { seed = seed; id = id; params = params; moments = moments; session = session })
script_from _ _ _ _ _ = None

-- 1, seed, id, name, [iss, kid, key], levels, max_entries, block, moments, session
abbrev pub script_of_parts : List Item → Option Script
script_of_parts (form ∷ seed ∷ id ∷ name ∷ governor ∷ levels ∷ max_entries ∷ block ∷ moments ∷ session ∷ []) =
    if is_uint 1 form then script_from (bytes_of_length 32 seed) (bytes_of_length 16 id)
    (params_of_parts (name ∷ governor ∷ levels ∷ max_entries ∷ block ∷ [])) (moments_in moments) (bytes_in session)
    else None
script_of_parts _ = None

-- the script that an item is
unfoldable pub script_in : Item → Option Script
script_in item = option_and_then script_of_parts (array_in item)

-- the bytes are this script
abbrev pub ScriptOf : List ℕ → Script → Type 0
ScriptOf bytes script = (item : Item) × Spells Strict item bytes × (script_in item ≡ Some script)

-- they are none
abbrev pub IsNoScript : List ℕ → Type 0
IsNoScript bytes = (script : Script) → ScriptOf bytes script → ⊥

-- they are no two
abbrev pub OneScript : Type 0
OneScript = (bytes : List ℕ) (a b : Script) → ScriptOf bytes a → ScriptOf bytes b → a ≡ b

-- the decoder's answer, unless memory ran out
abbrev pub Decoded : List ℕ → Result Script ScriptStop → Type 0
Decoded bytes (Ok script) = ScriptOf bytes script
Decoded bytes (Err BadScript) = IsNoScript bytes
Decoded bytes (Err OutOfMemory) = Unit {0}

-- a call answers what the definition tells, unless memory ran out
abbrev pub AnswersAs : Result Script ScriptStop → Option Script → Type 0
AnswersAs (Ok script) told = told ≡ Some script
AnswersAs (Err BadScript) told = told ≡ None
AnswersAs (Err OutOfMemory) told = Unit {0}
