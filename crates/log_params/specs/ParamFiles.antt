-- Parameter files, as items spell them.
use Rattle.std.specs.Prelude.{◌≡◌, ℕ, ◌==◌, ◌&&◌, nat_le, List, [], ◌∷◌, length, Option, Some, None, option_and_then, Result, Ok, Err, if◌then◌else◌}
use Rattle.std.specs.List.{list_all}
use Rattle.cbor_core.specs.declared.words.Grammar.TheVariants.{Strict}
use Rattle.cbor_core.specs.declared.tree.Item.{Item}
use Rattle.cbor_core.specs.Spells.{Spells}
use Rattle.cbor_core.specs.Decoding.{WholeFault}
use Rattle.cbor_core.specs.Items.{uint_in, bytes_in, text_in, array_in, is_uint}
use Rattle.lms_tree.specs.declared.types.Level.{Level}
use Rattle.policy_rules.specs.declared.documents.Holder.{Holder}
use Rattle.log_replay.specs.Records.{any_holder_in, levels_in}
use Rattle.log_replay.specs.WellMade.{is_signing_level}
use Rattle.registrar.specs.declared.words.Params.{Params}
use Rattle.log_params.specs.declared.stop.ParamsStop.{ParamsStop}
use Rattle.log_params.specs.declared.stop.ParamsStop.TheVariants.{Cbor, BadParams, OutOfMemory}

-- one to three levels, each of height 5 or 10
abbrev pub when_signing : List Level → Option (List Level)
when_signing levels =
    if nat_le 1 (length levels) && nat_le (length levels) 3 && list_all is_signing_level levels then Some levels else None

abbrev pub signing_levels_in : Item → Option (List Level)
signing_levels_in item = option_and_then when_signing (levels_in item)

-- an unsigned number of at most 32 bits
abbrev pub short_in : Item → Option ℕ
short_in item = option_and_then (λ n. if nat_le n 4294967295 then Some n else None) (uint_in item)

abbrev pub params_from : Option (List ℕ) → Option Holder → Option (List Level) → Option ℕ → Option ℕ → Option Params
params_from (Some name) (Some governor) (Some levels) (Some max_entries) (Some block) =
    Some (record { name = name; governor = governor; levels = levels; max_entries = max_entries; block = block })
params_from _ _ _ _ _ = None

-- name, [iss, kid, key], levels, max_entries, block
abbrev pub params_of_parts : List Item → Option Params
params_of_parts (name ∷ governor ∷ levels ∷ max_entries ∷ block ∷ []) =
    params_from (text_in name) (any_holder_in governor) (signing_levels_in levels) (short_in max_entries) (short_in block)
params_of_parts _ = None

-- 1, and then these
abbrev pub params_behind_form : List Item → Option Params
params_behind_form (form ∷ parts) = if is_uint 1 form then params_of_parts parts else None
params_behind_form [] = None

-- the parameters that an item is
unfoldable pub params_file_in : Item → Option Params
params_file_in item = option_and_then params_behind_form (array_in item)

-- the bytes are a parameter file of these
abbrev pub ParamsOf : List ℕ → Params → Type 0
ParamsOf bytes params = (item : Item) × Spells Strict item bytes × (params_file_in item ≡ Some params)

-- why they are none: the first fault of the bytes as an item, or that the item is another one
abbrev pub ParamsFault : List ℕ → ParamsStop → Type 0
ParamsFault bytes (Cbor fault) = WholeFault Strict bytes fault
ParamsFault bytes BadParams = (item : Item) × Spells Strict item bytes × (params_file_in item ≡ None)
ParamsFault bytes OutOfMemory = ⊥

-- the decoder's answer, unless memory ran out
abbrev pub Decoded : List ℕ → Result Params ParamsStop → Type 0
Decoded bytes (Ok params) = ParamsOf bytes params
Decoded bytes (Err OutOfMemory) = Unit {0}
Decoded bytes (Err stop) = ParamsFault bytes stop

-- what reading the bytes answers
abbrev pub ReadsItem : List ℕ → Result Item ParamsStop → Type 0
ReadsItem bytes (Ok item) = Spells Strict item bytes
ReadsItem bytes (Err (Cbor fault)) = WholeFault Strict bytes fault
ReadsItem bytes (Err OutOfMemory) = Unit {0}
ReadsItem bytes (Err BadParams) = ⊥

-- a call answers what the definition tells, unless memory ran out
abbrev pub AnswersAs : Result Params ParamsStop → Option Params → Type 0
AnswersAs (Ok params) told = told ≡ Some params
AnswersAs (Err BadParams) told = told ≡ None
AnswersAs (Err OutOfMemory) told = Unit {0}
AnswersAs (Err (Cbor fault)) told = ⊥
