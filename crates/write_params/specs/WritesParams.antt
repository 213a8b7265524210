-- What a text's form is written as: the strict bytes of the parameter file that it says.
use Rattle.std.specs.Prelude.{ℕ, nat_le, ◌&&◌, not, Bool, false, List, [], ◌∷◌, length, Option, Some, None, Result, Ok, Err, if◌then◌else◌}
use Rattle.cbor_core.specs.declared.tree.Item.{Item}
use Rattle.cbor_core.specs.Items.{array_in, bytes_in, text_in, uint_in}
use Rattle.registrar.specs.declared.words.Params.{Params}
use Rattle.log_params.specs.ParamFiles.{params_file_in, ParamsOf}
use Rattle.scitt_forms.specs.declared.refusal.Word.{Word}
use Rattle.scitt_forms.specs.declared.refusal.Word.TheVariants as w
use Rattle.scitt_forms.specs.declared.refusal.Why.TheVariants.{Limits}
use Rattle.scitt_forms.specs.declared.refusal.Refusal.{Refusal}
use Rattle.scitt_forms.specs.declared.stop.FormStop.{FormStop}
use Rattle.scitt_forms.specs.Refusals.{Said, refusal}
use Rattle.scitt_forms.specs.Fields.{form}
use Rattle.scitt_forms.specs.Params.{params_item_said}
use Rattle.scitt_forms.specs.Writing.{item_said, Writes}

-- a string of so many bytes
abbrev pub has_between : ℕ → ℕ → Option (List ℕ) → Bool
has_between low high None = false
has_between low high (Some s) = nat_le low (length s) && nat_le (length s) high

-- a number from one to another
abbrev pub is_between : ℕ → ℕ → Option ℕ → Bool
is_between low high None = false
is_between low high (Some n) = nat_le low n && nat_le n high

-- an issuer of 1 to 1,024 bytes, and a kid of 1 to 64
abbrev pub governor_fits : Option (List Item) → Bool
governor_fits (Some (iss ∷ kid ∷ key ∷ [])) = has_between 1 1024 (text_in iss) && has_between 1 64 (bytes_in kid)
governor_fits _ = false

-- the first part that breaks a limit of a log's header: a name of 1 to 128 bytes, the governor, 1 to 65,536 entries, a block of 1 to 64
abbrev pub past_of_parts : Item → Item → Item → Item → Option Word
past_of_parts name governor max_entries block =
    if not (has_between 1 128 (text_in name)) then Some w.Name
    else (if not (governor_fits (array_in governor)) then Some w.Governor
    else (if not (is_between 1 65536 (uint_in max_entries)) then Some w.MaxEntries
    else (if not (is_between 1 64 (uint_in block)) then Some w.Block else None)))

abbrev pub past_by : Option (List Item) → Option Word
past_by (Some (form ∷ name ∷ governor ∷ levels ∷ max_entries ∷ block ∷ [])) = past_of_parts name governor max_entries block
past_by _ = None

abbrev pub past_word : Item → Option Word
past_word item = past_by (array_in item)

-- a limit is broken at this key
abbrev pub limits : Word → Refusal
limits word = refusal form word Limits

abbrev pub judged : Option Word → Option Params → Said Params
judged (Some word) params = Err (limits word)
judged None (Some params) = Ok params
judged None None = Err (limits w.Form)

-- the parameters that an item is; what breaks a limit of a log's header is refused at its key
abbrev pub params_doc : Item → Said Params
params_doc item = judged (past_word item) (params_file_in item)

abbrev pub WritesParams : List ℕ → Result (List ℕ) FormStop → Type 0
WritesParams text result = Writes ParamsOf params_doc (item_said params_item_said text) result
