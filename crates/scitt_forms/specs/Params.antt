-- Parameters of a log: the item that a form says.
use Rattle.std.specs.Prelude.{ℕ, List, [], ◌∷◌, Option, Some, None, Ok}
use Rattle.lms_tree.specs.declared.types.Level.{Level}
use Rattle.cbor_core.specs.declared.tree.Item.{Item}
use Rattle.policy_rules.specs.Spelling.{uint_item, text_item, array_item}
use Rattle.toml.specs.Data.{Data, Members}
use Rattle.scitt_forms.specs.declared.refusal.Word.{Word}
use Rattle.scitt_forms.specs.declared.refusal.Word.TheVariants as w
use Rattle.scitt_forms.specs.Refusals.{Said, and_then}
use Rattle.scitt_forms.specs.Fields.{form, value_said, text_said, number_said, when_known}
use Rattle.scitt_forms.specs.Holders.{holder_at}
use Rattle.scitt_forms.specs.Levels.{levels_said, levels_item}

-- the governor is one table
abbrev pub governor_said : Members → Said Item
governor_said table = and_then (value_said form w.Governor table) (holder_at w.Governor 0)

-- [1, name, [iss, kid, key], levels, max_entries, block]
abbrev pub params : List ℕ → Item → List Level → ℕ → ℕ → Item
params name governor levels max_entries block =
    array_item (uint_item 1 ∷ text_item name ∷ governor ∷ levels_item levels ∷ uint_item max_entries ∷ uint_item block ∷ [])

abbrev pub with_entries : Members → List ℕ → Item → List Level → ℕ → Said Item
with_entries table name governor levels max_entries =
    and_then (number_said form w.Block table) (λ block. Ok (params name governor levels max_entries block))

abbrev pub with_levels : Members → List ℕ → Item → List Level → Said Item
with_levels table name governor levels = and_then (number_said form w.MaxEntries table) (with_entries table name governor levels)

abbrev pub with_governor : Members → List ℕ → Item → Said Item
with_governor table name governor = and_then (levels_said form table) (with_levels table name governor)

abbrev pub with_name : Members → List ℕ → Said Item
with_name table name = and_then (governor_said table) (with_governor table name)

abbrev pub params_words : List Word
params_words = w.Name ∷ w.Governor ∷ w.Levels ∷ w.MaxEntries ∷ w.Block ∷ []

-- the item of parameters that a form says: the service's name, the governor, the levels, the most entries and the block
abbrev pub params_item_said : Members → Said Item
params_item_said table = when_known form params_words table (and_then (text_said form w.Name table) (with_name table))
