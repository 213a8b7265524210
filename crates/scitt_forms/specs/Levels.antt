-- The levels of a key as an item: for each level the codes of its tree and of its one-time keys (RFC 8554, 5.1 and 4.1).
use Rattle.std.specs.Prelude.{ℕ, List, [], ◌∷◌, map, Option, Some, None}
use Rattle.lms_ots.specs.Parameters.{parameters}
use Rattle.lms_tree.specs.Types.{lms_parameters}
use Rattle.lms_tree.specs.declared.types.Level.{Level}
use Rattle.level_names.specs.LevelNames.{levels_named}
use Rattle.cbor_core.specs.declared.tree.Item.{Item}
use Rattle.policy_rules.specs.Spelling.{uint_item, array_item}
use Rattle.toml.specs.Data.{Members}
use Rattle.scitt_forms.specs.declared.refusal.Place.{Place}
use Rattle.scitt_forms.specs.declared.refusal.Word.TheVariants as w
use Rattle.scitt_forms.specs.declared.refusal.Why.TheVariants.{Named}
use Rattle.scitt_forms.specs.Refusals.{Said, refusal, and_then, or_refuse}
use Rattle.scitt_forms.specs.Fields.{text_said}

-- [LMS code, OTS code]
abbrev pub level_item : Level → Item
level_item level = array_item (uint_item (lms_parameters level.lms).code ∷ uint_item (parameters level.ots).code ∷ [])

abbrev pub levels_item : List Level → Item
levels_item levels = array_item (map level_item levels)

-- the levels of a name
abbrev pub named : Place → List ℕ → Said (List Level)
named place text = or_refuse (refusal place w.Levels Named) (levels_named text)

abbrev pub levels_said : Place → Members → Said (List Level)
levels_said place table = and_then (text_said place w.Levels table) (named place)
