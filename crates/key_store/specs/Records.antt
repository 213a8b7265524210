-- The records of a key file: what its key is made from, and reservations of indices, in strict CBOR (RFC 8949, 4.2.1).
use Rattle.std.specs.Prelude.{◌≡◌, ◌≤◌, ℕ, ◌==◌, ◌&&◌, ◌||◌, Bool, List, [], ◌∷◌, Option, None, Some, length, map, nat_le, option_and_then, option_map, if◌then◌else◌}
use Rattle.std.specs.List.{list_all}
use Rattle.cbor_core.specs.declared.tree.Item.{Item}
use Rattle.cbor_core.specs.Decoding.{strict_item}
use Rattle.cbor_core.specs.Items.{uint_in, bytes_in, array_in, is_uint, uint_item, bytes_item, array_item}
use Rattle.lms_ots.specs.Parameters.{parameters, type_of_code}
use Rattle.lms_tree.specs.declared.types.Level.{Level}
use Rattle.lms_tree.specs.Types.{lms_parameters, lms_type_of_code, height}
use Rattle.hss_keys.specs.Levels.{IsLevels}
use Rattle.key_store.specs.declared.records.KeyHead.{KeyHead}

-- a level by its codes of LMS and LM-OTS (RFC 8554, 5.1 and 4.1)
abbrev pub level_by : ℕ → ℕ → Option Level
level_by lms ots = option_and_then (λ l. option_map (λ o. record { lms = l; ots = o }) (type_of_code ots)) (lms_type_of_code lms)

-- a level is spelled as the array of its two codes
abbrev pub level_of_parts : List Item → Option Level
level_of_parts (lms ∷ ots ∷ []) = option_and_then (λ l. option_and_then (λ o. level_by l o) (uint_in ots)) (uint_in lms)
level_of_parts _ = None

abbrev pub level_in : Item → Option Level
level_in item = option_and_then level_of_parts (array_in item)

abbrev pub level_item : Level → Item
level_item level = array_item (uint_item (lms_parameters level.lms).code ∷ uint_item (parameters level.ots).code ∷ [])

-- each of the items is a level
abbrev pub levels_of : List Item → Option (List Level)
levels_of [] = Some []
levels_of (item ∷ items) = option_and_then (λ level. option_map (λ levels. level ∷ levels) (levels_of items)) (level_in item)

-- one to three levels of heights 5 and 10
abbrev pub can_sign : Level → Bool
can_sign level = height level == 5 || height level == 10

abbrev pub are_levels : List Level → Bool
are_levels levels = nat_le 1 (length levels) && (nat_le (length levels) 3 && list_all can_sign levels)

abbrev pub kept_levels : List Level → Option (List Level)
kept_levels levels = if are_levels levels then Some levels else None

abbrev pub levels_in : Item → Option (List Level)
levels_in item = option_and_then kept_levels (option_and_then levels_of (array_in item))

-- a string of n bytes
abbrev pub sized : ℕ → List ℕ → Option (List ℕ)
sized n bytes = if length bytes == n then Some bytes else None

abbrev pub sized_in : ℕ → Item → Option (List ℕ)
sized_in n item = option_and_then (sized n) (bytes_in item)

-- a block of 1 to 64 indices
abbrev pub kept_block : ℕ → Option ℕ
kept_block block = if nat_le 1 block && nat_le block 64 then Some block else None

abbrev pub block_in : Item → Option ℕ
block_in item = option_and_then kept_block (uint_in item)

abbrev pub head_from : Option (List ℕ) → Option (List ℕ) → Option (List Level) → Option ℕ → Option KeyHead
head_from (Some seed) (Some id) (Some levels) (Some block) = Some (record { seed = seed; id = id; levels = levels; block = block })
head_from _ _ _ _ = None

-- what a key is made from is spelled `[0, 1, seed, identifier, levels, block]`, with a seed of 32 bytes and an identifier of 16
abbrev pub head_of_parts : List Item → Option KeyHead
head_of_parts (kind ∷ version ∷ seed ∷ id ∷ levels ∷ block ∷ []) =
    if is_uint 0 kind && is_uint 1 version
    then head_from (sized_in 32 seed) (sized_in 16 id) (levels_in levels) (block_in block)
    else None
head_of_parts _ = None

abbrev pub head_in : Item → Option KeyHead
head_in item = option_and_then head_of_parts (array_in item)

abbrev pub head_item : KeyHead → Item
head_item head =
    array_item (uint_item 0 ∷ uint_item 1 ∷ bytes_item head.seed ∷ bytes_item head.id ∷ array_item (map level_item head.levels) ∷ uint_item head.block ∷ [])

-- a key within these limits
pub record IsHead (head : KeyHead) : Type 0 where
  pub seed : length head.seed ≡ 32
  pub id : length head.id ≡ 16
  pub levels : IsLevels head.levels
  pub some : 1 ≤ head.block
  pub most : head.block ≤ 64

-- a reservation is spelled `[1, upto]`
abbrev pub upto_of_parts : List Item → Option ℕ
upto_of_parts (kind ∷ upto ∷ []) = if is_uint 1 kind then uint_in upto else None
upto_of_parts _ = None

abbrev pub upto_in : Item → Option ℕ
upto_in item = option_and_then upto_of_parts (array_in item)

abbrev pub upto_item : ℕ → Item
upto_item upto = array_item (uint_item 1 ∷ uint_item upto ∷ [])

-- what the key is made from, where the body spells that
unfoldable pub head_of : List ℕ → Option KeyHead
head_of body = option_and_then head_in (strict_item body)

-- the number of indices that are reserved, where the body spells a reservation
unfoldable pub upto_of : List ℕ → Option ℕ
upto_of body = option_and_then upto_in (strict_item body)
