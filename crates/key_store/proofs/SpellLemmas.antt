-- The records of a key file have strict bytes, not many, and read as what they were spelled from.
use Rattle.std.proofs.Common.{◌≡◌, ℕ, ◌*◌, ◌^◌, ◌<◌, ◌≤◌, true, List, [], ◌∷◌, length, refl, ◌∙◌, arith, lt-ltb}
use Rattle.std.specs.Prelude.{map}
use Rattle.std.proofs.lemmas.Bool.{and_from, le-leb}
use Rattle.std.proofs.lemmas.List.{length-map}
use Rattle.cbor_core.specs.declared.tree.Item.{Item}
use Rattle.cbor_core.specs.declared.heads.Size.{Size}
use Rattle.cbor_core.specs.declared.heads.Size.TheVariants.{Within, One, Two, Four, Eight}
use Rattle.cbor_core.specs.Items.{uint_item, bytes_item, array_item}
use Rattle.cbor_core.specs.Limits.{longest_string, most_parts, most_containers}
use Rattle.cbor_core.specs.Encoding.{size_of, head_size}
use Rattle.cbor_core.specs.Fitting.{all_items, len_sum, is_strict_item, strict_len, UintFits, BytesFit, ArrayFits, UintLength, BytesLength, ArrayLength}
use Rattle.lms_ots.specs.Parameters.{parameters}
use Rattle.lms_ots.specs.declared.parameters.OtsType.{OtsType}
use Rattle.lms_ots.specs.declared.parameters.OtsType.TheVariants.{W1, W2, W4, W8}
use Rattle.lms_tree.specs.Types.{lms_parameters}
use Rattle.lms_tree.specs.declared.types.LmsType.{LmsType}
use Rattle.lms_tree.specs.declared.types.LmsType.TheVariants.{H5, H10, H15, H20, H25}
use Rattle.lms_tree.specs.declared.types.Level.{Level}
use Rattle.key_store.specs.declared.records.KeyHead.{KeyHead}
use Rattle.key_store.specs.Records.{level_item, head_item, upto_item, IsHead}

lms_small : (kind : LmsType) → (lms_parameters kind).code ≤ 9
lms_small H5 = omega arith
lms_small H10 = omega arith
lms_small H15 = omega arith
lms_small H20 = omega arith
lms_small H25 = omega arith

ots_small : (kind : OtsType) → (parameters kind).code ≤ 9
ots_small W1 = omega arith
ots_small W2 = omega arith
ots_small W4 = omega arith
ots_small W8 = omega arith

size_small : (size : Size) → head_size size ≤ 9
size_small Within = omega arith
size_small One = omega arith
size_small Two = omega arith
size_small Four = omega arith
size_small Eight = omega arith

size_some : (size : Size) → 1 ≤ head_size size
size_some Within = omega arith
size_some One = omega arith
size_some Two = omega arith
size_some Four = omega arith
size_some Eight = omega arith

module _ (uint : UintFits) (bytes : BytesFit) (array : ArrayFits) where
  number : (room n : ℕ) → n < 2 ^ 64 → is_strict_item room (uint_item n) ≡ true
  number room n fits = uint room n ∙ lt-ltb n (2 ^ 64) fits

  string : (room : ℕ) (text : List ℕ) → length text ≤ 32 → is_strict_item room (bytes_item text) ≡ true
  string room text fits = bytes room text ∙ le-leb (length text) longest_string (omega arith)

  level_fits : (level : Level) → is_strict_item 14 (level_item level) ≡ true
  level_fits level =
      array 13 _ ∙ and_from _ _ refl (and_from _ _ (number 13 (lms_parameters level.lms).code (omega (arith, lms_small level.lms))) (and_from _ _ (number 13 (parameters level.ots).code (omega (arith, ots_small level.ots))) refl))

  levels_fit : (levels : List Level) → all_items (is_strict_item 14) (map level_item levels) ≡ true
  levels_fit [] = refl
  levels_fit (level ∷ levels) = and_from _ _ (level_fits level) (levels_fit levels)

  pub head_fits : (head : KeyHead) → IsHead head → is_strict_item most_containers (head_item head) ≡ true
  head_fits head is =
      let parts : List Item = map level_item head.levels in
      let few : length parts ≤ 3 = omega (arith, length-map head.levels level_item, is.levels.most) in
      array 15 _ ∙ and_from _ _ refl (and_from _ _ (number 15 0 (omega arith)) (and_from _ _ (number 15 1 (omega arith)) (and_from _ _ (string 15 head.seed (omega (arith, is.seed))) (and_from _ _ (string 15 head.id (omega (arith, is.id))) (and_from _ _ (array 14 parts ∙ and_from _ _ (le-leb (length parts) most_parts (omega arith)) (levels_fit head.levels)) (and_from _ _ (number 15 head.block (omega (arith, is.most))) refl))))))

  pub upto_fits : (upto : ℕ) → upto < 2 ^ 64 → is_strict_item most_containers (upto_item upto) ≡ true
  upto_fits upto fits =
      array 15 _ ∙ and_from _ _ refl (and_from _ _ (number 15 1 (omega arith)) (and_from _ _ (number 15 upto fits) refl))

module _ (uint : UintLength) (bytes : BytesLength) (array : ArrayLength) where
  level_len : (level : Level) → strict_len 14 (level_item level) ≤ 27
  level_len level =
      omega (arith, array 13 (uint_item (lms_parameters level.lms).code ∷ uint_item (parameters level.ots).code ∷ []), uint 13 (lms_parameters level.lms).code, uint 13 (parameters level.ots).code, size_small (size_of 2), size_small (size_of (lms_parameters level.lms).code), size_small (size_of (parameters level.ots).code))

  levels_len : (levels : List Level) → len_sum (strict_len 14) (map level_item levels) ≤ 27 * length levels
  levels_len [] = omega arith
  levels_len (level ∷ levels) = omega (arith, level_len level, levels_len levels)

  pub head_short : (head : KeyHead) → IsHead head → strict_len most_containers (head_item head) ≤ 300
  head_short head is =
      let parts : List Item = map level_item head.levels in
      let levels : strict_len 15 (array_item parts) ≤ 90 = omega (arith, array 14 parts, size_small (size_of (length parts)), levels_len head.levels, is.levels.most) in
      omega (arith, array 15 (uint_item 0 ∷ uint_item 1 ∷ bytes_item head.seed ∷ bytes_item head.id ∷ array_item parts ∷ uint_item head.block ∷ []), size_small (size_of 6), uint 15 0, size_small (size_of 0), uint 15 1, size_small (size_of 1), bytes 15 head.seed, size_small (size_of (length head.seed)), bytes 15 head.id, size_small (size_of (length head.id)), uint 15 head.block, size_small (size_of head.block), is.seed, is.id)

  pub head_some : (head : KeyHead) → 0 < strict_len most_containers (head_item head)
  head_some head =
      omega (arith, array 15 (uint_item 0 ∷ uint_item 1 ∷ bytes_item head.seed ∷ bytes_item head.id ∷ array_item (map level_item head.levels) ∷ uint_item head.block ∷ []), size_some (size_of 6))

  pub upto_short : (upto : ℕ) → strict_len most_containers (upto_item upto) ≤ 300
  upto_short upto =
      omega (arith, array 15 (uint_item 1 ∷ uint_item upto ∷ []), size_small (size_of 2), uint 15 1, size_small (size_of 1), uint 15 upto, size_small (size_of upto))

  pub upto_some : (upto : ℕ) → 0 < strict_len most_containers (upto_item upto)
  upto_some upto = omega (arith, array 15 (uint_item 1 ∷ uint_item upto ∷ []), size_some (size_of 2))
