-- What is spelled as a record of a key file reads as that record.
use Rattle.std.proofs.Common.{◌≡◌, ℕ, ◌≤◌, true, ◌&&◌, List, [], ◌∷◌, length, Option, None, Some, Result, Ok, Err, refl, ap, ◌∙◌}
use Rattle.std.specs.Prelude.{map, option_and_then, option_map, nat_le, IfOk, ◌==◌}
use Rattle.std.proofs.lemmas.Bool.{and_from, le-leb, eq-eqb}
use Rattle.cbor_core.specs.declared.tree.Item.{Item}
use Rattle.cbor_core.specs.declared.tree.Node.TheVariants.{outs-Uint, outs-Bytes, outs-Array}
use Rattle.cbor_core.specs.Items.{uint_at, bytes_at, array_at, uint_in, bytes_in, array_in, is_uint, is_number, uint_item, bytes_item, array_item}
use Rattle.cbor_core.specs.Decoding.{strict_item}
use Rattle.lms_ots.specs.Parameters.{parameters, type_of_code}
use Rattle.lms_ots.specs.declared.parameters.OtsType.{OtsType}
use Rattle.lms_ots.specs.declared.parameters.OtsType.TheVariants.{W1, W2, W4, W8}
use Rattle.lms_tree.specs.Types.{lms_parameters, lms_type_of_code}
use Rattle.lms_tree.specs.declared.types.LmsType.{LmsType}
use Rattle.lms_tree.specs.declared.types.LmsType.TheVariants.{H5, H10, H15, H20, H25}
use Rattle.lms_tree.specs.declared.types.Level.{Level}
use Rattle.key_store.specs.declared.records.KeyHead.{KeyHead}
use Rattle.key_store.specs.Records.{level_by, level_of_parts, level_in, level_item, levels_of, are_levels, kept_levels, levels_in, sized, sized_in, kept_block, block_in, head_of_parts, head_in, head_item, upto_of_parts, upto_in, upto_item, head_of, upto_of, IsHead}
use Rattle.key_store.proofs.LevelLemmas.{levels_from}

uint_back : (n : ℕ) → uint_in (uint_item n) ≡ Some n
uint_back n = ap uint_at (outs-Uint n)

bytes_back : (bytes : List ℕ) → bytes_in (bytes_item bytes) ≡ Some bytes
bytes_back bytes = ap bytes_at (outs-Bytes bytes)

array_back : (items : List Item) → array_in (array_item items) ≡ Some items
array_back items = ap array_at (outs-Array items)

lms_back : (kind : LmsType) → lms_type_of_code (lms_parameters kind).code ≡ Some kind
lms_back H5 = refl
lms_back H10 = refl
lms_back H15 = refl
lms_back H20 = refl
lms_back H25 = refl

ots_back : (kind : OtsType) → type_of_code (parameters kind).code ≡ Some kind
ots_back W1 = refl
ots_back W2 = refl
ots_back W4 = refl
ots_back W8 = refl

-- two numbers that are there
level_from : (o p : Option ℕ) (lms ots : ℕ) → o ≡ Some lms → p ≡ Some ots → option_and_then (λ l. option_and_then (λ k. level_by l k) p) o ≡ level_by lms ots
level_from o p lms ots e f = rw (e, f) refl

level_back : (level : Level) → level_in (level_item level) ≡ Some level
level_back level =
    let lms : ℕ = (lms_parameters level.lms).code in
    let ots : ℕ = (parameters level.ots).code in
    ap (option_and_then level_of_parts) (array_back (uint_item lms ∷ uint_item ots ∷ [])) ∙ level_from (uint_in (uint_item lms)) (uint_in (uint_item ots)) lms ots (uint_back lms) (uint_back ots) ∙ ap (λ o. option_and_then (λ l. option_map (λ (k : OtsType). record { lms = l; ots = k }) (type_of_code ots)) o) (lms_back level.lms) ∙ ap (option_map (λ (k : OtsType). record { lms = level.lms; ots = k })) (ots_back level.ots)

both_back : (o : Option Level) (p : Option (List Level)) (level : Level) (levels : List Level) → o ≡ Some level → p ≡ Some levels → option_and_then (λ l. option_map (λ rest. l ∷ rest) p) o ≡ Some (level ∷ levels)
both_back o p level levels e f = rw (e, f) refl

levels_back : (levels : List Level) → levels_of (map level_item levels) ≡ Some levels
levels_back [] = refl
levels_back (level ∷ levels) =
    both_back (level_in (level_item level)) (levels_of (map level_item levels)) level levels (level_back level) (levels_back levels)

kept_back : (levels : List Level) → are_levels levels ≡ true → kept_levels levels ≡ Some levels
kept_back levels are = rw are refl

levels_in_back : (head : KeyHead) → IsHead head → levels_in (array_item (map level_item head.levels)) ≡ Some head.levels
levels_in_back head is =
    ap (λ o. option_and_then kept_levels (option_and_then levels_of o)) (array_back (map level_item head.levels)) ∙ ap (option_and_then kept_levels) (levels_back head.levels) ∙ kept_back head.levels (levels_from head.levels is.levels)

sized_is : (n : ℕ) (bytes : List ℕ) → (length bytes == n) ≡ true → sized n bytes ≡ Some bytes
sized_is n bytes e = rw e refl

sized_back : (n : ℕ) (bytes : List ℕ) → length bytes ≡ n → sized_in n (bytes_item bytes) ≡ Some bytes
sized_back n bytes e =
    ap (option_and_then (sized n)) (bytes_back bytes) ∙ sized_is n bytes (eq-eqb (length bytes) n e)

block_is : (block : ℕ) → (nat_le 1 block && nat_le block 64) ≡ true → kept_block block ≡ Some block
block_is block e = rw e refl

block_back : (block : ℕ) → 1 ≤ block → block ≤ 64 → block_in (uint_item block) ≡ Some block
block_back block some most =
    ap (option_and_then kept_block) (uint_back block) ∙ block_is block (and_from _ _ (le-leb 1 block some) (le-leb block 64 most))

parts_back : (kind version seed id levels block : Item) (head : KeyHead) → is_uint 0 kind ≡ true → is_uint 1 version ≡ true → sized_in 32 seed ≡ Some head.seed → sized_in 16 id ≡ Some head.id → levels_in levels ≡ Some head.levels → block_in block ≡ Some head.block → head_of_parts (kind ∷ version ∷ seed ∷ id ∷ levels ∷ block ∷ []) ≡ Some head
parts_back kind version seed id levels block head k v s i l b = rw (k, v, s, i, l, b) refl

number_is : (n : ℕ) → is_uint n (uint_item n) ≡ true
number_is n = ap (is_number n) (uint_back n) ∙ eq-eqb n n refl

head_back : (head : KeyHead) → IsHead head → head_in (head_item head) ≡ Some head
head_back head is =
    ap (option_and_then head_of_parts) (array_back (uint_item 0 ∷ uint_item 1 ∷ bytes_item head.seed ∷ bytes_item head.id ∷ array_item (map level_item head.levels) ∷ uint_item head.block ∷ [])) ∙ parts_back (uint_item 0) (uint_item 1) (bytes_item head.seed) (bytes_item head.id) (array_item (map level_item head.levels)) (uint_item head.block) head (number_is 0) (number_is 1) (sized_back 32 head.seed is.seed) (sized_back 16 head.id is.id) (levels_in_back head is) (block_back head.block is.some is.most)

upto_parts_back : (kind upto : Item) (n : ℕ) → is_uint 1 kind ≡ true → uint_in upto ≡ Some n → upto_of_parts (kind ∷ upto ∷ []) ≡ Some n
upto_parts_back kind upto n k u = rw (k, u) refl

upto_back : (upto : ℕ) → upto_in (upto_item upto) ≡ Some upto
upto_back upto =
    ap (option_and_then upto_of_parts) (array_back (uint_item 1 ∷ uint_item upto ∷ [])) ∙ upto_parts_back (uint_item 1) (uint_item upto) upto (number_is 1) (uint_back upto)

no_upto : (head : KeyHead) → upto_in (head_item head) ≡ None
no_upto head =
    ap (option_and_then upto_of_parts) (array_back (uint_item 0 ∷ uint_item 1 ∷ bytes_item head.seed ∷ bytes_item head.id ∷ array_item (map level_item head.levels) ∷ uint_item head.block ∷ []))

-- the same of bytes that spell the item
pub reads_head : (head : KeyHead) (item : Item) (body : List ℕ) → IsHead head → item ≡ head_item head → strict_item body ≡ Some item → head_of body ≡ Some head
unfolding head_of
reads_head head item body is e spelled =
    ap (option_and_then head_in) spelled ∙ ap head_in e ∙ head_back head is

pub reads_no_upto : (head : KeyHead) (item : Item) (body : List ℕ) → item ≡ head_item head → strict_item body ≡ Some item → upto_of body ≡ None
unfolding upto_of
reads_no_upto head item body e spelled = ap (option_and_then upto_in) spelled ∙ ap upto_in e ∙ no_upto head

pub reads_upto : (upto : ℕ) (item : Item) (body : List ℕ) → item ≡ upto_item upto → strict_item body ≡ Some item → upto_of body ≡ Some upto
unfolding upto_of
reads_upto upto item body e spelled = ap (option_and_then upto_in) spelled ∙ ap upto_in e ∙ upto_back upto

-- of what a call answers
pub if_ok : {T E : Type 0} (P Q : T → Type 0) (answer : Result T E) → ((v : T) → P v → Q v) → IfOk answer P → IfOk answer Q
if_ok P Q (Ok v) step was = step v was
if_ok P Q (Err x) step was = tt
