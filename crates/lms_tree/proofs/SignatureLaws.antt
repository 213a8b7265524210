-- A signature of the definition verifies under the public key of its seed.
use Rattle.std.proofs.Common.{◌≡◌, ℕ, ◌+◌, ◌-◌, ◌*◌, ◌/◌, ◌^◌, ◌<◌, List, [], ◌++◌, length, map, Some, refl, sym, ◌∙◌, arith}
use Rattle.std.proofs.Math.Nat.{div-one, div-eq_of_lt-le}
use Rattle.std.specs.List.{range_with_len}
use Rattle.std.proofs.lemmas.List.FromFn.{fill_by_all}
use Rattle.lms_ots.specs.declared.parameters.OtsType.{OtsType}
use Rattle.lms_ots.specs.declared.parameters.OtsType.TheVariants.{W1, W2, W4, W8}
use Rattle.lms_ots.specs.declared.chains.OtsAt.{OtsAt}
use Rattle.lms_ots.specs.Words.{u32str, u32_at, part, joined}
use Rattle.lms_ots.specs.Parameters.{parameters}
use Rattle.lms_ots.specs.OneTime.{ots_key, ots_sig, ots_candidate}
use Rattle.lms_ots.specs.Chains.{secret}
use Rattle.lms_ots.specs.Laws.{OtsLaws, WordLaws}
use Rattle.lms_tree.specs.declared.types.LmsType.{LmsType}
use Rattle.lms_tree.specs.declared.types.LmsType.TheVariants.{H5, H10, H15, H20, H25}
use Rattle.lms_tree.specs.declared.types.Level.{Level}
use Rattle.lms_tree.specs.Types.{lms_parameters, lms_type_of_code, height, leaf_count, sig_len, level_at}
use Rattle.lms_tree.specs.Nodes.{key_name, child_id, leaf, node, root, path_node, lms_public, lms_sig}
use Rattle.lms_tree.specs.Verifies.{HasTypes, hashes, root_from, root_of_sig, LmsVerifies}
use Rattle.lms_tree.proofs.FourParts.{length-four, second, third, fourth, word_first, word_second, word_third}
use Rattle.lms_tree.proofs.PathLaws.{length-hashes, hash_read}
use Rattle.lms_tree.proofs.NodeLaws.{node_at_leaf, length-node, root_from-path}

lms_type_of_code-lms_parameters : (kind : LmsType) → lms_type_of_code (lms_parameters kind).code ≡ Some kind
lms_type_of_code-lms_parameters H5 = refl
lms_type_of_code-lms_parameters H10 = refl
lms_type_of_code-lms_parameters H15 = refl
lms_type_of_code-lms_parameters H20 = refl
lms_type_of_code-lms_parameters H25 = refl

lms_code_fits : (kind : LmsType) → (lms_parameters kind).code < 2 ^ 32
lms_code_fits H5 = omega arith
lms_code_fits H10 = omega arith
lms_code_fits H15 = omega arith
lms_code_fits H20 = omega arith
lms_code_fits H25 = omega arith

-- a leaf's number fits 32 bits
leaf_fits : (kind : LmsType) (q : ℕ) → q < 2 ^ (lms_parameters kind).height → q < 2 ^ 32
leaf_fits H5 q h = omega arith
leaf_fits H10 q h = omega arith
leaf_fits H15 q h = omega arith
leaf_fits H20 q h = omega arith
leaf_fits H25 q h = omega arith

ots_code_fits : (kind : OtsType) → (parameters kind).code < 2 ^ 32
ots_code_fits W1 = omega arith
ots_code_fits W2 = omega arith
ots_code_fits W4 = omega arith
ots_code_fits W8 = omega arith

pub length-child_id : WordLaws → OtsLaws → (id seed : List ℕ) (q : ℕ) → length (child_id id seed q) ≡ 16
unfolding child_id
length-child_id words one_time id seed q =
    let long = one_time.secret_len (key_name id q) 0xffff seed in
    words.part_len (secret (key_name id q) 0xffff seed) 0 16 (omega arith)

-- a one-time signature begins with its code
ots_sig_word : WordLaws → (kind : OtsType) (place : OtsAt) (seed msg rest : List ℕ) → u32_at (ots_sig kind place seed msg ++ rest) 0 ≡ (parameters kind).code
unfolding ots_sig
ots_sig_word words kind place seed msg rest = word_first words (parameters kind).code _ _ rest (ots_code_fits kind)

module _ (words : WordLaws) (one_time : OtsLaws) where
  module _ (level : Level) (id seed : List ℕ) (named : length id ≡ 16) where
    lms : List ℕ
    lms = u32str (lms_parameters level.lms).code

    ots_type : List ℕ
    ots_type = u32str (parameters level.ots).code

    top : List ℕ
    top = root level id seed

    public_is : lms_public level id seed ≡ lms ++ ots_type ++ id ++ top
    unfolding lms_public lms ots_type top
    public_is = refl

    length-lms : length lms ≡ 4
    unfolding lms
    length-lms = words.word_len _

    length-ots_type : length ots_type ≡ 4
    unfolding ots_type
    length-ots_type = words.word_len _

    length-top : length top ≡ 32
    unfolding top
    length-top = length-node level id seed (height level) 1

    pub length-lms_public : length (lms_public level id seed) ≡ 56
    length-lms_public =
        rw public_is (omega (arith, length-four lms ots_type id top, length-lms, length-ots_type, length-top, named))

    lms_word : u32_at (lms_public level id seed) 0 ≡ (lms_parameters level.lms).code
    unfolding lms
    lms_word = rw public_is (word_first words (lms_parameters level.lms).code ots_type id top (lms_code_fits level.lms))

    ots_word : u32_at (lms_public level id seed) 4 ≡ (parameters level.ots).code
    unfolding ots_type
    ots_word =
        rw public_is (word_second lms ots_type id top words 4 length-lms ∙ words.word_first (parameters level.ots).code (id ++ top) (ots_code_fits level.ots))

    pub level_at-lms_public : level_at (lms_public level id seed) 0 ≡ Some level
    level_at-lms_public =
        rw (lms_word, ots_word, lms_type_of_code-lms_parameters level.lms, one_time.known level.ots) refl

    pub id_read : part (lms_public level id seed) 8 16 ≡ id
    id_read = rw public_is (third lms ots_type id top words 8 16 (omega (arith, length-lms, length-ots_type)) named)

    pub root_read : part (lms_public level id seed) 24 32 ≡ root level id seed
    unfolding top
    root_read =
        rw public_is (fourth lms ots_type id top words 24 0 32 (omega (arith, length-lms, length-ots_type, named)) ∙ words.part_whole top 32 length-top)

    module _ (q : ℕ) (below : q < leaf_count level) (msg : List ℕ) where
      ots : List ℕ
      ots = ots_sig level.ots (key_name id q) seed msg

      path : List ℕ
      path = joined (path_node level id seed q) (height level)

      sig : List ℕ
      sig = lms_sig level id seed q msg

      sig_is : sig ≡ u32str q ++ ots ++ lms ++ path
      unfolding sig lms_sig ots lms path
      sig_is = refl

      length-ots : length ots ≡ (parameters level.ots).sig_len
      unfolding ots
      length-ots = one_time.len level.ots (key_name id q) seed msg

      length-path : length path ≡ 32 * height level
      unfolding path
      length-path = words.joined_len (path_node level id seed q) 32 (height level) (λ i h. length-node level id seed i _)

      q_read : u32_at sig 0 ≡ q
      q_read = rw sig_is (word_first words q ots lms path (leaf_fits level.lms q below))

      ots_code_read : u32_at sig 4 ≡ (parameters level.ots).code
      unfolding ots
      ots_code_read =
          rw sig_is (word_second (u32str q) ots lms path words 4 (words.word_len q) ∙ ots_sig_word words level.ots (key_name id q) seed msg (lms ++ path))

      lms_code_read : u32_at sig (4 + (parameters level.ots).sig_len) ≡ (lms_parameters level.lms).code
      unfolding lms
      lms_code_read =
          rw sig_is (word_third (u32str q) ots lms path words (4 + (parameters level.ots).sig_len) (omega (arith, words.word_len q, length-ots)) ∙ words.word_first (lms_parameters level.lms).code path (lms_code_fits level.lms))

      ots_read : part sig 4 (parameters level.ots).sig_len ≡ ots
      ots_read = rw sig_is (second (u32str q) ots lms path words 4 (parameters level.ots).sig_len (words.word_len q) length-ots)

      path_read : (i : ℕ) → i < height level → part sig ((8 + (parameters level.ots).sig_len) + 32 * i) 32 ≡ path_node level id seed q i
      unfolding path
      path_read i h =
          rw sig_is (fourth (u32str q) ots lms path words (8 + (parameters level.ots).sig_len) (32 * i) 32 (omega (arith, words.word_len q, length-ots, length-lms)) ∙ words.joined_part (path_node level id seed q) 32 (height level) i (λ j k. length-node level id seed j _) h)

      length-sig : length sig ≡ sig_len level
      length-sig =
          rw sig_is (omega (arith, length-four (u32str q) ots lms path, words.word_len q, length-ots, length-lms, length-path))

      -- the hashes read from the signature are the path
      hashes_are : hashes sig (8 + (parameters level.ots).sig_len) (height level) ≡ map (path_node level id seed q) (range_with_len 0 (height level))
      hashes_are =
          let start = 8 + (parameters level.ots).sig_len in
          let n = height level in
          fill_by_all (path_node level id seed q) (hashes sig start n) n [] (length-hashes sig start n) (λ i h. hash_read sig start n i h ∙ path_read i h)

      key_is : ots_candidate level.ots (key_name id q) ots msg ≡ ots_key level.ots (key_name id q) seed
      unfolding ots
      key_is = one_time.key level.ots (key_name id q) seed msg

      leaf_is : leaf id (leaf_count level + q) (ots_key level.ots (key_name id q) seed) ≡ node level id seed 0 (leaf_count level + q)
      leaf_is =
          let back : leaf_count level + q - leaf_count level ≡ q = omega arith in
          sym (rw back at (node_at_leaf level id seed (leaf_count level + q)))

      -- the path of leaf q leads to the root
      path_leads : root_from id (leaf_count level + q) (node level id seed 0 (leaf_count level + q)) (map (path_node level id seed q) (range_with_len 0 (height level))) ≡ root level id seed
      path_leads =
          let x = leaf_count level + q in
          let whole = div-one x in
          let none : 0 + height level ≡ height level = omega arith in
          let one : x / 2 ^ height level ≡ 1 = div-eq_of_lt-le (2 ^ height level) (omega arith) (omega arith) in
          rw (none, one, whole) at (root_from-path level id seed q (height level) 0)

      root_is : root_of_sig level id sig msg ≡ root level id seed
      unfolding root_of_sig
      root_is = rw (q_read, ots_read, key_is, hashes_are, leaf_is) path_leads

      pub has_types-lms_sig : HasTypes level (lms_sig level id seed q msg)
      unfolding sig
      has_types-lms_sig = record { whole = length-sig; ots_code = ots_code_read; lms_code = lms_code_read; leaf = rw q_read below }

      pub leaf-lms_sig : u32_at (lms_sig level id seed q msg) 0 ≡ q
      unfolding sig
      leaf-lms_sig = q_read

      pub length-lms_sig : length (lms_sig level id seed q msg) ≡ sig_len level
      unfolding sig
      length-lms_sig = length-sig

      pub verifies : LmsVerifies (lms_public level id seed) (lms_sig level id seed q msg) msg
      unfolding sig
      verifies = record {
        whole = length-lms_public;
        level = level;
        known = level_at-lms_public;
        types = record { whole = length-sig; ots_code = ots_code_read; lms_code = lms_code_read; leaf = rw q_read below };
        root = rw (id_read, root_read) root_is;
      }
