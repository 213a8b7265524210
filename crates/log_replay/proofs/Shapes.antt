-- Records and entries within their limits have strict bytes, and few enough.
use Rattle.std.proofs.Common.{◌≡◌, ℕ, suc, ◌+◌, ◌*◌, ◌<◌, ◌≤◌, ◌^◌, true, List, [], ◌∷◌, length, map, refl, ap, ◌∙◌, lt-ltb, le-leb, arith}
use Rattle.std.specs.Str.{is_utf8}
use Rattle.std.proofs.lemmas.Bool.{and_from}
use Rattle.std.proofs.lemmas.List.{length-map}
use Rattle.cbor_core.specs.declared.heads.Size.{Size}
use Rattle.cbor_core.specs.declared.heads.Size.TheVariants.{Within, One, Two, Four, Eight}
use Rattle.cbor_core.specs.declared.tree.Item.{Item}
use Rattle.cbor_core.specs.Items.{uint_item, bytes_item, text_item, array_item}
use Rattle.cbor_core.specs.Limits.{longest_string, most_parts}
use Rattle.cbor_core.specs.Encoding.{size_of, head_size}
use Rattle.cbor_core.specs.Fitting.{all_items, is_strict_item, len_sum, strict_len, UintFits, BytesFit, TextFits, ArrayFits, UintLength, BytesLength, TextLength, ArrayLength}
use Rattle.lms_ots.specs.declared.parameters.OtsType.{OtsType}
use Rattle.lms_ots.specs.declared.parameters.OtsType.TheVariants.{W1, W2, W4, W8}
use Rattle.lms_ots.specs.Parameters.{parameters}
use Rattle.lms_tree.specs.declared.types.LmsType.{LmsType}
use Rattle.lms_tree.specs.declared.types.LmsType.TheVariants.{H5, H10, H15, H20, H25}
use Rattle.lms_tree.specs.declared.types.Level.{Level}
use Rattle.lms_tree.specs.Types.{lms_parameters}
use Rattle.policy_rules.specs.declared.documents.Holder.{Holder}
use Rattle.policy_rules.specs.Documents.{bootstrap_of}
use Rattle.policy_rules.specs.Spelling.{holder_item, policy_item}
use Rattle.log_replay.specs.declared.parts.Header.{Header}
use Rattle.log_replay.specs.Records.{header_record, reserve_record, batch_record, level_item, record_item, entry_item}
use Rattle.log_replay.specs.Spelling.{FitsIn}

small_ots : (o : OtsType) → (parameters o).code ≤ 4
small_ots W1 = omega arith
small_ots W2 = omega arith
small_ots W4 = omega arith
small_ots W8 = omega arith

small_lms : (l : LmsType) → (lms_parameters l).code ≤ 9
small_lms H5 = omega arith
small_lms H10 = omega arith
small_lms H15 = omega arith
small_lms H20 = omega arith
small_lms H25 = omega arith

size_small : (s : Size) → head_size s ≤ 9
size_small Within = omega arith
size_small One = omega arith
size_small Two = omega arith
size_small Four = omega arith
size_small Eight = omega arith

size_some : (s : Size) → 1 ≤ head_size s
size_some Within = omega arith
size_some One = omega arith
size_some Two = omega arith
size_some Four = omega arith
size_some Eight = omega arith

module _ (uint : UintFits) (bytes : BytesFit) (text : TextFits) (array : ArrayFits) where
  number : (room n : ℕ) → n < 2 ^ 64 → is_strict_item room (uint_item n) ≡ true
  number room n few = uint room n ∙ lt-ltb n (2 ^ 64) few

  string : (room : ℕ) (s : List ℕ) → length s ≤ 4198400 → is_strict_item room (bytes_item s) ≡ true
  string room s short = bytes room s ∙ le-leb (length s) longest_string short

  words : (room : ℕ) (s : List ℕ) → length s ≤ 4198400 → is_utf8 s ≡ true → is_strict_item room (text_item s) ≡ true
  words room s short utf8 = text room s ∙ and_from _ _ (le-leb (length s) longest_string short) utf8

  reserve_strict : (upto : ℕ) → upto < 2 ^ 64 → is_strict_item 16 (record_item (reserve_record upto)) ≡ true
  reserve_strict upto few =
      array 15 (uint_item 1 ∷ uint_item upto ∷ []) ∙ and_from _ _ refl (and_from _ _ (number 15 1 (omega arith)) (and_from _ _ (number 15 upto few) refl))

  entry_strict : (at rule : ℕ) (logged : List ℕ) → at < 2 ^ 64 → rule ≤ 65535 → length logged ≤ 4194304 → is_strict_item 16 (entry_item at rule logged) ≡ true
  entry_strict at rule logged few small short =
      array 15 (uint_item 1 ∷ uint_item at ∷ uint_item rule ∷ bytes_item logged ∷ [])
      ∙ and_from _ _ refl (and_from _ _ (number 15 1 (omega arith)) (and_from _ _ (number 15 at few) (and_from _ _ (number 15 rule (omega arith)) (and_from _ _ (string 15 logged (omega arith)) refl))))

  batch_strict : (entry signature : List ℕ) (index : ℕ) → length entry ≤ 4198400 → length signature ≤ 4194304 → index < 2 ^ 64 →
      is_strict_item 16 (record_item (batch_record (record { entries = entry ∷ []; index = index; signature = signature }))) ≡ true
  batch_strict entry signature index short small few =
      let inner : is_strict_item 15 (array_item (bytes_item entry ∷ [])) ≡ true =
      array 14 (bytes_item entry ∷ []) ∙ and_from _ _ refl (and_from _ _ (string 14 entry short) refl) in
      array 15 (uint_item 2 ∷ array_item (bytes_item entry ∷ []) ∷ uint_item index ∷ bytes_item signature ∷ [])
      ∙ and_from _ _ refl (and_from _ _ (number 15 2 (omega arith)) (and_from _ _ inner (and_from _ _ (number 15 index few) (and_from _ _ (string 15 signature (omega arith)) refl))))

  level_strict : (room : ℕ) (l : Level) → room ≡ 14 → is_strict_item room (level_item l) ≡ true
  level_strict room l e =
      ap (λ n. is_strict_item n (level_item l)) e
      ∙ array 13 (uint_item (lms_parameters l.lms).code ∷ uint_item (parameters l.ots).code ∷ [])
      ∙ and_from _ _ refl (and_from _ _ (number 13 _ (omega (arith, small_lms l.lms))) (and_from _ _ (number 13 _ (omega (arith, small_ots l.ots))) refl))

  levels_strict : (ls : List Level) → all_items (is_strict_item 14) (map level_item ls) ≡ true
  levels_strict [] = refl
  levels_strict (l ∷ ls) = and_from _ _ (level_strict 14 l refl) (levels_strict ls)

  holder_strict : (room : ℕ) (h : Holder) → length h.iss ≤ 1024 → is_utf8 h.iss ≡ true → length h.kid ≤ 64 → length h.key ≡ 60 → is_strict_item (suc room) (holder_item h) ≡ true
  holder_strict room h iss utf8 kid key =
      array room (text_item h.iss ∷ bytes_item h.kid ∷ bytes_item h.key ∷ [])
      ∙ and_from _ _ refl (and_from _ _ (words room h.iss (omega arith) utf8) (and_from _ _ (string room h.kid (omega arith)) (and_from _ _ (string room h.key (omega arith)) refl)))

  pub bootstrap_strict : (g : Holder) → length g.iss ≤ 1024 → is_utf8 g.iss ≡ true → length g.kid ≤ 64 → length g.key ≡ 60 → is_strict_item 16 (policy_item (bootstrap_of g)) ≡ true
  bootstrap_strict g iss utf8 kid key =
      let governors : is_strict_item 15 (array_item (holder_item g ∷ [])) ≡ true = array 14 (holder_item g ∷ []) ∙ and_from _ _ refl (and_from _ _ (holder_strict 13 g iss utf8 kid key) refl) in
      let none : is_strict_item 15 (array_item []) ≡ true = array 14 [] in
      array 15 (uint_item 1 ∷ uint_item 0 ∷ array_item (holder_item g ∷ []) ∷ array_item [] ∷ array_item [] ∷ [])
      ∙ and_from _ _ refl (and_from _ _ (number 15 1 (omega arith)) (and_from _ _ (number 15 0 (omega arith)) (and_from _ _ governors (and_from _ _ none (and_from _ _ none refl)))))

  pub header_strict : (h : Header) → length h.name ≤ 128 → is_utf8 h.name ≡ true → length h.governor.iss ≤ 1024 → is_utf8 h.governor.iss ≡ true → length h.governor.kid ≤ 64 → length h.governor.key ≡ 60
      → length h.key ≡ 60 → length h.levels ≤ 3 → h.max_entries < 2 ^ 64 → h.block < 2 ^ 64 → is_strict_item 16 (record_item (header_record h)) ≡ true
  header_strict h name utf8 iss iss_utf8 kid governor key levels entries block =
      let inner : is_strict_item 15 (array_item (map level_item h.levels)) ≡ true =
      array 14 (map level_item h.levels) ∙ and_from _ _ (le-leb (length (map level_item h.levels)) most_parts (omega (arith, length-map h.levels level_item))) (levels_strict h.levels) in
      array 15 (uint_item 0 ∷ uint_item 1 ∷ text_item h.name ∷ holder_item h.governor ∷ bytes_item h.key ∷ array_item (map level_item h.levels) ∷ uint_item h.max_entries ∷ uint_item h.block ∷ [])
      ∙ and_from _ _ refl (and_from _ _ (number 15 0 (omega arith)) (and_from _ _ (number 15 1 (omega arith)) (and_from _ _ (words 15 h.name (omega arith) utf8)
      (and_from _ _ (holder_strict 14 h.governor iss iss_utf8 kid governor) (and_from _ _ (string 15 h.key (omega arith)) (and_from _ _ inner (and_from _ _ (number 15 h.max_entries entries) (and_from _ _ (number 15 h.block block) refl))))))))

module _ (uint : UintLength) (bytes : BytesLength) (text : TextLength) (array : ArrayLength) where
  array_some : (items : List Item) → 0 < strict_len 16 (array_item items)
  array_some items = omega (arith, array 15 items, size_some (size_of (length items)))

  reserve_short : (upto : ℕ) → strict_len 16 (record_item (reserve_record upto)) ≤ 27
  reserve_short upto =
      omega (arith, array 15 (uint_item 1 ∷ uint_item upto ∷ []), uint 15 1, uint 15 upto, size_small (size_of upto))

  entry_short : (at rule : ℕ) (logged : List ℕ) → strict_len 16 (entry_item at rule logged) ≤ 45 + length logged
  entry_short at rule logged =
      omega (
        arith,
        array 15 (uint_item 1 ∷ uint_item at ∷ uint_item rule ∷ bytes_item logged ∷ []),
        uint 15 1,
        uint 15 at,
        uint 15 rule,
        bytes 15 logged,
        size_small (size_of at),
        size_small (size_of rule),
        size_small (size_of (length logged)),
      )

  batch_short : (entry signature : List ℕ) (index : ℕ) → strict_len 16 (record_item (batch_record (record { entries = entry ∷ []; index = index; signature = signature }))) ≤ 54 + (length entry + length signature)
  batch_short entry signature index =
      omega (
        arith,
        array 15 (uint_item 2 ∷ array_item (bytes_item entry ∷ []) ∷ uint_item index ∷ bytes_item signature ∷ []),
        array 14 (bytes_item entry ∷ []),
        uint 15 2,
        uint 15 index,
        bytes 15 signature,
        bytes 14 entry,
        size_small (size_of index),
        size_small (size_of (length entry)),
        size_small (size_of (length signature)),
      )

  level_short : (l : Level) → strict_len 14 (level_item l) ≤ 27
  level_short l =
      omega (
        arith,
        array 13 (uint_item (lms_parameters l.lms).code ∷ uint_item (parameters l.ots).code ∷ []),
        uint 13 (lms_parameters l.lms).code,
        uint 13 (parameters l.ots).code,
        size_small (size_of (lms_parameters l.lms).code),
        size_small (size_of (parameters l.ots).code),
      )

  levels_short : (ls : List Level) → len_sum (strict_len 14) (map level_item ls) ≤ 27 * length ls
  levels_short [] = omega arith
  levels_short (l ∷ ls) = omega (arith, level_short l, levels_short ls)

  header_short : (h : Header) → length h.name ≤ 128 → length h.governor.iss ≤ 1024 → length h.governor.kid ≤ 64 → length h.governor.key ≡ 60 → length h.key ≡ 60 → length h.levels ≤ 3
      → strict_len 16 (record_item (header_record h)) ≤ 2000
  header_short h name iss kid governor key levels =
      omega (
        arith,
        array 15 (uint_item 0 ∷ uint_item 1 ∷ text_item h.name ∷ holder_item h.governor ∷ bytes_item h.key ∷ array_item (map level_item h.levels) ∷ uint_item h.max_entries ∷ uint_item h.block ∷ []),
        array 14 (text_item h.governor.iss ∷ bytes_item h.governor.kid ∷ bytes_item h.governor.key ∷ []),
        array 14 (map level_item h.levels),
        levels_short h.levels,
        length-map h.levels level_item,
        uint 15 0,
        uint 15 1,
        uint 15 h.max_entries,
        uint 15 h.block,
        text 15 h.name,
        text 14 h.governor.iss,
        bytes 14 h.governor.kid,
        bytes 14 h.governor.key,
        bytes 15 h.key,
        size_small (size_of h.max_entries),
        size_small (size_of h.block),
        size_small (size_of (length h.name)),
        size_small (size_of (length h.governor.iss)),
        size_small (size_of (length h.governor.kid)),
        size_small (size_of (length h.governor.key)),
        size_small (size_of (length h.key)),
        size_small (size_of (length (map level_item h.levels))),
      )

  bootstrap_short : (g : Holder) → length g.iss ≤ 1024 → length g.kid ≤ 64 → length g.key ≡ 60 → strict_len 16 (policy_item (bootstrap_of g)) ≤ 1300
  bootstrap_short g iss kid key =
      omega (
        arith,
        array 15 (uint_item 1 ∷ uint_item 0 ∷ array_item (holder_item g ∷ []) ∷ array_item [] ∷ array_item [] ∷ []),
        array 14 (holder_item g ∷ []),
        array 13 (text_item g.iss ∷ bytes_item g.kid ∷ bytes_item g.key ∷ []),
        array 14 [],
        uint 15 1,
        uint 15 0,
        text 13 g.iss,
        bytes 13 g.kid,
        bytes 13 g.key,
        size_small (size_of (length g.iss)),
        size_small (size_of (length g.kid)),
        size_small (size_of (length g.key)),
      )

module _ (uint : UintFits) (bytes : BytesFit) (text : TextFits) (array : ArrayFits) (uint_len : UintLength) (bytes_len : BytesLength) (text_len : TextLength) (array_len : ArrayLength) where
  pub reserve_fits : (upto : ℕ) → upto < 2 ^ 64 → FitsIn 27 (record_item (reserve_record upto))
  reserve_fits upto few = record { strict = reserve_strict uint bytes text array upto few; short = reserve_short uint_len bytes_len text_len array_len upto; some = array_some uint_len bytes_len text_len array_len _ }

  pub entry_fits : (at rule : ℕ) (logged : List ℕ) → at < 2 ^ 64 → rule ≤ 65535 → length logged ≤ 4194304 → FitsIn (45 + length logged) (entry_item at rule logged)
  entry_fits at rule logged few small short =
      record { strict = entry_strict uint bytes text array at rule logged few small short; short = entry_short uint_len bytes_len text_len array_len at rule logged; some = array_some uint_len bytes_len text_len array_len _ }

  pub batch_fits : (entry signature : List ℕ) (index : ℕ) → length entry ≤ 4198400 → length signature ≤ 4194304 → index < 2 ^ 64
      → FitsIn 8392758 (record_item (batch_record (record { entries = entry ∷ []; index = index; signature = signature })))
  batch_fits entry signature index short small few =
      let len = batch_short uint_len bytes_len text_len array_len entry signature index in
      record { strict = batch_strict uint bytes text array entry signature index short small few; short = omega (arith, len); some = array_some uint_len bytes_len text_len array_len _ }

  pub header_fits : (h : Header) → length h.name ≤ 128 → is_utf8 h.name ≡ true → length h.governor.iss ≤ 1024 → is_utf8 h.governor.iss ≡ true → length h.governor.kid ≤ 64 → length h.governor.key ≡ 60
      → length h.key ≡ 60 → length h.levels ≤ 3 → h.max_entries < 2 ^ 64 → h.block < 2 ^ 64 → FitsIn 2000 (record_item (header_record h))
  header_fits h name utf8 iss iss_utf8 kid governor key levels entries block =
      record {
        strict = header_strict uint bytes text array h name utf8 iss iss_utf8 kid governor key levels entries block;
        short = header_short uint_len bytes_len text_len array_len h name iss kid governor key levels;
        some = array_some uint_len bytes_len text_len array_len _;
      }

  pub bootstrap_fits : (g : Holder) → length g.iss ≤ 1024 → is_utf8 g.iss ≡ true → length g.kid ≤ 64 → length g.key ≡ 60 → FitsIn 1300 (policy_item (bootstrap_of g))
  bootstrap_fits g iss utf8 kid key =
      record { strict = bootstrap_strict uint bytes text array g iss utf8 kid key; short = bootstrap_short uint_len bytes_len text_len array_len g iss kid key; some = array_some uint_len bytes_len text_len array_len _ }
