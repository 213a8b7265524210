-- The signatures of this project's signer verify, have their length, and their leaf numbers spell the
-- index; its keys name their levels.
use Rattle.std.proofs.Common.{◌≡◌, ℕ, ◌+◌, ◌*◌, ◌/◌, ◌%◌, ◌^◌, ◌<◌, ◌≤◌, List, [], ◌∷◌, ◌++◌, length, drop, Some, refl, ap, sym, subst, ◌∙◌, arith, append_assoc, length-append}
use Rattle.std.proofs.Math.Nat.{div-add-mod'}
use Rattle.std.proofs.lemmas.List.{drop_at}
use Rattle.lms_ots.specs.Words.{u32str, u32_at, part}
use Rattle.lms_ots.specs.Laws.{WordLaws}
use Rattle.lms_tree.specs.declared.types.Level.{Level}
use Rattle.lms_tree.specs.Types.{leaf_count, sig_len, level_at}
use Rattle.lms_tree.specs.Trees.{TreeKey}
use Rattle.lms_tree.specs.Verifies.{HasTypes, LmsVerifies}
use Rattle.lms_tree.specs.Laws.{LmsLaws}
use Rattle.hss_keys.specs.Levels.{IsLevels, below_len, capacity}
use Rattle.hss_keys.specs.Signing.{child_key, public_of, sig_of, signed_child, below_sig, top_key, hss_public, hss_sig}
use Rattle.hss_keys.specs.Signers.{hss_sig_len}
use Rattle.hss_keys.specs.Keys.{NamesLevels}
use Rattle.hss_keys.specs.Verifies.{VerifiesBelow, HssVerifies, IndexBelow, FlatIndex}
use Rattle.hss_keys.proofs.PartsRead.{level_at-within}
use Rattle.hss_keys.proofs.CapacityLaws.{capacity-nil, capacity-cons, capacity_pos, leaf_below}
use Rattle.hss_keys.proofs.BranchLaws.{child_level, child_named, length-signed_child, below_sig-nil}

pub below_sig-cons : (key : TreeKey) (next : Level) (below : List Level) (index : ℕ) (msg : List ℕ)
    → below_sig key (next ∷ below) index msg ≡ signed_child next key (index / capacity (next ∷ below))
    ++ below_sig (child_key next key (index / capacity (next ∷ below))) below (index % capacity (next ∷ below)) msg
unfolding below_sig
below_sig-cons key next below index msg = refl

module _ (words : WordLaws) (lms : LmsLaws) where
  -- a signature, the key that it signs, and what follows: each is read again
  module _ (sig public rest : List ℕ) (n : ℕ) (sig_len : length sig ≡ n) (public_len : length public ≡ 56) where
    pub first_read : part (sig ++ public ++ rest) 0 n ≡ sig
    first_read = rw append_assoc (words.part_middle [] sig (public ++ rest) 0 n refl sig_len)

    pub second_read : part (sig ++ public ++ rest) n 56 ≡ public
    second_read = words.part_middle sig public rest n 56 sig_len public_len

    pub rest_read : drop (n + 56) (sig ++ public ++ rest) ≡ rest
    rest_read = drop_at (sig ++ public) rest (n + 56) (omega (arith, length-append sig public))

    pub room : n + 56 ≤ length (sig ++ public ++ rest)
    room = omega (arith, length-append (sig ++ public) rest, length-append sig public)

  module _ (key : TreeKey) (named : length key.id ≡ 16) (q : ℕ) (below : q < leaf_count key.level) where
    pub sig_len_is : (msg : List ℕ) → length (sig_of key q msg) ≡ sig_len key.level
    sig_len_is msg = lms.len key.level key.id key.seed q msg named below

    pub sig_verifies : (msg : List ℕ) → LmsVerifies (public_of key) (sig_of key q msg) msg
    sig_verifies msg = lms.verifies key.level key.id key.seed q msg named below

  pub public_len_is : (key : TreeKey) → length key.id ≡ 16 → length (public_of key) ≡ 56
  public_len_is key named = lms.public_len key.level key.id key.seed named

  -- the leaf of the last tree
  last_leaf : (level : Level) (index : ℕ) → index < capacity (level ∷ []) → index < leaf_count level
  last_leaf level index h =
      let one : leaf_count level * 1 ≡ leaf_count level = omega arith in
      rw (capacity-cons, capacity-nil, one) at h

  rest_below : (key : TreeKey) (next : Level) (below : List Level) (index : ℕ) → index % capacity (next ∷ below) < capacity ((child_key next key (index / capacity (next ∷ below))).level ∷ below)
  rest_below key next below index =
      let some = capacity_pos (next ∷ below) in
      let h : index % capacity (next ∷ below) < capacity (next ∷ below) = omega arith in
      rw (child_level next key (index / capacity (next ∷ below))) h

  pub signed_verifies : (below : List Level) (key : TreeKey) (index : ℕ) (msg : List ℕ) → length key.id ≡ 16 → index < capacity (key.level ∷ below)
      → VerifiesBelow (length below) (public_of key) (below_sig key below index msg) msg
  signed_verifies [] key index msg named h =
      rw below_sig-nil (sig_verifies key named index (last_leaf key.level index h) msg)
  signed_verifies (next ∷ below) key index msg named h =
      let q = index / capacity (next ∷ below) in
      let child = child_key next key q in
      let leaf = leaf_below key.level (next ∷ below) index h in
      let public = public_of child in
      let sig = sig_of key q public in
      let rest = below_sig child below (index % capacity (next ∷ below)) msg in
      let n = sig_len key.level in
      let len = sig_len_is key named q leaf public in
      let public_len = public_len_is child (child_named lms next key q) in
      let ih = signed_verifies below child (index % capacity (next ∷ below)) msg (child_named lms next key q) (rest_below key next below index) in
      rw below_sig-cons (
        n,
        room sig public rest n len public_len,
        rw (first_read sig public rest n len public_len, second_read sig public rest n len public_len) (sig_verifies key named q leaf public),
        rw (second_read sig public rest n len public_len, rest_read sig public rest n len public_len) ih,
      )

  pub signed_index : (below : List Level) (key : TreeKey) (index : ℕ) (msg : List ℕ) → length key.id ≡ 16 → index < capacity (key.level ∷ below)
      → IndexBelow key.level below (below_sig key below index msg) index
  signed_index [] key index msg named h =
      let leaf = last_leaf key.level index h in
      rw below_sig-nil (lms.types key.level key.id key.seed index msg named leaf, lms.leaf key.level key.id key.seed index msg named leaf)
  signed_index (next ∷ below) key index msg named h =
      let c = capacity (next ∷ below) in
      let q = index / c in
      let child = child_key next key q in
      let leaf = leaf_below key.level (next ∷ below) index h in
      let public = public_of child in
      let sig = sig_of key q public in
      let rest = below_sig child below (index % c) msg in
      let n = sig_len key.level in
      let len = sig_len_is key named q leaf public in
      let public_len = public_len_is child (child_named lms next key q) in
      let ih = signed_index below child (index % c) msg (child_named lms next key q) (rest_below key next below index) in
      let whole = sig ++ public ++ rest in
      let first = first_read sig public rest n len public_len in
      let second = second_read sig public rest n len public_len in
      let level = child_level next key q in
      let named_level : level_at public 0 ≡ Some next = lms.known child.level child.id child.seed (child_named lms next key q) ∙ ap (λ (l : Level). Some l) level in
      let known : level_at whole n ≡ Some next = sym (level_at-within words whole n 56 (omega arith)) ∙ ap (λ (b : List ℕ). level_at b 0) second ∙ named_level in
      let types : HasTypes key.level (part whole 0 n) = rw first (lms.types key.level key.id key.seed q public named leaf) in
      let word : u32_at whole 0 ≡ q =
      sym (words.word_within whole 0 n 0 (omega arith)) ∙ ap (λ (b : List ℕ). u32_at b 0) first ∙ lms.leaf key.level key.id key.seed q public named leaf in
      let lower : IndexBelow next below (drop (n + 56) whole) (index % c) = rw (rest_read sig public rest n len public_len) (subst (λ (l : Level). IndexBelow l below rest (index % c)) level ih) in
      let sum : index ≡ u32_at whole 0 * c + index % c = rw word (sym (div-add-mod' index c)) in
      rw below_sig-cons (index % c, record { room = room sig public rest n len public_len; types = types; known = known }, lower, sum)

  pub signed_len : (below : List Level) (key : TreeKey) (index : ℕ) (msg : List ℕ) → length key.id ≡ 16 → index < capacity (key.level ∷ below)
      → length (below_sig key below index msg) ≡ below_len key.level below
  signed_len [] key index msg named h = rw below_sig-nil (sig_len_is key named index (last_leaf key.level index h) msg)
  signed_len (next ∷ below) key index msg named h =
      let c = capacity (next ∷ below) in
      let q = index / c in
      let child = child_key next key q in
      let leaf = leaf_below key.level (next ∷ below) index h in
      let rest = below_sig child below (index % c) msg in
      let front = length-signed_child lms next key q named leaf in
      let ih = signed_len below child (index % c) msg (child_named lms next key q) (rest_below key next below index) in
      let lower : length rest ≡ below_len next below = subst (λ (l : Level). length rest ≡ below_len l below) (child_level next key q) ih in
      rw below_sig-cons (omega (arith, length-append (signed_child next key q) rest, front, lower))

  -- a word and what stands behind it
  module _ (x : ℕ) (rest : List ℕ) (small : x < 2 ^ 32) where
    word_read : u32_at (u32str x ++ rest) 0 ≡ x
    word_read = words.word_first x rest small

    behind_word : drop 4 (u32str x ++ rest) ≡ rest
    behind_word = drop_at (u32str x) rest 4 (words.word_len x)

    word_len : 4 ≤ length (u32str x ++ rest)
    word_len = omega (arith, length-append (u32str x) rest, words.word_len x)

  -- the top tree's key in a key
  key_read : (x : ℕ) (key : TreeKey) → length key.id ≡ 16 → part (u32str x ++ public_of key) 4 56 ≡ public_of key
  key_read x key named =
      words.part_behind (u32str x) (public_of key) 4 0 56 (words.word_len x) ∙ words.part_whole (public_of key) 56 (public_len_is key named)

  pub hss_public-len : (levels : List Level) (id seed : List ℕ) → IsLevels levels → length id ≡ 16 → length (hss_public levels id seed) ≡ 60
  hss_public-len [] id seed is named = absurd (omega (arith, is.some))
  hss_public-len (level ∷ below) id seed is named =
      let key = top_key level id seed in
      let n = length (level ∷ below) in
      omega (arith, length-append (u32str n) (public_of key), words.word_len n, public_len_is key named)

  pub hss_verifies : (levels : List Level) (id seed : List ℕ) (index : ℕ) (msg : List ℕ) → IsLevels levels → length id ≡ 16 → index < capacity levels
      → HssVerifies (hss_public levels id seed) (hss_sig levels id seed index msg) msg
  hss_verifies [] id seed index msg is named h = absurd (omega (arith, is.some))
  hss_verifies (level ∷ below) id seed index msg is named h =
      let key = top_key level id seed in
      let n = length below in
      let fits : n < 2 ^ 32 = omega (arith, is.most) in
      let more : length (level ∷ below) < 2 ^ 32 = omega (arith, is.most) in
      let b = below_sig key below index msg in
      let public = public_of key in
      let count = word_read n b fits in
      let total = word_read (length (level ∷ below)) public more in
      let key_part = key_read (length (level ∷ below)) key named in
      record {
        whole = hss_public-len (level ∷ below) id seed is named;
        some = rw total (omega arith);
        most = rw total (omega (arith, is.most));
        enough = word_len n b fits;
        count = rw (count, total) (omega arith);
        levels = rw (count, key_part, behind_word n b fits) (signed_verifies below key index msg named h);
      }

  pub hss_index : (levels : List Level) (id seed : List ℕ) (index : ℕ) (msg : List ℕ) → IsLevels levels → length id ≡ 16 → index < capacity levels
      → FlatIndex levels (hss_sig levels id seed index msg) index
  hss_index [] id seed index msg is named h = absurd (omega (arith, is.some))
  hss_index (level ∷ below) id seed index msg is named h =
      let key = top_key level id seed in
      let n = length below in
      let fits : n < 2 ^ 32 = omega (arith, is.most) in
      let b = below_sig key below index msg in
      (word_len n b fits, word_read n b fits, rw (behind_word n b fits) (signed_index below key index msg named h))

  pub hss_sig-len : (levels : List Level) (id seed : List ℕ) (index : ℕ) (msg : List ℕ) → IsLevels levels → length id ≡ 16 → index < capacity levels
      → length (hss_sig levels id seed index msg) ≡ hss_sig_len levels
  hss_sig-len [] id seed index msg is named h = absurd (omega (arith, is.some))
  hss_sig-len (level ∷ below) id seed index msg is named h =
      let key = top_key level id seed in
      let n = length below in
      omega (arith, length-append (u32str n) (below_sig key below index msg), words.word_len n, signed_len below key index msg named h)

  pub hss_public-names : (levels : List Level) (id seed : List ℕ) → IsLevels levels → length id ≡ 16 → NamesLevels levels (hss_public levels id seed)
  hss_public-names [] id seed is named = absurd (omega (arith, is.some))
  hss_public-names (level ∷ below) id seed is named =
      let key = top_key level id seed in
      let n = length (level ∷ below) in
      let fits : n < 2 ^ 32 = omega (arith, is.most) in
      let within = level_at-within words (u32str n ++ public_of key) 4 56 (omega arith) in
      let read = ap (λ (b : List ℕ). level_at b 0) (key_read n key named) in
      record {
        some = is.some;
        whole = hss_public-len (level ∷ below) id seed is named;
        count = word_read n (public_of key) fits;
        top = sym within ∙ read ∙ lms.known level id seed named;
      }
