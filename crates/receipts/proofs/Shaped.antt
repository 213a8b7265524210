-- The items of a receipt have strict bytes, and few.
use Rattle.std.proofs.Common.{◌≡◌, ℕ, ◌*◌, ◌≤◌, ◌<◌, ◌^◌, true, List, [], ◌∷◌, length, map, Option, refl, ap, ◌∙◌, lt-ltb, le-leb, arith}
use Rattle.std.specs.Str.{is_utf8}
use Rattle.std.proofs.lemmas.Bool.{and_from}
use Rattle.std.proofs.lemmas.List.{length-map}
use Rattle.cbor_core.specs.declared.heads.Size.{Size}
use Rattle.cbor_core.specs.declared.heads.Size.TheVariants.{Within, One, Two, Four, Eight}
use Rattle.cbor_core.specs.declared.words.Grammar.TheVariants.{Strict}
use Rattle.cbor_core.specs.declared.tree.Item.{Item}
use Rattle.cbor_core.specs.Bytes.{is_below}
use Rattle.cbor_core.specs.Limits.{longest_string, most_parts}
use Rattle.cbor_core.specs.Encoding.{size_of, head_size, spell_in, flat, text_or, most}
use Rattle.cbor_core.specs.Exact.{strict_text, SpelledIsText}
use Rattle.cbor_core.specs.Items.{uint_item, nint_item, bytes_item, text_item, array_item, map_item}
use Rattle.cbor_core.specs.Fitting.{all_items, keys_rise, is_strict_item, len_sum, strict_len, StrictIsSpelled, UintFits, NintFits, BytesFit, TextFits, ArrayFits, MapFits, TagFits, SimpleFits, UintText, NintText, UintLength, NintLength, BytesLength, TextLength, ArrayLength, MapLength, TagLength, SimpleLength}
use Rattle.receipts.specs.declared.receipt.Proof.{Proof}
use Rattle.receipts.specs.declared.receipt.Proof.TheVariants.{Inclusion, Consistency}
use Rattle.receipts.specs.declared.receipt.Receipt.{Receipt}
use Rattle.receipts.specs.Written.{claims_item, protected_entries, protected_item, hashes_item, led_item, proofs_item, proof_inner, proof_entries, unprotected_item, receipt_parts, receipt_item}
use Rattle.receipts.specs.Fits.{AreHashes, IsPath, ProofFits, NameFits, Fits}

-- the strict bytes of an item are as many as its parts say
pub text-length : StrictIsSpelled → SpelledIsText → (item : Item) → is_strict_item 16 item ≡ true → length (strict_text item) ≡ strict_len 16 item
text-length spelled given item e =
    let t = spelled item e in
    ap (λ (o : Option (List ℕ)). length (text_or o)) (given item t.0 t.1) ∙ t.2

module _ (uint : UintFits) (nint : NintFits) (bytes : BytesFit) (text : TextFits) (array : ArrayFits) (pairs : MapFits) (tag : TagFits) (simple : SimpleFits) (uint_text : UintText) (nint_text : NintText) where
  number : (room n : ℕ) → n < 2 ^ 64 → is_strict_item room (uint_item n) ≡ true
  number room n few = uint room n ∙ lt-ltb n (2 ^ 64) few

  string : (room : ℕ) (s : List ℕ) → length s ≤ longest_string → is_strict_item room (bytes_item s) ≡ true
  string room s few = bytes room s ∙ le-leb (length s) longest_string few

  claims_strict : (name : List ℕ) → length name ≤ 128 → is_utf8 name ≡ true → is_strict_item 15 (claims_item name) ≡ true
  unfolding is_below
  claims_strict name short utf8 =
      let all = and_from _ _ (number 14 1 (omega arith)) (and_from _ _ (text 14 name ∙ and_from _ _ (le-leb (length name) longest_string (omega arith)) utf8) refl) in
      pairs 14 ((uint_item 1, text_item name) ∷ []) ∙ and_from _ _ refl (and_from _ _ all (rw (uint_text 14 1) refl))

  rising : (name kid : List ℕ) (size : ℕ) → keys_rise (spell_in Strict 15) [] (protected_entries name kid size) ≡ true
  unfolding is_below
  rising name kid size = rw (uint_text 15 1, uint_text 15 4, uint_text 15 15, uint_text 15 395, nint_text 15 70000) refl

  pub protected_strict : (name kid : List ℕ) (size : ℕ) → NameFits name kid size → is_strict_item 16 (protected_item name kid size) ≡ true
  protected_strict name kid size fits =
      let low = fits.number in
      let long = fits.digest in
      let parts : all_items (is_strict_item 15) (flat (protected_entries name kid size)) ≡ true =
      and_from _ _ (number 15 1 (omega arith)) (and_from _ _ (nint 15 45)
      (and_from _ _ (number 15 4 (omega arith)) (and_from _ _ (string 15 kid (omega arith))
      (and_from _ _ (number 15 15 (omega arith)) (and_from _ _ (claims_strict name fits.most fits.utf8)
      (and_from _ _ (number 15 395 (omega arith)) (and_from _ _ (number 15 1 (omega arith))
      (and_from _ _ (nint 15 70000) (and_from _ _ (number 15 size (omega arith)) refl))))))))) in
      pairs 15 (protected_entries name kid size) ∙ and_from _ _ refl (and_from _ _ parts (rising name kid size))

  hashes_strict : (room : ℕ) (path : List (List ℕ)) → AreHashes path → all_items (is_strict_item room) (map bytes_item path) ≡ true
  hashes_strict room [] are = refl
  hashes_strict room (h ∷ hs) are = and_from _ _ (string room h (omega (arith, are.0))) (hashes_strict room hs are.1)

  led_strict : (first second : ℕ) (path : List (List ℕ)) → first ≤ 4294967295 → second ≤ 4294967295 → IsPath path → is_strict_item 16 (led_item first second path) ≡ true
  led_strict first second path a b (few, are) =
      let inner : is_strict_item 15 (hashes_item path) ≡ true =
      array 14 (map bytes_item path) ∙ and_from _ _ (le-leb (length (map bytes_item path)) most_parts (omega (arith, length-map path bytes_item))) (hashes_strict 14 path are) in
      array 15 (uint_item first ∷ uint_item second ∷ hashes_item path ∷ [])
      ∙ and_from _ _ refl (and_from _ _ (number 15 first (omega arith)) (and_from _ _ (number 15 second (omega arith)) (and_from _ _ inner refl)))

  pub inner_strict : (proof : Proof) → ProofFits proof → is_strict_item 16 (proof_inner proof) ≡ true
  inner_strict (Inclusion size index path at rule) fits = led_strict size index path fits.0 fits.1 fits.2
  inner_strict (Consistency old size path) fits = led_strict old size path fits.0 fits.1 fits.2

  -- ---- the outer shape, below a tag and an array

  one_string : (s : List ℕ) → length s ≤ longest_string → is_strict_item 12 (array_item (bytes_item s ∷ [])) ≡ true
  one_string s few = array 11 (bytes_item s ∷ []) ∙ and_from _ _ refl (and_from _ _ (string 11 s few) refl)

  proofs_strict : (kind : ℕ) (s : List ℕ) → kind < 2 ^ 64 → ((x : Item) → keys_rise (spell_in Strict 12) [] ((nint_item kind, x) ∷ []) ≡ true) → length s ≤ longest_string
      → is_strict_item 13 (map_item ((nint_item kind, array_item (bytes_item s ∷ [])) ∷ [])) ≡ true
  proofs_strict kind s low rises few =
      pairs 12 ((nint_item kind, array_item (bytes_item s ∷ [])) ∷ [])
      ∙ and_from _ _ refl (and_from _ _ (and_from _ _ (nint 12 kind ∙ lt-ltb kind (2 ^ 64) low) (and_from _ _ (one_string s few) refl)) (rises (array_item (bytes_item s ∷ []))))

  rise_0 : (x : Item) → keys_rise (spell_in Strict 12) [] ((nint_item 0, x) ∷ []) ≡ true
  unfolding is_below
  rise_0 x = rw (nint_text 12 0) refl

  rise_1 : (x : Item) → keys_rise (spell_in Strict 12) [] ((nint_item 1, x) ∷ []) ≡ true
  unfolding is_below
  rise_1 x = rw (nint_text 12 1) refl

  rise_two : (x y : Item) → keys_rise (spell_in Strict 13) [] ((uint_item 396, x) ∷ (nint_item 70001, y) ∷ []) ≡ true
  unfolding is_below
  rise_two x y = rw (uint_text 13 396, nint_text 13 70001) refl

  rise_one : (x : Item) → keys_rise (spell_in Strict 13) [] ((uint_item 396, x) ∷ []) ≡ true
  unfolding is_below
  rise_one x = rw (uint_text 13 396) refl

  registered_strict : (at rule : ℕ) → at < 2 ^ 64 → rule ≤ 65535 → is_strict_item 13 (array_item (uint_item at ∷ uint_item rule ∷ [])) ≡ true
  registered_strict at rule a b = array 12 (uint_item at ∷ uint_item rule ∷ []) ∙ and_from _ _ refl (and_from _ _ (number 12 at a) (and_from _ _ (number 12 rule (omega arith)) refl))

  unprotected_strict : (proof : Proof) → ProofFits proof → length (strict_text (proof_inner proof)) ≤ longest_string → is_strict_item 14 (unprotected_item proof) ≡ true
  unprotected_strict (Inclusion size index path at rule) fits few =
      let held = proofs_strict 0 (strict_text (led_item size index path)) (omega arith) rise_0 few in
      pairs 13 (proof_entries (Inclusion size index path at rule))
      ∙ and_from _ _ refl (and_from _ _ (and_from _ _ (number 13 396 (omega arith)) (and_from _ _ held (and_from _ _ (nint 13 70001) (and_from _ _ (registered_strict at rule fits.4 fits.3) refl)))) (rise_two (proofs_item 0 (led_item size index path)) (array_item (uint_item at ∷ uint_item rule ∷ []))))
  unprotected_strict (Consistency old size path) fits few =
      let held = proofs_strict 1 (strict_text (led_item old size path)) (omega arith) rise_1 few in
      pairs 13 (proof_entries (Consistency old size path))
      ∙ and_from _ _ refl (and_from _ _ (and_from _ _ (number 13 396 (omega arith)) (and_from _ _ held refl)) (rise_one (proofs_item 1 (led_item old size path))))

  pub whole_strict : (r : Receipt) → Fits r → length (strict_text (protected_item r.name r.kid r.size)) ≤ longest_string → length (strict_text (proof_inner r.proof)) ≤ longest_string → length r.signature ≤ longest_string
      → is_strict_item 16 (receipt_item r) ≡ true
  whole_strict r fits outer inner signature =
      tag 15 18 (array_item (receipt_parts r))
      ∙ and_from _ _ refl (array 14 (receipt_parts r)
      ∙ and_from _ _ refl (and_from _ _ (string 14 (strict_text (protected_item r.name r.kid r.size)) outer)
      (and_from _ _ (unprotected_strict r.proof fits.1 inner) (and_from _ _ (simple 14 22) (and_from _ _ (string 14 r.signature signature) refl)))))

size_small : (s : Size) → head_size s ≤ 9
size_small Within = omega arith
size_small One = omega arith
size_small Two = omega arith
size_small Four = omega arith
size_small Eight = omega arith

module _ (uint : UintLength) (nint : NintLength) (bytes : BytesLength) (text : TextLength) (array : ArrayLength) (pairs : MapLength) (tag : TagLength) (simple : SimpleLength) where
  pub protected_short : (name kid : List ℕ) (size : ℕ) → length name ≤ 128 → length kid ≡ 32 → strict_len 16 (protected_item name kid size) ≤ 300
  protected_short name kid size short long =
      omega (
        arith,
        pairs 15 (protected_entries name kid size),
        pairs 14 ((uint_item 1, text_item name) ∷ []),
        uint 15 1,
        uint 15 4,
        uint 15 15,
        uint 15 395,
        uint 15 size,
        nint 15 45,
        nint 15 70000,
        bytes 15 kid,
        uint 14 1,
        text 14 name,
        size_small (size_of (length kid)),
        size_small (size_of (length name)),
        size_small (size_of size),
      )

  hashes_short : (room : ℕ) (path : List (List ℕ)) → AreHashes path → len_sum (strict_len room) (map bytes_item path) ≤ 41 * length path
  hashes_short room [] are = omega arith
  hashes_short room (h ∷ hs) are = omega (arith, hashes_short room hs are.1, bytes room h, size_small (size_of (length h)), are.0)

  led_short : (first second : ℕ) (path : List (List ℕ)) → IsPath path → strict_len 16 (led_item first second path) ≤ 2000
  led_short first second path (few, are) =
      omega (
        arith,
        array 15 (uint_item first ∷ uint_item second ∷ hashes_item path ∷ []),
        array 14 (map bytes_item path),
        uint 15 first,
        uint 15 second,
        hashes_short 14 path are,
        size_small (size_of first),
        size_small (size_of second),
        size_small (size_of (length (map bytes_item path))),
      )

  pub inner_short : (proof : Proof) → ProofFits proof → strict_len 16 (proof_inner proof) ≤ 2000
  inner_short (Inclusion size index path at rule) fits = led_short size index path fits.2
  inner_short (Consistency old size path) fits = led_short old size path fits.2

  proofs_short : (kind : ℕ) (s : List ℕ) → length s ≤ 2000 → strict_len 13 (map_item ((nint_item kind, array_item (bytes_item s ∷ [])) ∷ [])) ≤ 2100
  proofs_short kind s few =
      omega (arith, pairs 12 ((nint_item kind, array_item (bytes_item s ∷ [])) ∷ []), nint 12 kind, array 11 (bytes_item s ∷ []), bytes 11 s, size_small (size_of kind), size_small (size_of (length s)))

  unprotected_short : (proof : Proof) → length (strict_text (proof_inner proof)) ≤ 2000 → strict_len 14 (unprotected_item proof) ≤ 3000
  unprotected_short (Inclusion size index path at rule) few =
      omega (
        arith,
        pairs 13 (proof_entries (Inclusion size index path at rule)),
        uint 13 396,
        proofs_short 0 (strict_text (led_item size index path)) few,
        nint 13 70001,
        array 12 (uint_item at ∷ uint_item rule ∷ []),
        uint 12 at,
        uint 12 rule,
        size_small (size_of at),
        size_small (size_of rule),
      )
  unprotected_short (Consistency old size path) few = omega (arith, pairs 13 (proof_entries (Consistency old size path)), uint 13 396, proofs_short 1 (strict_text (led_item old size path)) few)

  pub whole_short : (r : Receipt) → length (strict_text (protected_item r.name r.kid r.size)) ≤ 300 → length (strict_text (proof_inner r.proof)) ≤ 2000 → length r.signature ≤ longest_string → strict_len 16 (receipt_item r) ≤ most
  whole_short r outer inner signature =
      omega (
        arith,
        tag 15 18 (array_item (receipt_parts r)),
        array 14 (receipt_parts r),
        bytes 14 (strict_text (protected_item r.name r.kid r.size)),
        unprotected_short r.proof inner,
        simple 14 22,
        bytes 14 r.signature,
        size_small (size_of (length (strict_text (protected_item r.name r.kid r.size)))),
        size_small (size_of (length r.signature)),
      )
