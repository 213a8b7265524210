-- The protected map of a new statement has strict bytes, and not many.
use Rattle.std.proofs.Common.{◌≡◌, ℕ, ◌≤◌, ◌<◌, ◌^◌, true, List, [], length, Option, Some, None, refl, ap, ◌∙◌, lt-ltb, le-leb, arith}
use Rattle.std.specs.Prelude.{IfSome}
use Rattle.std.specs.Str.{is_utf8}
use Rattle.std.proofs.lemmas.Bool.{and_from}
use Rattle.cbor_core.specs.declared.heads.Size.{Size}
use Rattle.cbor_core.specs.declared.heads.Size.TheVariants.{Within, One, Two, Four, Eight}
use Rattle.cbor_core.specs.declared.words.Grammar.TheVariants.{Strict}
use Rattle.cbor_core.specs.declared.tree.Item.{Item}
use Rattle.cbor_core.specs.Bytes.{is_below}
use Rattle.cbor_core.specs.Limits.{longest_string}
use Rattle.cbor_core.specs.Encoding.{size_of, head_size, spell_in, flat, text_or}
use Rattle.cbor_core.specs.Exact.{strict_text, SpelledIsText}
use Rattle.cbor_core.specs.Items.{uint_item, text_item, map_item}
use Rattle.cbor_core.specs.Fitting.{all_items, keys_rise, is_strict_item, strict_len, StrictIsSpelled, UintFits, NintFits, BytesFit, TextFits, MapFits, UintText, UintLength, NintLength, BytesLength, TextLength, MapLength}
use Rattle.cose_sign1.specs.Strings.{head_len}
use Rattle.scitt_draft.specs.Drafts.{Claims, claims_from, names_fit, claim_entries, protected_entries, protected_item, ClaimsWithin}

-- the strict bytes of an item are as many as its parts say
pub text-length : StrictIsSpelled → SpelledIsText → (item : Item) → is_strict_item 16 item ≡ true → length (strict_text item) ≡ strict_len 16 item
text-length spelled given item e =
    let t = spelled item e in
    ap (λ (o : Option (List ℕ)). length (text_or o)) (given item t.0 t.1) ∙ t.2

pub size_small : (size : Size) → head_size size ≤ 9
size_small Within = omega arith
size_small One = omega arith
size_small Two = omega arith
size_small Four = omega arith
size_small Eight = omega arith

-- the head of a byte string
pub head_short : (n : ℕ) → head_len n ≤ 9
unfolding head_len
head_short n = size_small (size_of n)

-- the lengths of the names
pub record Short (iss sub type : List ℕ) : Type 0 where
  pub issuer : length iss ≤ 1024
  pub subject : length sub ≤ 1024
  pub content_type : length type ≤ 1024

pub names_short : (iss sub type : List ℕ) (from until : Option ℕ) → names_fit (claims_from iss sub type from until) ≡ true → Short iss sub type
names_short iss sub type from until e = record { issuer = grind (arith, e); subject = grind (arith, e); content_type = grind (arith, e) }

module _ (uint : UintFits) (nint : NintFits) (bytes : BytesFit) (text : TextFits) (pairs : MapFits) (uint_text : UintText) where
  number : (room n : ℕ) → n < 2 ^ 64 → is_strict_item room (uint_item n) ≡ true
  number room n few = uint room n ∙ lt-ltb n (2 ^ 64) few

  words : (room : ℕ) (s : List ℕ) → length s ≤ 1024 → is_utf8 s ≡ true → is_strict_item room (text_item s) ≡ true
  words room s few utf8 = text room s ∙ and_from _ _ (le-leb (length s) longest_string (omega arith)) utf8

  claims_strict : (iss sub type : List ℕ) (from until : Option ℕ) → Short iss sub type → is_utf8 iss ≡ true → is_utf8 sub ≡ true → IfSome from (λ m. m < 2 ^ 64) → IfSome until (λ m. m < 2 ^ 64)
      → is_strict_item 15 (map_item (claim_entries (claims_from iss sub type from until))) ≡ true
  unfolding is_below
  claims_strict iss sub type None None short i s f u =
      let all = and_from _ _ (number 14 1 (omega arith)) (and_from _ _ (words 14 iss short.issuer i) (and_from _ _ (number 14 2 (omega arith)) (and_from _ _ (words 14 sub short.subject s) refl))) in
      pairs 14 (claim_entries (claims_from iss sub type None None)) ∙ and_from _ _ refl (and_from _ _ all (rw (uint_text 14 1, uint_text 14 2) refl))
  claims_strict iss sub type (Some a) None short i s f u =
      let all = and_from _ _ (number 14 1 (omega arith)) (and_from _ _ (words 14 iss short.issuer i) (and_from _ _ (number 14 2 (omega arith)) (and_from _ _ (words 14 sub short.subject s) (and_from _ _ (number 14 5 (omega arith)) (and_from _ _ (number 14 a f) refl))))) in
      pairs 14 (claim_entries (claims_from iss sub type (Some a) None)) ∙ and_from _ _ refl (and_from _ _ all (rw (uint_text 14 1, uint_text 14 2, uint_text 14 5) refl))
  claims_strict iss sub type None (Some b) short i s f u =
      let all = and_from _ _ (number 14 1 (omega arith)) (and_from _ _ (words 14 iss short.issuer i) (and_from _ _ (number 14 2 (omega arith)) (and_from _ _ (words 14 sub short.subject s) (and_from _ _ (number 14 4 (omega arith)) (and_from _ _ (number 14 b u) refl))))) in
      pairs 14 (claim_entries (claims_from iss sub type None (Some b))) ∙ and_from _ _ refl (and_from _ _ all (rw (uint_text 14 1, uint_text 14 2, uint_text 14 4) refl))
  claims_strict iss sub type (Some a) (Some b) short i s f u =
      let all = and_from _ _ (number 14 1 (omega arith)) (and_from _ _ (words 14 iss short.issuer i) (and_from _ _ (number 14 2 (omega arith)) (and_from _ _ (words 14 sub short.subject s) (and_from _ _ (number 14 4 (omega arith)) (and_from _ _ (number 14 b u) (and_from _ _ (number 14 5 (omega arith)) (and_from _ _ (number 14 a f) refl))))))) in
      pairs 14 (claim_entries (claims_from iss sub type (Some a) (Some b))) ∙ and_from _ _ refl (and_from _ _ all (rw (uint_text 14 1, uint_text 14 2, uint_text 14 4, uint_text 14 5) refl))

  rising : (claims : Claims) (kid : List ℕ) → keys_rise (spell_in Strict 15) [] (protected_entries claims kid) ≡ true
  unfolding is_below
  rising claims kid = rw (uint_text 15 1, uint_text 15 3, uint_text 15 4, uint_text 15 15) refl

  pub protected_strict : (claims : Claims) (kid : List ℕ) → ClaimsWithin claims → length kid ≤ 64 → is_strict_item 16 (protected_item claims kid) ≡ true
  protected_strict claims kid fits few =
      let short = names_short claims.issuer claims.subject claims.content_type claims.not_before claims.expires fits.names in
      let inner = claims_strict claims.issuer claims.subject claims.content_type claims.not_before claims.expires short fits.issuer fits.subject fits.from fits.until in
      let parts : all_items (is_strict_item 15) (flat (protected_entries claims kid)) ≡ true =
      and_from _ _ (number 15 1 (omega arith)) (and_from _ _ (nint 15 45)
      (and_from _ _ (number 15 3 (omega arith)) (and_from _ _ (words 15 claims.content_type short.content_type fits.content_type)
      (and_from _ _ (number 15 4 (omega arith)) (and_from _ _ (bytes 15 kid ∙ le-leb (length kid) longest_string (omega arith))
      (and_from _ _ (number 15 15 (omega arith)) (and_from _ _ inner refl))))))) in
      pairs 15 (protected_entries claims kid) ∙ and_from _ _ refl (and_from _ _ parts (rising claims kid))

module _ (uint : UintLength) (nint : NintLength) (bytes : BytesLength) (text : TextLength) (pairs : MapLength) where
  claims_short : (iss sub type : List ℕ) (from until : Option ℕ) → Short iss sub type → strict_len 15 (map_item (claim_entries (claims_from iss sub type from until))) ≤ 2200
  claims_short iss sub type None None short =
      omega (arith, pairs 14 (claim_entries (claims_from iss sub type None None)), uint 14 1, uint 14 2, text 14 iss, text 14 sub, size_small (size_of (length iss)), size_small (size_of (length sub)), short.issuer, short.subject)
  claims_short iss sub type (Some a) None short =
      omega (arith, pairs 14 (claim_entries (claims_from iss sub type (Some a) None)), uint 14 1, uint 14 2, uint 14 5, uint 14 a, text 14 iss, text 14 sub, size_small (size_of a), size_small (size_of (length iss)), size_small (size_of (length sub)), short.issuer, short.subject)
  claims_short iss sub type None (Some b) short =
      omega (arith, pairs 14 (claim_entries (claims_from iss sub type None (Some b))), uint 14 1, uint 14 2, uint 14 4, uint 14 b, text 14 iss, text 14 sub, size_small (size_of b), size_small (size_of (length iss)), size_small (size_of (length sub)), short.issuer, short.subject)
  claims_short iss sub type (Some a) (Some b) short =
      omega (arith, pairs 14 (claim_entries (claims_from iss sub type (Some a) (Some b))), uint 14 1, uint 14 2, uint 14 4, uint 14 5, uint 14 a, uint 14 b, text 14 iss, text 14 sub, size_small (size_of a), size_small (size_of b), size_small (size_of (length iss)), size_small (size_of (length sub)), short.issuer, short.subject)

  pub protected_short : (claims : Claims) (kid : List ℕ) → ClaimsWithin claims → length kid ≤ 64 → strict_len 16 (protected_item claims kid) ≤ 4000
  protected_short claims kid fits few =
      let short = names_short claims.issuer claims.subject claims.content_type claims.not_before claims.expires fits.names in
      omega (
        arith,
        pairs 15 (protected_entries claims kid),
        uint 15 1,
        uint 15 3,
        uint 15 4,
        uint 15 15,
        nint 15 45,
        text 15 claims.content_type,
        bytes 15 kid,
        claims_short claims.issuer claims.subject claims.content_type claims.not_before claims.expires short,
        short.content_type,
        size_small (size_of (length claims.content_type)),
        size_small (size_of (length kid)),
      )
