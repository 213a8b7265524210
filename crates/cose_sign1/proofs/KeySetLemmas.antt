-- A key's item has strict bytes, and so has an array of such items.
use Rattle.std.proofs.Common.{◌≡◌, ℕ, ◌+◌, ◌*◌, ◌<◌, ◌≤◌, true, List, [], ◌∷◌, ◌++◌, length, take, map, get_or, refl, sym, ap, subst, le-leb, arith, ◌∙◌, length-append}
use Rattle.std.proofs.lemmas.List.{take_more, map-append}
use Rattle.std.proofs.lemmas.Bool.{and_parts, and_from}
use Rattle.cbor_core.specs.declared.heads.Size.{Size}
use Rattle.cbor_core.specs.declared.heads.Size.TheVariants.{Within, One, Two, Four, Eight}
use Rattle.cbor_core.specs.declared.words.Grammar.TheVariants.{Strict}
use Rattle.cbor_core.specs.declared.tree.Item.{Item}
use Rattle.cbor_core.specs.Bytes.{is_below}
use Rattle.cbor_core.specs.Limits.{longest_string, most_parts}
use Rattle.cbor_core.specs.Encoding.{size_of, head_size, spell_in, most}
use Rattle.cbor_core.specs.Items.{array_item, map_item}
use Rattle.cbor_core.specs.Fitting.{all_items, keys_rise, is_strict_item, len_sum, strict_len, UintFits, NintFits, BytesFit, ArrayFits, MapFits, UintText, NintText, UintLength, NintLength, BytesLength, ArrayLength, MapLength}
use Rattle.cose_sign1.specs.KeySet.{key_entries, key_item, IsKeyItem, AreKeyItems}

size_small : (s : Size) → head_size s ≤ 9
size_small Within = omega arith
size_small One = omega arith
size_small Two = omega arith
size_small Four = omega arith
size_small Eight = omega arith

module _ (uint : UintFits) (nint : NintFits) (bytes : BytesFit) (pairs : MapFits) (uint_text : UintText) (nint_text : NintText) where
  rising : (kid key : List ℕ) → keys_rise (spell_in Strict 14) [] (key_entries kid key) ≡ true
  unfolding is_below
  rising kid key = rw (uint_text 14 1, uint_text 14 2, uint_text 14 3, nint_text 14 0) refl

  pub key_strict : (kid key : List ℕ) → length kid ≡ 32 → length key ≡ 60 → is_strict_item 15 (map_item (key_entries kid key)) ≡ true
  key_strict kid key a b =
      pairs 14 (key_entries kid key)
      ∙ and_from _ _ refl (and_from _ _ (
      and_from _ _ (uint 14 1) (and_from _ _ (uint 14 5) (and_from _ _ (uint 14 2) (and_from _ _ (bytes 14 kid ∙ le-leb (length kid) longest_string (omega arith))
      (and_from _ _ (uint 14 3) (and_from _ _ (nint 14 45) (and_from _ _ (nint 14 0) (and_from _ _ (bytes 14 key ∙ le-leb (length key) longest_string (omega arith)) refl)))))))) (rising kid key))

pub key_short : UintLength → NintLength → BytesLength → MapLength → (kid key : List ℕ) → length kid ≡ 32 → length key ≡ 60 → strict_len 15 (map_item (key_entries kid key)) ≤ 200
key_short uint nint bytes pairs kid key a b =
    omega (arith, pairs 14 (key_entries kid key), uint 14 1, uint 14 5, uint 14 2, bytes 14 kid, uint 14 3, nint 14 45, nint 14 0, bytes 14 key, size_small (size_of (length kid)), size_small (size_of (length key)))

-- one item more
pub all_push : (r : ℕ) (items : List Item) (last : Item) → all_items (is_strict_item r) items ≡ true → is_strict_item r last ≡ true → all_items (is_strict_item r) (items ++ last ∷ []) ≡ true
all_push r [] last all e = and_from (is_strict_item r last) true e refl
all_push r (item ∷ items) last all e =
    let q = and_parts (is_strict_item r item) (all_items (is_strict_item r) items) all in
    and_from (is_strict_item r item) (all_items (is_strict_item r) (items ++ last ∷ [])) q.0 (all_push r items last q.1 e)

pub len_push : (r : ℕ) (items : List Item) (last : Item) → len_sum (strict_len r) (items ++ last ∷ []) ≡ len_sum (strict_len r) items + strict_len r last
len_push r [] last = omega arith
len_push r (item ∷ items) last = omega (arith, len_push r items last)

pub set_strict : ArrayFits → (items : List Item) → length items ≤ most_parts → all_items (is_strict_item 15) items ≡ true → is_strict_item 16 (array_item items) ≡ true
set_strict array items few all = array 15 items ∙ and_from _ _ (le-leb (length items) most_parts few) all

pub set_short : ArrayLength → (items : List Item) → len_sum (strict_len 15) items ≤ 1000000 → strict_len 16 (array_item items) ≤ most
set_short array items few = omega (arith, array 15 items, few, size_small (size_of (length items)))

pub keys_push : (keys : List (List ℕ)) (i : ℕ) (d : List ℕ) (item : Item) (items new : List Item) → new ≡ items ++ item ∷ [] → i < length keys → AreKeyItems (take i keys) items → IsKeyItem (get_or keys i d) item → AreKeyItems (take (i + 1) keys) new
keys_push keys i d item items new is lt are one =
    let key = get_or keys i d in
    let more = take_more keys i d lt in
    let len = length-append (take i keys) (key ∷ []) in
    let all : all_items (is_strict_item 15) (items ++ item ∷ []) ≡ true = all_push 15 items item are.strict one.strict in
    let sum : len_sum (strict_len 15) (items ++ item ∷ []) ≤ 200 * length (take i keys ++ key ∷ []) = omega (arith, len_push 15 items item, are.short, one.short, len) in
    record {
      values = is ∙ (λ n. are.values n ++ one.value n ∷ []) ∙ sym (map-append key_item (take i keys) (key ∷ [])) ∙ ap (λ (k : List (List ℕ)). map key_item k) (sym more);
      strict = subst (λ (x : List Item). all_items (is_strict_item 15) x ≡ true) (sym is) all;
      short = subst (λ (p : List Item × List (List ℕ)). len_sum (strict_len 15) p.0 ≤ 200 * length p.1) (λ n. (sym is n, sym more n)) sum;
    }
