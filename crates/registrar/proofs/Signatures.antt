-- The signature of a Batch that is spelled is within the limits of a string.
use Rattle.std.proofs.Common.{◌≡◌, ℕ, ◌≤◌, Bool, true, false, ◌&&◌, List, [], ◌∷◌, length, Option, Some, None, refl, ap, subst, leb-true}
use Rattle.std.specs.Prelude.{nat_lt, ◌==◌, option_map, option_and_then, if◌then◌else◌}
use Rattle.std.proofs.lemmas.Bool.{and_parts}
use Rattle.cbor_core.specs.declared.words.Grammar.TheVariants.{Strict}
use Rattle.cbor_core.specs.declared.tree.Item.{Item}
use Rattle.cbor_core.specs.declared.tree.Node.{Node-F, out-Node}
use Rattle.cbor_core.specs.Bytes.{IsBytes}
use Rattle.cbor_core.specs.Limits.{longest_string}
use Rattle.cbor_core.specs.Tree.{Layer}
use Rattle.cbor_core.specs.Items.{bytes_at, array_at, bytes_in, text_in, uint_in, array_in, is_uint}
use Rattle.cbor_core.specs.Decoding.{strict_item, ItemIsSpelled}
use Rattle.cbor_core.specs.Encoding.{Writer, is_allowed, items_of, pairs_of, flat, spell_in}
use Rattle.cbor_core.specs.Fitting.{all_items, keys_rise, fits_layer, is_strict_item, SpelledIsStrict}
use Rattle.policy_rules.specs.declared.documents.Holder.{Holder}
use Rattle.lms_tree.specs.declared.types.Level.{Level}
use Rattle.log_replay.specs.declared.parts.BatchParts.{BatchParts}
use Rattle.log_replay.specs.Records.{Record, header_record, reserve_record, batch_record, most_body, record_of, record_in, record_of_parts, any_holder_in, levels_in, version, header_from, entries_array, batch_from, batch_in}

-- a layer that passes is allowed, and so do its items
layer_allowed : (room : ℕ) (fits : Item → Bool) (part : Writer) (layer : Layer) → fits_layer room fits part layer ≡ true → is_allowed Strict room layer ≡ true
layer_allowed room fits part layer e =
    (and_parts (is_allowed Strict room layer) (all_items fits (items_of layer) && (all_items fits (flat (pairs_of layer)) && keys_rise part [] (pairs_of layer))) e).0

layer_items : (room : ℕ) (fits : Item → Bool) (part : Writer) (layer : Layer) → fits_layer room fits part layer ≡ true → all_items fits (items_of layer) ≡ true
layer_items room fits part layer e =
    let behind = (and_parts (is_allowed Strict room layer) (all_items fits (items_of layer) && (all_items fits (flat (pairs_of layer)) && keys_rise part [] (pairs_of layer))) e).1 in
    (and_parts (all_items fits (items_of layer)) (all_items fits (flat (pairs_of layer)) && keys_rise part [] (pairs_of layer)) behind).0

-- a string that passes is short
short_at : (room : ℕ) (layer : Layer) (s : List ℕ) → is_allowed Strict room layer ≡ true → bytes_at layer ≡ Some s → length s ≤ longest_string
short_at room (Node-F.Uint n) s fits e = cc
short_at room (Node-F.Nint n) s fits e = cc
short_at room (Node-F.Bytes bytes) s fits e =
    let same : bytes ≡ s = cc in subst (λ (b : List ℕ). length b ≤ longest_string) same (leb-true (length bytes) longest_string fits)
short_at room (Node-F.Text bytes) s fits e = cc
short_at room (Node-F.Array items) s fits e = cc
short_at room (Node-F.Map pairs) s fits e = cc
short_at room (Node-F.Tag n item) s fits e = cc
short_at room (Node-F.Simple n) s fits e = cc
short_at room (Node-F.Float width bits) s fits e = cc

string_short : (item : Item) (s : List ℕ) → is_strict_item 15 item ≡ true → bytes_in item ≡ Some s → length s ≤ longest_string
unfolding is_strict_item
string_short item s fits e = short_at 15 (out-Node item.node) s (layer_allowed 15 (is_strict_item 14) (spell_in Strict 14) (out-Node item.node) fits) e

array_passes : (layer : Layer) (items : List Item) → all_items (is_strict_item 15) (items_of layer) ≡ true → array_at layer ≡ Some items → all_items (is_strict_item 15) items ≡ true
array_passes (Node-F.Uint n) items fits e = cc
array_passes (Node-F.Nint n) items fits e = cc
array_passes (Node-F.Bytes bytes) items fits e = cc
array_passes (Node-F.Text bytes) items fits e = cc
array_passes (Node-F.Array inner) items fits e =
    let same : inner ≡ items = cc in subst (λ (xs : List Item). all_items (is_strict_item 15) xs ≡ true) same fits
array_passes (Node-F.Map pairs) items fits e = cc
array_passes (Node-F.Tag n item) items fits e = cc
array_passes (Node-F.Simple n) items fits e = cc
array_passes (Node-F.Float width bits) items fits e = cc

items_pass : (item : Item) (items : List Item) → is_strict_item 16 item ≡ true → array_in item ≡ Some items → all_items (is_strict_item 15) items ≡ true
unfolding is_strict_item
items_pass item items fits e = array_passes (out-Node item.node) items (layer_items 16 (is_strict_item 15) (spell_in Strict 15) (out-Node item.node) fits) e

-- ---- which parts are a Batch

no_reserve : (t : Bool) (upto : Option ℕ) (b : BatchParts) → batch_in (if t then option_map reserve_record upto else None) ≡ Some b → ⊥
no_reserve true None b e = cc
no_reserve true (Some n) b e = cc
no_reserve false upto b e = cc

no_key : (t : Bool) (r : Option Record) (b : BatchParts) → (batch_in r ≡ Some b → ⊥) → batch_in (if t then r else None) ≡ Some b → ⊥
no_key true r b none e = none e
no_key false r b none e = cc

no_header : (name : Option (List ℕ)) (governor : Option Holder) (key : Option (List ℕ)) (levels : Option (List Level)) (most block : Option ℕ) (b : BatchParts) →
    batch_in (header_from name governor key levels most block) ≡ Some b → ⊥
no_header None governor key levels most block b e = cc
no_header (Some n) None key levels most block b e = cc
no_header (Some n) (Some g) None levels most block b e = cc
no_header (Some n) (Some g) (Some k) None most block b e = cc
no_header (Some n) (Some g) (Some k) (Some l) None block b e = cc
no_header (Some n) (Some g) (Some k) (Some l) (Some m) None b e = cc
no_header (Some n) (Some g) (Some k) (Some l) (Some m) (Some s) b e =
    no_key (length k == 60) (Some (header_record (record { name = n; governor = g; key = k; levels = l; max_entries = m; block = s }))) b (λ bad. cc) e

alone : (t : Bool) (a b : BatchParts) → (if t then Some a else None) ≡ Some b → a ≡ b
alone true a b e = cc
alone false a b e = cc

signed : (t : Bool) (entries : Option (List (List ℕ))) (index : Option ℕ) (signature : Option (List ℕ)) (b : BatchParts) →
    batch_in (if t then option_map batch_record (batch_from entries index signature) else None) ≡ Some b → signature ≡ Some b.signature
signed false entries index signature b e = cc
signed true None index signature b e = cc
signed true (Some x) None signature b e = cc
signed true (Some x) (Some i) None b e = cc
signed true (Some x) (Some i) (Some s) b e =
    ap (λ (p : BatchParts). Some p.signature) (alone (length x == 1) (record { entries = x; index = i; signature = s }) b e)

parts_short : (items : List Item) (b : BatchParts) → all_items (is_strict_item 15) items ≡ true → batch_in (record_of_parts items) ≡ Some b → length b.signature ≤ longest_string
parts_short [] b fits e = cc
parts_short (i0 ∷ []) b fits e = cc
parts_short (i0 ∷ i1 ∷ []) b fits e = absurd (no_reserve (is_uint 1 i0) (uint_in i1) b e)
parts_short (i0 ∷ i1 ∷ i2 ∷ []) b fits e = cc
parts_short (i0 ∷ i1 ∷ i2 ∷ i3 ∷ []) b fits e =
    let test : Item → Bool = is_strict_item 15 in
    let p1 = and_parts (test i0) (test i1 && (test i2 && (test i3 && true))) fits in
    let p2 = and_parts (test i1) (test i2 && (test i3 && true)) p1.1 in
    let p3 = and_parts (test i2) (test i3 && true) p2.1 in
    let p4 = and_parts (test i3) true p3.1 in
    string_short i3 b.signature p4.0 (signed (is_uint 2 i0) (entries_array i1) (uint_in i2) (bytes_in i3) b e)
parts_short (i0 ∷ i1 ∷ i2 ∷ i3 ∷ i4 ∷ []) b fits e = cc
parts_short (i0 ∷ i1 ∷ i2 ∷ i3 ∷ i4 ∷ i5 ∷ []) b fits e = cc
parts_short (i0 ∷ i1 ∷ i2 ∷ i3 ∷ i4 ∷ i5 ∷ i6 ∷ []) b fits e = cc
parts_short (i0 ∷ i1 ∷ i2 ∷ i3 ∷ i4 ∷ i5 ∷ i6 ∷ i7 ∷ []) b fits e =
    let made = header_from (text_in i2) (any_holder_in i3) (bytes_in i4) (levels_in i5) (uint_in i6) (uint_in i7) in
    absurd (no_key (is_uint 0 i0 && is_uint version i1) made b (no_header (text_in i2) (any_holder_in i3) (bytes_in i4) (levels_in i5) (uint_in i6) (uint_in i7) b) e)
parts_short (i0 ∷ i1 ∷ i2 ∷ i3 ∷ i4 ∷ i5 ∷ i6 ∷ i7 ∷ i8 ∷ rest) b fits e = cc

by_array : (item : Item) (b : BatchParts) (found : Option (List Item)) → is_strict_item 16 item ≡ true → array_in item ≡ found → batch_in (option_and_then record_of_parts found) ≡ Some b → length b.signature ≤ longest_string
by_array item b None fits is e = cc
by_array item b (Some items) fits is e = parts_short items b (items_pass item items fits is) e

by_item : ItemIsSpelled → SpelledIsStrict → (body : List ℕ) (b : BatchParts) (found : Option Item) → IsBytes body → strict_item body ≡ found → batch_in (option_and_then record_in found) ≡ Some b → length b.signature ≤ longest_string
by_item spelled passes body b None bytes is e = cc
by_item spelled passes body b (Some item) bytes is e = by_array item b (array_in item) (passes item body (spelled body item bytes is)) refl e

in_room : (t : Bool) (o : Option Record) (b : BatchParts) → batch_in (if t then None else o) ≡ Some b → batch_in o ≡ Some b
in_room true o b e = cc
in_room false o b e = e

pub signature_short : ItemIsSpelled → SpelledIsStrict → (body : List ℕ) (b : BatchParts) → IsBytes body → batch_in (record_of body) ≡ Some b → length b.signature ≤ longest_string
unfolding record_of
signature_short spelled passes body b bytes e =
    by_item spelled passes body b (strict_item body) bytes refl (in_room (nat_lt most_body (length body)) (option_and_then record_in (strict_item body)) b e)
