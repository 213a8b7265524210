-- What a record says whose body is bytes.
use Rattle.std.proofs.Common.{◌≡◌, ℕ, suc, ◌≤◌, Bool, true, false, ◌&&◌, List, [], ◌∷◌, ◌++◌, length, Option, Some, None, refl, sym, ap, ◌∙◌, subst, leb-true}
use Rattle.std.specs.Prelude.{nat_lt, nat_le, ◌==◌, option_map, option_and_then, if◌then◌else◌}
use Rattle.std.specs.Str.{is_utf8}
use Rattle.std.proofs.lemmas.Bool.{and_parts}
use Rattle.cbor_core.specs.declared.words.Grammar.TheVariants.{Strict}
use Rattle.cbor_core.specs.declared.tree.Item.{Item}
use Rattle.cbor_core.specs.Bytes.{IsBytes}
use Rattle.cbor_core.specs.Limits.{longest_string, most_parts}
use Rattle.cbor_core.specs.Spells.{Spells, SpellsIn}
use Rattle.cbor_core.specs.Decoding.{strict_item, ItemIsSpelled}
use Rattle.cbor_core.specs.Fitting.{all_items, is_strict_item, SpelledIsStrict, BytesFit, TextFits, ArrayFits}
use Rattle.cbor_core.specs.Items.{bytes_in, text_in, uint_in, array_in, is_uint, array_item}
use Rattle.policy_rules.specs.declared.documents.Holder.{Holder}
use Rattle.policy_rules.specs.Conditions.{each_onto}
use Rattle.lms_tree.specs.declared.types.Level.{Level}
use Rattle.log_replay.specs.declared.parts.Header.{Header}
use Rattle.log_replay.specs.declared.parts.BatchParts.{BatchParts}
use Rattle.log_replay.specs.Records.{Record, header_record, reserve_record, batch_record, most_body, record_of, record_in, record_of_parts, any_holder_in, levels_in, version, header_from, entries_array, batch_from}
use Rattle.log_replay.proofs.LoggedAgain.{from_then}
use Rattle.receipt_laws.proofs.Lists.{some_is}
use Rattle.receipt_laws.proofs.Items.{bytes_is, text_is, array_is, EachSpelled, bytes_inside, array_inside}

-- ---- steps that gave something

pub passed : {A : Type 0} (t : Bool) (o : Option A) (x : A) → (if t then o else None) ≡ Some x → (t ≡ true) × (o ≡ Some x)
passed true o x e = (refl, e)
passed false o x e = cc

in_room : {A : Type 0} (t : Bool) (o : Option A) (x : A) → (if t then None else o) ≡ Some x → o ≡ Some x
in_room true o x e = cc
in_room false o x e = e

-- ---- the parts of a Batch, and of a header

no_reserve : (o : Option ℕ) (r : Record) → ((n : ℕ) → reserve_record n ≡ r → ⊥) → option_map reserve_record o ≡ Some r → ⊥
no_reserve None r none e = cc
no_reserve (Some n) r none e = none n (some_is (reserve_record n) r e)

no_batch : (o : Option BatchParts) (r : Record) → ((b : BatchParts) → batch_record b ≡ r → ⊥) → option_map batch_record o ≡ Some r → ⊥
no_batch None r none e = cc
no_batch (Some b) r none e = none b (some_is (batch_record b) r e)

batch_is : (b c : BatchParts) → batch_record b ≡ batch_record c → b ≡ c
batch_is b c e = cc

header_is : (g h : Header) → header_record g ≡ header_record h → g ≡ h
header_is g h e = cc

by_batch : (entries : Option (List (List ℕ))) (index : Option ℕ) (signature : Option (List ℕ)) (b : BatchParts) → option_map batch_record (batch_from entries index signature) ≡ Some (batch_record b)
    → (entries ≡ Some b.entries) × (signature ≡ Some b.signature)
by_batch None index signature b e = cc
by_batch (Some x) None signature b e = cc
by_batch (Some x) (Some i) None b e = cc
by_batch (Some x) (Some i) (Some s) b e =
    let own : BatchParts = record { entries = x; index = i; signature = s } in
    let same : own ≡ b = batch_is own b (some_is (batch_record own) (batch_record b) e) in
    (ap (λ (p : BatchParts). Some p.entries) same, ap (λ (p : BatchParts). Some p.signature) same)

by_header : (name : Option (List ℕ)) (governor : Option Holder) (key : Option (List ℕ)) (levels : Option (List Level)) (most block : Option ℕ) (r : Record)
    → header_from name governor key levels most block ≡ Some r → (h : Header) × (header_record h ≡ r) × (name ≡ Some h.name)
by_header None governor key levels most block r e = cc
by_header (Some n) None key levels most block r e = cc
by_header (Some n) (Some g) None levels most block r e = cc
by_header (Some n) (Some g) (Some k) None most block r e = cc
by_header (Some n) (Some g) (Some k) (Some l) None block r e = cc
by_header (Some n) (Some g) (Some k) (Some l) (Some m) None r e = cc
by_header (Some n) (Some g) (Some k) (Some l) (Some m) (Some s) r e =
    let own : Header = record { name = n; governor = g; key = k; levels = l; max_entries = m; block = s } in
    (own, some_is (header_record own) r (passed (length k == 60) (Some (header_record own)) r e).1, refl)

record HasBatch (items : List Item) (b : BatchParts) : Type 0 where
  pub kind : Item
  pub entries : Item
  pub index : Item
  pub signature : Item
  pub are : items ≡ kind ∷ entries ∷ index ∷ signature ∷ []
  pub holds : entries_array entries ≡ Some b.entries
  pub signs : bytes_in signature ≡ Some b.signature

has_batch : (items : List Item) (b : BatchParts) → record_of_parts items ≡ Some (batch_record b) → HasBatch items b
has_batch [] b e = cc
has_batch (i0 ∷ []) b e = cc
has_batch (i0 ∷ i1 ∷ []) b e = absurd (no_reserve (uint_in i1) (batch_record b) (λ n bad. cc) (passed (is_uint 1 i0) (option_map reserve_record (uint_in i1)) (batch_record b) e).1)
has_batch (i0 ∷ i1 ∷ i2 ∷ []) b e = cc
has_batch (i0 ∷ i1 ∷ i2 ∷ i3 ∷ []) b e =
    let made = option_map batch_record (batch_from (entries_array i1) (uint_in i2) (bytes_in i3)) in
    let by = by_batch (entries_array i1) (uint_in i2) (bytes_in i3) b (passed (is_uint 2 i0) made (batch_record b) e).1 in
    record { kind = i0; entries = i1; index = i2; signature = i3; are = refl; holds = by.0; signs = by.1 }
has_batch (i0 ∷ i1 ∷ i2 ∷ i3 ∷ i4 ∷ []) b e = cc
has_batch (i0 ∷ i1 ∷ i2 ∷ i3 ∷ i4 ∷ i5 ∷ []) b e = cc
has_batch (i0 ∷ i1 ∷ i2 ∷ i3 ∷ i4 ∷ i5 ∷ i6 ∷ []) b e = cc
has_batch (i0 ∷ i1 ∷ i2 ∷ i3 ∷ i4 ∷ i5 ∷ i6 ∷ i7 ∷ []) b e =
    let made = header_from (text_in i2) (any_holder_in i3) (bytes_in i4) (levels_in i5) (uint_in i6) (uint_in i7) in
    let by = by_header (text_in i2) (any_holder_in i3) (bytes_in i4) (levels_in i5) (uint_in i6) (uint_in i7) (batch_record b) (passed (is_uint 0 i0 && is_uint version i1) made (batch_record b) e).1 in
    let bad = by.1 in
    cc
has_batch (i0 ∷ i1 ∷ i2 ∷ i3 ∷ i4 ∷ i5 ∷ i6 ∷ i7 ∷ i8 ∷ rest) b e = cc

record HasHeader (items : List Item) (h : Header) : Type 0 where
  pub kind : Item
  pub form : Item
  pub name : Item
  pub rest : List Item
  pub are : items ≡ kind ∷ form ∷ name ∷ rest
  pub named : text_in name ≡ Some h.name

has_header : (items : List Item) (h : Header) → record_of_parts items ≡ Some (header_record h) → HasHeader items h
has_header [] h e = cc
has_header (i0 ∷ []) h e = cc
has_header (i0 ∷ i1 ∷ []) h e = absurd (no_reserve (uint_in i1) (header_record h) (λ n bad. cc) (passed (is_uint 1 i0) (option_map reserve_record (uint_in i1)) (header_record h) e).1)
has_header (i0 ∷ i1 ∷ i2 ∷ []) h e = cc
has_header (i0 ∷ i1 ∷ i2 ∷ i3 ∷ []) h e =
    let made = batch_from (entries_array i1) (uint_in i2) (bytes_in i3) in
    absurd (no_batch made (header_record h) (λ b bad. cc) (passed (is_uint 2 i0) (option_map batch_record made) (header_record h) e).1)
has_header (i0 ∷ i1 ∷ i2 ∷ i3 ∷ i4 ∷ []) h e = cc
has_header (i0 ∷ i1 ∷ i2 ∷ i3 ∷ i4 ∷ i5 ∷ []) h e = cc
has_header (i0 ∷ i1 ∷ i2 ∷ i3 ∷ i4 ∷ i5 ∷ i6 ∷ []) h e = cc
has_header (i0 ∷ i1 ∷ i2 ∷ i3 ∷ i4 ∷ i5 ∷ i6 ∷ i7 ∷ []) h e =
    let made = header_from (text_in i2) (any_holder_in i3) (bytes_in i4) (levels_in i5) (uint_in i6) (uint_in i7) in
    let by = by_header (text_in i2) (any_holder_in i3) (bytes_in i4) (levels_in i5) (uint_in i6) (uint_in i7) (header_record h) (passed (is_uint 0 i0 && is_uint version i1) made (header_record h) e).1 in
    let same = header_is by.0 h by.1 in
    record { kind = i0; form = i1; name = i2; rest = i3 ∷ i4 ∷ i5 ∷ i6 ∷ i7 ∷ []; are = refl; named = by.2 ∙ ap (λ (x : Header). Some x.name) same }
has_header (i0 ∷ i1 ∷ i2 ∷ i3 ∷ i4 ∷ i5 ∷ i6 ∷ i7 ∷ i8 ∷ rest) h e = cc

-- ---- byte strings in an array

-- each of them is bytes
abbrev pub AllBytes : List (List ℕ) → Type 0
AllBytes [] = Unit {0}
AllBytes (s ∷ ss) = IsBytes s × AllBytes ss

one_more : (front : List (List ℕ)) (s : List ℕ) → AllBytes front → IsBytes s → AllBytes (front ++ s ∷ [])
one_more [] s all fits = (fits, tt)
one_more (x ∷ front) s all fits = (all.0, one_more front s all.1 fits)

each_bytes : (room : ℕ) (front : List (List ℕ)) (items : List Item) (strings : List (List ℕ)) → AllBytes front → EachSpelled room items → each_onto bytes_in front items ≡ Some strings → AllBytes strings
each_bytes room front [] strings all each e = subst AllBytes (some_is front strings e) all
each_bytes room front (item ∷ items) strings all each e =
    let step = from_then (λ s. each_onto bytes_in (front ++ s ∷ []) items) (bytes_in item) strings e in
    let fits = bytes_inside room item step.0 each.0.0 each.0.1 step.1 each.0.2 in
    each_bytes room (front ++ step.0 ∷ []) items strings (one_more front step.0 all fits) each.1 step.2

entries_bytes : (room : ℕ) (item : Item) (strings : List (List ℕ)) (text : List ℕ) → SpellsIn Strict (suc room) item text → IsBytes text → entries_array item ≡ Some strings → AllBytes strings
entries_bytes room item strings text spelled fits e =
    let array = from_then (each_onto bytes_in []) (array_in item) strings e in
    each_bytes room [] array.0 strings tt (array_inside room item array.0 text spelled array.1 fits) array.2

-- ---- a record

record IsRead (body : List ℕ) (r : Record) : Type 0 where
  pub item : Item
  pub items : List Item
  pub read : strict_item body ≡ Some item
  pub array : array_in item ≡ Some items
  pub says : record_of_parts items ≡ Some r

is_read : (body : List ℕ) (r : Record) → record_of body ≡ Some r → IsRead body r
unfolding record_of
is_read body r e =
    let whole = from_then record_in (strict_item body) r (in_room (nat_lt most_body (length body)) (option_and_then record_in (strict_item body)) r e) in
    let parts = from_then record_of_parts (array_in whole.0) r whole.2 in
    record { item = whole.0; items = parts.0; read = whole.1; array = parts.1; says = parts.2 }

pub first_passes : (test : Item → Bool) (item : Item) (items : List Item) → all_items test (item ∷ items) ≡ true → (test item ≡ true) × (all_items test items ≡ true)
first_passes test item items e = and_parts (test item) (all_items test items) e

module _ (spelled : ItemIsSpelled) (strict : SpelledIsStrict) (bytes : BytesFit) (text : TextFits) (array : ArrayFits) where
  -- the items of an array that is spelled
  items_strict : (body : List ℕ) (item : Item) (items : List Item) → IsBytes body → strict_item body ≡ Some item → array_in item ≡ Some items → all_items (is_strict_item 15) items ≡ true
  items_strict body item items fits read is =
      let whole : is_strict_item 16 (array_item items) ≡ true = ap (λ (x : Item). is_strict_item 16 x) (sym (array_is item items is)) ∙ strict item body (spelled body item fits read) in
      (and_parts (nat_le (length items) most_parts) (all_items (is_strict_item 15) items) (sym (array 15 items) ∙ whole)).1

  -- the signature of a Batch isn't too long for a string
  pub signature_short : (body : List ℕ) (b : BatchParts) → IsBytes body → record_of body ≡ Some (batch_record b) → length b.signature ≤ longest_string
  signature_short body b fits e =
      let r = is_read body (batch_record b) e in
      let has = has_batch r.items b r.says in
      let all = subst (λ (xs : List Item). all_items (is_strict_item 15) xs ≡ true) has.are (items_strict body r.item r.items fits r.read r.array) in
      let test = is_strict_item 15 in
      let behind = first_passes test has.index (has.signature ∷ []) (first_passes test has.entries (has.index ∷ has.signature ∷ []) (first_passes test has.kind (has.entries ∷ has.index ∷ has.signature ∷ []) all).1).1 in
      let last : is_strict_item 15 has.signature ≡ true = (first_passes test has.signature [] behind.1).0 in
      leb-true (length b.signature) longest_string (sym (bytes 15 b.signature) ∙ ap (λ (x : Item). is_strict_item 15 x) (sym (bytes_is has.signature b.signature has.signs)) ∙ last)

  -- the name of a header is a text
  pub name_utf8 : (body : List ℕ) (h : Header) → IsBytes body → record_of body ≡ Some (header_record h) → is_utf8 h.name ≡ true
  name_utf8 body h fits e =
      let r = is_read body (header_record h) e in
      let has = has_header r.items h r.says in
      let all = subst (λ (xs : List Item). all_items (is_strict_item 15) xs ≡ true) has.are (items_strict body r.item r.items fits r.read r.array) in
      let test = is_strict_item 15 in
      let behind = first_passes test has.form (has.name ∷ has.rest) (first_passes test has.kind (has.form ∷ has.name ∷ has.rest) all).1 in
      let third : is_strict_item 15 has.name ≡ true = (first_passes test has.name has.rest behind.1).0 in
      (and_parts (nat_le (length h.name) longest_string) (is_utf8 h.name) (sym (text 15 h.name) ∙ ap (λ (x : Item). is_strict_item 15 x) (sym (text_is has.name h.name has.named)) ∙ third)).1

-- the entries of a Batch are bytes
pub batch_bytes : ItemIsSpelled → (body : List ℕ) (b : BatchParts) → IsBytes body → record_of body ≡ Some (batch_record b) → AllBytes b.entries
unfolding Spells
batch_bytes spelled body b fits e =
    let r = is_read body (batch_record b) e in
    let has = has_batch r.items b r.says in
    let each = subst (EachSpelled 15) has.are (array_inside 15 r.item r.items body (spelled body r.item fits r.read) r.array fits) in
    let second = each.1.0 in
    entries_bytes 14 has.entries b.entries second.0 second.1 second.2 has.holds
