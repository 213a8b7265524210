-- An entry's place, what is read there, and the receipts made of it.
use Rattle.std.proofs.Common.{◌≡◌, ℕ, ◌+◌, ◌<◌, ◌≤◌, Bool, true, false, List, [], ◌∷◌, length, refl, map, take, Option, None, Some, Result, Ok, Err, IfOk, sym, ap, ◌∙◌, subst, arith, slice_get, slice_index_or, option_map, option_and_then, bytes_eq}
use Rattle.std.specs.Prelude.{if◌then◌else◌}
use Rattle.std.proofs.lemmas.List.{take-map, length-take}
use Rattle.std.proofs.lemmas.Option.{slice_get-map, slice_get_within, get_or_from_slice_get}
use Rattle.std.proofs.lemmas.Slice.Eq.{bytes_eq-Decides}
use Rattle.sha2.specs.Sha256.{sha256}
use Rattle.cbor_core.specs.Exact.{strict_text}
use Rattle.merkle_tree.specs.Mth.{leaf_hash}
use Rattle.merkle_tree.specs.Paths.{path_of}
use Rattle.merkle_tree.specs.Consistency.{proof_of}
use Rattle.receipts.specs.declared.receipt.Receipt.{Receipt}
use Rattle.receipts.specs.declared.receipt.Proof.{Proof}
use Rattle.receipts.specs.declared.receipt.Proof.TheVariants.{Inclusion, Consistency}
use Rattle.receipts.specs.Written.{receipt_item}
use Rattle.log_replay.specs.declared.parts.Header.{Header}
use Rattle.log_replay.specs.declared.parts.BatchParts.{BatchParts}
use Rattle.log_replay.specs.declared.parts.EntryParts.{EntryParts}
use Rattle.log_replay.specs.Records.{Log, parts_of, header_of, leaves_of, entries_of, homes_of, batch_in, record_of}
use Rattle.log_replay.specs.WellMade.{WellMade}
use Rattle.log_replay.specs.Growth.{StandsAt, EntryHasHome}
use Rattle.log_replay.specs.Answers.{receipt_of, consistency_of, ReceiptIsOfBatch, ConsistencyIsOfLast}
use Rattle.registrar.specs.declared.reading.EntryBack.{EntryBack}
use Rattle.registrar.specs.Reading.{parts_by, back_in, back_of, IsPlace, IsEntry, HasLeafHash}

some_same : {A : Type 0} (a b : A) → Some a ≡ Some b → a ≡ b
some_same a b e = cc

-- ---- hashes of a front

pub front_hashes : (n : ℕ) (entries leaves : List (List ℕ)) → leaves ≡ map leaf_hash entries → map leaf_hash (take n entries) ≡ take n leaves
front_hashes n entries leaves e = sym (take-map leaf_hash n entries) ∙ ap (take n) (sym e)

pub short_path : {E : Type 0} (r : Result (List (List ℕ)) E) (p : List (List ℕ)) → IfOk r (λ path. path ≡ p) → length p ≤ 16 → IfOk r (λ path. length path ≤ 32)
short_path (Ok path) p e few = omega (arith, ap length e)
short_path (Err stop) p e few = tt

pub front_short : (n : ℕ) (entries : List (List ℕ)) → n ≤ 65536 → length (take n entries) ≤ 65536
front_short n entries few = omega (arith, length-take n entries)

-- ---- the place of an entry

pub place_is : EntryHasHome → (R : Log) (i n : ℕ) (hash : List ℕ) (leaves : List (List ℕ)) → WellMade R → i < length (entries_of R) →
    slice_get (homes_of R) i ≡ Some n → leaves ≡ map leaf_hash (leaves_of R) → slice_get leaves i ≡ Some hash → IsPlace R i n hash
place_is home R i n hash leaves well low at are is =
    let h = home R i well low in
    let stands : StandsAt R i h.0 h.1 h.2 h.3 h.4 = h.5 in
    let same : h.0 ≡ n = some_same h.0 n (sym stands.home ∙ at) in
    let found : Some (leaf_hash h.2) ≡ Some hash =
    sym (ap (option_map leaf_hash) stands.bytes) ∙ sym (slice_get-map leaf_hash (leaves_of R) i) ∙ ap (λ (xs : List (List ℕ)). slice_get xs i) (sym are) ∙ is in
    record {
      body = h.1;
      leaf = h.2;
      batch = h.3;
      entry = h.4;
      stands = subst (λ (k : ℕ). StandsAt R i k h.1 h.2 h.3 h.4) same stands;
      hashed = sym (some_same (leaf_hash h.2) hash found);
    }

pub place_within : (R : Log) (i n : ℕ) (hash : List ℕ) → IsPlace R i n hash → n < length R
place_within R i n hash p = slice_get_within R n p.body p.stands.there

-- ---- what is read there

abbrev entry_there : (R : Log) (i n : ℕ) (hash : List ℕ) → IsPlace R i n hash → EntryBack
entry_there R i n hash p = record {
  signature = p.batch.signature;
  parts = record { at = p.entry.at; rule = p.entry.rule; logged = p.entry.statement.logged };
}

with_hash : (hash leaf : List ℕ) (o : Option EntryParts) → hash ≡ leaf_hash leaf → (if bytes_eq (leaf_hash leaf) hash then o else None) ≡ o
with_hash hash leaf o e =
    let yes : bytes_eq (leaf_hash leaf) hash ≡ true = (bytes_eq-Decides (leaf_hash leaf) hash).1 (sym e) in
    ap (λ (t : Bool). if t then o else None) yes

pub reads_entry : (R : Log) (i n : ℕ) (hash body : List ℕ) (p : IsPlace R i n hash) → body ≡ slice_index_or R n [] → back_of hash body ≡ Some (entry_there R i n hash p)
reads_entry R i n hash body p is =
    let same : body ≡ p.body = is ∙ get_or_from_slice_get R n p.body [] p.stands.there in
    let signed : Option EntryParts → Option EntryBack = option_map (λ parts. record { signature = p.batch.signature; parts = parts }) in
    ap (back_of hash) same
    ∙ ap (option_and_then (back_in hash)) p.stands.read_back
    ∙ ap (λ (leaves : List (List ℕ)). signed (parts_by hash leaves)) p.stands.alone
    ∙ ap signed (with_hash hash p.leaf (parts_of p.leaf) p.hashed ∙ p.stands.parts)

pub never_changed : (R : Log) (i n : ℕ) (hash body : List ℕ) → IsPlace R i n hash → body ≡ slice_index_or R n [] → None ≡ back_of hash body → ⊥
never_changed R i n hash body p is none = let found = reads_entry R i n hash body p is in cc

pub is_entry : (R : Log) (i n : ℕ) (hash body : List ℕ) (back : EntryBack) → IsPlace R i n hash → body ≡ slice_index_or R n [] → Some back ≡ back_of hash body → IsEntry R i back
is_entry R i n hash body back p is some =
    let same : back ≡ entry_there R i n hash p = some_same back (entry_there R i n hash p) (some ∙ reads_entry R i n hash body p is) in
    record {
      home = n;
      body = p.body;
      leaf = p.leaf;
      batch = p.batch;
      entry = p.entry;
      stands = p.stands;
      signature = ap (λ (b : EntryBack). b.signature) same;
      parts = ap (λ (b : EntryBack). b.parts) same;
    }

-- ---- the hash of what is read

by_hash : (hash leaf : List ℕ) (t : Bool) (parts : EntryParts) → bytes_eq (leaf_hash leaf) hash ≡ t → (if t then parts_of leaf else None) ≡ Some parts → (leaf_hash leaf ≡ hash) × (parts_of leaf ≡ Some parts)
by_hash hash leaf true parts test e = ((bytes_eq-Decides (leaf_hash leaf) hash).0 test, e)
by_hash hash leaf false parts test e = cc

with_leaf : (R : Log) (i n : ℕ) (hash : List ℕ) (leaves : List (List ℕ)) (parts : EntryParts) → IsPlace R i n hash → parts_by hash leaves ≡ Some parts → HasLeafHash R i parts
with_leaf R i n hash [] parts p e = cc
with_leaf R i n hash (leaf ∷ []) parts p e =
    let found = by_hash hash leaf (bytes_eq (leaf_hash leaf) hash) parts refl e in
    record {
      leaf = leaf;
      hashed = slice_get-map leaf_hash (leaves_of R) i ∙ ap (option_map leaf_hash) p.stands.bytes ∙ ap Some (sym p.hashed ∙ sym found.0);
      reads = found.1;
    }
with_leaf R i n hash (leaf ∷ other ∷ rest) parts p e = cc

with_batch : (R : Log) (i n : ℕ) (hash : List ℕ) (b : BatchParts) (o : Option EntryParts) (back : EntryBack) → IsPlace R i n hash → parts_by hash b.entries ≡ o →
    option_map (λ parts. record { signature = b.signature; parts = parts }) o ≡ Some back → HasLeafHash R i back.parts
with_batch R i n hash b None back p is e = cc
with_batch R i n hash b (Some parts) back p is e =
    let same : parts ≡ back.parts = ap (λ (x : EntryBack). x.parts) (some_same (record { signature = b.signature; parts = parts }) back e) in
    with_leaf R i n hash b.entries back.parts p (is ∙ ap Some same)

by_batch : (R : Log) (i n : ℕ) (hash : List ℕ) (o : Option BatchParts) (back : EntryBack) → IsPlace R i n hash → Some back ≡ option_and_then (back_in hash) o → HasLeafHash R i back.parts
by_batch R i n hash None back p e = cc
by_batch R i n hash (Some b) back p e = with_batch R i n hash b (parts_by hash b.entries) back p refl (sym e)

pub has_hash : (R : Log) (i n : ℕ) (hash body : List ℕ) (back : EntryBack) → IsPlace R i n hash → Some back ≡ back_of hash body → HasLeafHash R i back.parts
has_hash R i n hash body back p e = by_batch R i n hash (batch_in (record_of body)) back p e

-- ---- the receipts

abbrev receipt_text : Header → ℕ → Proof → List ℕ → List ℕ
receipt_text h size proof signature =
    strict_text (receipt_item (record { name = h.name; kid = sha256 h.key; size = size; proof = proof; signature = signature }))

abbrev text_of : Option Receipt → Option (List ℕ)
text_of r = option_map (λ (x : Receipt). strict_text (receipt_item x)) r

pub receipt_is : {E : Type 0} → ReceiptIsOfBatch → (R : Log) (h : Header) (i : ℕ) (back : EntryBack) (path : List (List ℕ)) (r : Result (List ℕ) E) → WellMade R → header_of R ≡ Some h →
    path ≡ path_of i (take (i + 1) (leaves_of R)) → IfOk r (λ bytes. bytes ≡ receipt_text h (i + 1) (Inclusion (i + 1) i path back.parts.at back.parts.rule) back.signature) →
    IsEntry R i back → IfOk r (λ bytes. receipt_of R i ≡ Some bytes)
receipt_is law R h i back path (Err stop) well headed is made e = tt
receipt_is law R h i back path (Ok bytes) well headed is made e =
    let text : List (List ℕ) → EntryParts → List ℕ → List ℕ = λ p q s. receipt_text h (i + 1) (Inclusion (i + 1) i p q.at q.rule) s in
    let own : EntryParts = record { at = e.entry.at; rule = e.entry.rule; logged = e.entry.statement.logged } in
    let same : bytes ≡ text (path_of i (take (i + 1) (leaves_of R))) own e.batch.signature =
    made ∙ ap (λ (p : List (List ℕ)). text p back.parts back.signature) is
    ∙ ap (λ (q : EntryParts). text (path_of i (take (i + 1) (leaves_of R))) q back.signature) e.parts
    ∙ ap (text (path_of i (take (i + 1) (leaves_of R))) own) e.signature in
    ap text_of (law R h i e.home e.body e.leaf e.batch e.entry well headed e.stands) ∙ ap Some (sym same)

pub consistency_is : {E : Type 0} → ConsistencyIsOfLast → (R : Log) (h : Header) (i old size : ℕ) (back : EntryBack) (path : List (List ℕ)) (r : Result (List ℕ) E) → WellMade R → header_of R ≡ Some h →
    size ≡ length (entries_of R) → i + 1 ≡ length (entries_of R) → 0 < old → old ≤ length (entries_of R) → path ≡ proof_of old (leaves_of R) →
    IfOk r (λ bytes. bytes ≡ receipt_text h size (Consistency old size path) back.signature) → IsEntry R i back → IfOk r (λ bytes. consistency_of R old ≡ Some bytes)
consistency_is law R h i old size back path (Err stop) well headed all last some inside is made e = tt
consistency_is law R h i old size back path (Ok bytes) well headed all last some inside is made e =
    let text : ℕ → List (List ℕ) → List ℕ → List ℕ = λ n p s. receipt_text h n (Consistency old n p) s in
    let whole : size ≡ i + 1 = omega (arith, all, last) in
    let same : bytes ≡ text (i + 1) (proof_of old (leaves_of R)) e.batch.signature =
    made ∙ ap (λ (n : ℕ). text n path back.signature) whole
    ∙ ap (λ (p : List (List ℕ)). text (i + 1) p back.signature) is
    ∙ ap (text (i + 1) (proof_of old (leaves_of R))) e.signature in
    ap text_of (law R h i e.home old e.body e.leaf e.batch e.entry well headed e.stands last (omega (arith, some)) (omega (arith, inside, last))) ∙ ap Some (sym same)
