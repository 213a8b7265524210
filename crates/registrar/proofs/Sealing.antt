-- A Batch behind the leaves of a log, and the receipt of its entry.
use Rattle.std.proofs.Common.{◌≡◌, ℕ, ◌+◌, ◌≤◌, true, List, [], ◌∷◌, ◌++◌, length, map, Some, sym, ap, ◌∙◌, arith}
use Rattle.std.proofs.lemmas.List.{length_push, map-append, length-map}
use Rattle.cbor_core.specs.Exact.{strict_text}
use Rattle.hss_keys.specs.Functions.{hss_verifies, flat_index}
use Rattle.merkle_tree.specs.Mth.{mth, leaf_hash}
use Rattle.merkle_tree.specs.Paths.{path_of}
use Rattle.sha2.specs.Sha256.{sha256}
use Rattle.receipts.specs.Signed.{signed_text}
use Rattle.receipts.specs.declared.receipt.Proof.TheVariants.{Inclusion}
use Rattle.receipts.specs.Written.{receipt_item}
use Rattle.statement.specs.Said.{Said}
use Rattle.log_replay.specs.declared.parts.Header.{Header}
use Rattle.log_replay.specs.Records.{Log, record_of, batch_record, leaves_of}
use Rattle.log_replay.specs.Steps.{batch_with, entry_text}
use Rattle.log_replay.specs.Answers.{receipt_with}
use Rattle.registrar.specs.declared.writing.Batch.{Batch}
use Rattle.registrar.specs.Ready.{IsShort, IsSealed}

-- the hashes of the leaves with one more
hashes_more : (R : Log) (leaf entry hash : List ℕ) (leaves : List (List ℕ)) → map leaf_hash (leaves_of R) ≡ leaves → entry ≡ leaf → hash ≡ leaf_hash entry
    → map leaf_hash (leaves_of R ++ leaf ∷ []) ≡ leaves ++ hash ∷ []
hashes_more R leaf entry hash leaves told is hashed =
    map-append leaf_hash (leaves_of R) (leaf ∷ []) ∙ ap (λ (xs : List (List ℕ)). xs ++ leaf_hash leaf ∷ []) told ∙ ap (λ (x : List ℕ). leaves ++ x ∷ []) (sym (hashed ∙ ap leaf_hash is))

size_told : (R : Log) (size : ℕ) (leaves : List (List ℕ)) → map leaf_hash (leaves_of R) ≡ leaves → size ≡ length leaves → size ≡ length (leaves_of R)
size_told R size leaves told is = is ∙ ap length (sym told) ∙ length-map (leaves_of R) leaf_hash

pub path_few : (R : Log) (size : ℕ) (leaf entry hash : List ℕ) (path leaves : List (List ℕ)) → map leaf_hash (leaves_of R) ≡ leaves → size ≡ length leaves → length leaves ≤ 65536 → entry ≡ leaf → hash ≡ leaf_hash entry
    → ((entries : List (List ℕ)) → map leaf_hash entries ≡ leaves ++ hash ∷ [] → path ≡ path_of size entries)
    → ((m : ℕ) (entries : List (List ℕ)) → 1 ≤ length entries → length entries ≤ 65537 → length (path_of m entries) ≤ 32) → length path ≤ 32
path_few R size leaf entry hash path leaves told is few same hashed paths law =
    let all = leaves_of R ++ leaf ∷ [] in
    let n = size_told R size leaves told is in
    let more = length_push (leaves_of R) leaf in
    let short = law size all (omega (arith, more)) (omega (arith, more, n, is, few)) in
    omega (arith, ap length (paths all (hashes_more R leaf entry hash leaves told same hashed)), short)

pub sealed : (R : Log) (h : Header) (s : Said) (at rule index size : ℕ) (entry hash root : List ℕ) (path leaves : List (List ℕ)) (batch : Batch) (receipt : List ℕ)
    → map leaf_hash (leaves_of R) ≡ leaves → size ≡ length leaves → entry ≡ entry_text at rule s → hash ≡ leaf_hash entry
    → ((entries : List (List ℕ)) → map leaf_hash entries ≡ leaves ++ hash ∷ [] → root ≡ mth entries)
    → ((entries : List (List ℕ)) → map leaf_hash entries ≡ leaves ++ hash ∷ [] → path ≡ path_of size entries)
    → record_of batch.body.items ≡ Some (batch_record (record { entries = entry ∷ []; index = index; signature = batch.signature.items })) → IsShort batch.body.items
    → flat_index h.levels batch.signature.items ≡ Some index → hss_verifies h.key batch.signature.items (signed_text h.name (sha256 h.key) (size + 1) root) ≡ true
    → ((used : ℕ) → receipt ≡ strict_text (receipt_item (receipt_with h (record { size = size + 1; index = used; signature = batch.signature.items }) (Inclusion (size + 1) size path at rule))))
    → batch.at ≡ at → batch.rule ≡ rule → batch.index ≡ index → IsSealed R h s at rule index batch receipt
sealed R h s at rule index size entry hash root path leaves batch receipt told is same hashed roots paths reads short indexed verified receipts at_is rule_is index_is =
    let leaf = entry_text at rule s in
    let all = leaves_of R ++ leaf ∷ [] in
    let hashes = hashes_more R leaf entry hash leaves told same hashed in
    let n = size_told R size leaves told is in
    let more : length all ≡ size + 1 = length_push (leaves_of R) leaf ∙ ap (λ (k : ℕ). k + 1) (sym n) in
    let sig = batch.signature.items in
    let as_entry = reads ∙ ap (λ (e : List ℕ). Some (batch_record (record { entries = e ∷ []; index = index; signature = sig }))) same in
    let by_root : hss_verifies h.key sig (signed_text h.name (sha256 h.key) (size + 1) (mth all)) ≡ true =
    ap (λ (r : List ℕ). hss_verifies h.key sig (signed_text h.name (sha256 h.key) (size + 1) r)) (sym (roots all hashes)) ∙ verified in
    record {
      at_is = at_is;
      rule_is = rule_is;
      index_is = index_is;
      reads = as_entry ∙ sym (ap (λ (a : ℕ). Some (batch_with a batch.rule s batch.index sig)) at_is ∙ ap (λ (r : ℕ). Some (batch_with at r s batch.index sig)) rule_is ∙ ap (λ (i : ℕ). Some (batch_with at rule s i sig)) index_is);
      short = short;
      indexed = indexed;
      signed = ap (λ (m : ℕ). hss_verifies h.key sig (signed_text h.name (sha256 h.key) m (mth all))) more ∙ by_root;
      receipt_is = receipts index
          ∙ ap (λ (p : List (List ℕ)). strict_text (receipt_item (receipt_with h (record { size = size + 1; index = index; signature = sig }) (Inclusion (size + 1) size p at rule)))) (paths all hashes)
          ∙ ap (λ (m : ℕ). strict_text (receipt_item (receipt_with h (record { size = m + 1; index = index; signature = sig }) (Inclusion (m + 1) m (path_of m all) at rule)))) n;
    }
