-- A log's receipt of its entry is one within the limits, and shows the entry.
use Rattle.std.proofs.Common.{◌≡◌, ℕ, suc, ◌+◌, ◌<◌, ◌≤◌, true, List, [], ◌∷◌, ◌++◌, length, take, Option, None, Some, refl, sym, ap, ◌∙◌, subst, arith}
use Rattle.std.specs.Prelude.{slice_get, option_map}
use Rattle.std.specs.List.{cons_option}
use Rattle.std.proofs.lemmas.Option.{slice_get_within}
use Rattle.std.proofs.lemmas.List.{length-take}
use Rattle.sha2.specs.Sha256.{sha256}
use Rattle.sha2.proofs.Facts256.{length-sha256}
use Rattle.cbor_core.specs.Limits.{longest_string}
use Rattle.cbor_core.specs.Encoding.{text_or}
use Rattle.cbor_core.specs.Exact.{strict_text, SpelledIsText}
use Rattle.cbor_core.specs.Decoding.{ItemIsSpelled}
use Rattle.cbor_core.specs.Fitting.{SpelledIsStrict, StrictIsSpelled, UintFits, BytesFit, TextFits, ArrayFits}
use Rattle.hss_keys.specs.Functions.{hss_verifies}
use Rattle.merkle_tree.specs.Mth.{mth}
use Rattle.merkle_tree.specs.Paths.{path_of}
use Rattle.receipts.specs.declared.receipt.Receipt.{Receipt}
use Rattle.receipts.specs.declared.receipt.Proof.TheVariants.{Inclusion}
use Rattle.receipts.specs.Form as form
use Rattle.receipts.specs.Written.{receipt_item}
use Rattle.receipts.specs.Signed.{signed_text}
use Rattle.receipts.specs.Fits.{IsPath, Fits}
use Rattle.receipts.specs.Laws.{ReceiptIsStrict, BytesAreReceipt}
use Rattle.log_replay.specs.declared.parts.Header.{Header}
use Rattle.log_replay.specs.declared.parts.BatchParts.{BatchParts}
use Rattle.log_replay.specs.Records.{Log, Record, Entry, header_record, reserve_record, batch_record, record_of, records_of, header_of, header_first, leaves_of, entries_of}
use Rattle.log_replay.specs.WellMade.{WellMade}
use Rattle.log_replay.specs.Growth.{HeaderIsWithin, IsBounded, EntriesAreLeaves, StandsAt}
use Rattle.log_replay.specs.Answers.{receipt_with, signed_at, ReceiptIsOfBatch}
use Rattle.relying_party.specs.declared.trust.Trust.{Trust}
use Rattle.relying_party.specs.Converse.{ShowsEntry}
use Rattle.receipt_laws.specs.Standing.{WasAdmitted, EntriesWereAdmitted}
use Rattle.receipt_laws.specs.Own.{AreBytes, KnowsService, IsReceiptOf, EntriesHaveReceipts}
use Rattle.receipt_laws.proofs.Lists.{some_is, take_more, at_seam}
use Rattle.receipt_laws.proofs.RecordBytes.{AllBytes, signature_short, name_utf8, batch_bytes}
use Rattle.receipt_laws.proofs.EntryBytes.{IsWritten, is_written}

-- ---- where the header stands

pub record HeaderAt (R : Log) (h : Header) : Type 0 where
  pub place : ℕ
  pub body : List ℕ
  pub there : slice_get R place ≡ Some body
  pub reads : record_of body ≡ Some (header_record h)

one_behind : (x : List ℕ) (R : Log) (h : Header) → HeaderAt R h → HeaderAt (x ∷ R) h
one_behind x R h at = record { place = suc at.place; body = at.body; there = at.there; reads = at.reads }

by_first : (x : List ℕ) (R : Log) (h : Header) (o : Option Record) → record_of x ≡ o → (header_of R ≡ Some h → HeaderAt R h) → header_first (cons_option o (records_of R)) ≡ Some h → HeaderAt (x ∷ R) h
by_first x R h None is rest e = one_behind x R h (rest e)
by_first x R h (Some (header_record g)) is rest e = record { place = 0; body = x; there = refl; reads = is ∙ ap (λ (k : Header). Some (header_record k)) (some_is g h e) }
by_first x R h (Some (reserve_record n)) is rest e = cc
by_first x R h (Some (batch_record b)) is rest e = cc

pub header_at : (R : Log) (h : Header) → header_of R ≡ Some h → HeaderAt R h
header_at [] h e = cc
header_at (x ∷ R) h e = by_first x R h (record_of x) refl (header_at R h) e

-- ---- the front up to an entry and with it

front_has : (xs : List (List ℕ)) (i : ℕ) (x : List ℕ) → slice_get xs i ≡ Some x → slice_get (take (i + 1) xs) i ≡ Some x
front_has xs i x e =
    let below = slice_get_within xs i x e in
    let place : i ≡ length (take i xs) = omega (arith, below, length-take i xs) in
    ap (λ ys. slice_get ys i) (take_more xs i x e) ∙ ap (λ k. slice_get (take i xs ++ x ∷ []) k) place ∙ at_seam (take i xs) x []

front_long : (xs : List (List ℕ)) (i : ℕ) → i < length xs → length (take (i + 1) xs) ≡ i + 1
front_long xs i below = omega (arith, below, length-take (i + 1) xs)

-- ---- the receipt

abbrev own_receipt : (R : Log) (h : Header) (i : ℕ) (b : BatchParts) (e : Entry) → Receipt
own_receipt R h i b e = receipt_with h (signed_at i b) (Inclusion (i + 1) i (path_of i (take (i + 1) (leaves_of R))) e.at e.rule)

module _ (spelled : ItemIsSpelled) (text : SpelledIsText) (strict : SpelledIsStrict) (written : StrictIsSpelled) (uint : UintFits) (bytes : BytesFit) (texts : TextFits) (array : ArrayFits)
    (path : (m : ℕ) (entries : List (List ℕ)) → length entries ≤ 65536 → IsPath (path_of m entries)) (within : HeaderIsWithin) (bounded : IsBounded) (both : EntriesAreLeaves) where
  leaf_written : (R : Log) (h : Header) (i n : ℕ) (body leaf : List ℕ) (b : BatchParts) (e : Entry) → AreBytes R → StandsAt R i n body leaf b e → IsWritten leaf (record { at = e.at; rule = e.rule; logged = e.statement.logged })
  leaf_written R h i n body leaf b e fits st =
      let all = subst AllBytes st.alone (batch_bytes spelled body b (fits n body st.there) st.reads) in
      is_written spelled text strict uint array leaf _ all.0 st.parts

  own_fits : (R : Log) (h : Header) (i n : ℕ) (body leaf : List ℕ) (b : BatchParts) (e : Entry) → AreBytes R → WellMade R → header_of R ≡ Some h → StandsAt R i n body leaf b e → Fits (own_receipt R h i b e)
  own_fits R h i n body leaf b e fits w headed st =
      let limits = within R h w headed in
      let head = header_at R h headed in
      let bounds = bounded R h w headed in
      let most = limits.entries_most in
      let below = slice_get_within (entries_of R) i e st.entry in
      let same = both R w in
      let front : length (take (i + 1) (leaves_of R)) ≤ 65536 = omega (arith, length-take (i + 1) (leaves_of R), bounds.0, most, same) in
      let is = leaf_written R h i n body leaf b e fits st in (
        record {
          some = limits.name_some;
          most = limits.name_most;
          utf8 = name_utf8 spelled strict bytes texts array head.body h (fits head.place head.body head.there) head.reads;
          digest = length-sha256 h.key;
          number = omega (arith, below, bounds.0, most);
        },
        (omega (arith, below, bounds.0, most), omega (arith, below, bounds.0, most), path i (take (i + 1) (leaves_of R)) front, is.small, is.few),
      )

  own_reads : ReceiptIsStrict → BytesAreReceipt → (R : Log) (h : Header) (i n : ℕ) (body leaf : List ℕ) (b : BatchParts) (e : Entry) → AreBytes R → WellMade R → header_of R ≡ Some h → StandsAt R i n body leaf b e
      → form.receipt_of (strict_text (receipt_item (own_receipt R h i b e))) ≡ Some (own_receipt R h i b e)
  own_reads is_strict are R h i n body leaf b e fits w headed st =
      let r = own_receipt R h i b e in
      let in_limits = own_fits R h i n body leaf b e fits w headed st in
      let short : length b.signature ≤ longest_string = signature_short spelled strict bytes texts array body b (fits n body st.there) st.reads in
      let t = written (receipt_item r) (is_strict r in_limits short).0 in
      ap (λ (o : Option (List ℕ)). form.receipt_of (text_or o)) (text (receipt_item r) t.0 t.1) ∙ are r t.0 in_limits t.1

  own_shows : (R : Log) (h : Header) (i n : ℕ) (body leaf : List ℕ) (b : BatchParts) (e : Entry) → AreBytes R → WellMade R → WasAdmitted R i n body leaf h b e
      → (trust : Trust) → KnowsService trust h → ShowsEntry trust (own_receipt R h i b e) (take (i + 1) (leaves_of R)) i e.at e.rule e.statement.logged
  own_shows R h i n body leaf b e fits w was trust knows =
      let st = was.stands in
      let front = take (i + 1) (leaves_of R) in
      let is = leaf_written R h i n body leaf b e fits st in
      let long : length front ≡ i + 1 = front_long (leaves_of R) i (slice_get_within (leaves_of R) i leaf st.bytes) in
      record {
        size = sym long;
        proof = ap (λ k. Inclusion k i (path_of i front) e.at e.rule) (sym long);
        there = front_has (leaves_of R) i leaf st.bytes ∙ ap Some is.written;
        key = h.key;
        trusted = knows;
        signed = subst (λ k. hss_verifies h.key b.signature (signed_text h.name (sha256 h.key) k (mth front)) ≡ true) long was.signed;
      }

  own_receipt_of : ReceiptIsOfBatch → ReceiptIsStrict → BytesAreReceipt → (R : Log) (h : Header) (i n : ℕ) (body leaf : List ℕ) (b : BatchParts) (e : Entry) → AreBytes R → WellMade R → WasAdmitted R i n body leaf h b e
      → IsReceiptOf R h i e (strict_text (receipt_item (own_receipt R h i b e))) (own_receipt R h i b e)
  own_receipt_of of_batch is_strict are R h i n body leaf b e fits w was =
      record {
        answered = ap (option_map (λ (r : Receipt). strict_text (receipt_item r))) (of_batch R h i n body leaf b e w was.headed was.stands);
        reads = own_reads is_strict are R h i n body leaf b e fits w was.headed was.stands;
        entry = was.stands.entry;
        shows = own_shows R h i n body leaf b e fits w was;
      }

  pub entries_have_receipts : EntriesWereAdmitted → ReceiptIsOfBatch → ReceiptIsStrict → BytesAreReceipt → EntriesHaveReceipts
  entries_have_receipts admitted of_batch is_strict are R h i fits w headed below =
      let found = admitted R i w below in
      let same : found.3 ≡ h = some_is found.3 h (sym found.6.headed ∙ headed) in
      let was = subst (λ (k : Header). WasAdmitted R i found.0 found.1 found.2 k found.4 found.5) same found.6 in
      let e : Entry = found.5 in
      (e, strict_text (receipt_item (own_receipt R h i found.4 e)), own_receipt R h i found.4 e, own_receipt_of of_batch is_strict are R h i found.0 found.1 found.2 found.4 e fits w was)
