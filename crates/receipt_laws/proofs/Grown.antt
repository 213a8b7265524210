-- A log's consistency receipt is one within the limits, shows how the log grew, and is accepted.
use Rattle.std.proofs.Common.{◌≡◌, ℕ, ◌+◌, ◌-◌, ◌<◌, ◌≤◌, true, List, length, take, Option, Some, sym, ap, ◌∙◌, subst, arith}
use Rattle.std.specs.Prelude.{option_map}
use Rattle.std.proofs.lemmas.List.{take_all}
use Rattle.sha2.specs.Sha256.{sha256}
use Rattle.sha2.proofs.Facts256.{length-sha256}
use Rattle.cbor_core.specs.Limits.{longest_string}
use Rattle.cbor_core.specs.Encoding.{text_or}
use Rattle.cbor_core.specs.Exact.{strict_text, SpelledIsText}
use Rattle.cbor_core.specs.Decoding.{ItemIsSpelled}
use Rattle.cbor_core.specs.Fitting.{SpelledIsStrict, StrictIsSpelled, BytesFit, TextFits, ArrayFits}
use Rattle.hss_keys.specs.Functions.{hss_verifies}
use Rattle.merkle_tree.specs.Mth.{mth}
use Rattle.merkle_tree.specs.Consistency.{proof_of}
use Rattle.receipts.specs.declared.receipt.Receipt.{Receipt}
use Rattle.receipts.specs.declared.receipt.Proof.TheVariants.{Consistency}
use Rattle.receipts.specs.Form as form
use Rattle.receipts.specs.Written.{receipt_item}
use Rattle.receipts.specs.Signed.{signed_text}
use Rattle.receipts.specs.Fits.{IsPath, Fits}
use Rattle.receipts.specs.Laws.{ReceiptIsStrict, BytesAreReceipt}
use Rattle.log_replay.specs.declared.parts.Header.{Header}
use Rattle.log_replay.specs.declared.parts.BatchParts.{BatchParts}
use Rattle.log_replay.specs.Records.{Log, Entry, header_of, leaves_of, entries_of}
use Rattle.log_replay.specs.WellMade.{WellMade, text_signed}
use Rattle.log_replay.specs.Growth.{HeaderIsWithin, IsBounded, EntriesAreLeaves, StandsAt}
use Rattle.log_replay.specs.Answers.{receipt_with, signed_at, ConsistencyIsOfLast}
use Rattle.relying_party.specs.declared.trust.Trust.{Trust}
use Rattle.relying_party.specs.declared.answers.ConsistencyResult.TheVariants.{Consistent}
use Rattle.relying_party.specs.Converse.{ShowsGrowth, GrownIsConsistent}
use Rattle.relying_party.specs.Growth.{consistency_result}
use Rattle.receipt_laws.specs.Standing.{WasAdmitted, EntriesWereAdmitted}
use Rattle.receipt_laws.specs.Own.{AreBytes, KnowsService}
use Rattle.receipt_laws.specs.Growing.{IsConsistencyOf, SizesHaveConsistency, OwnConsistencyIsAccepted}
use Rattle.receipt_laws.proofs.Lists.{some_is}
use Rattle.receipt_laws.proofs.Own.{header_at}
use Rattle.receipt_laws.proofs.RecordBytes.{signature_short, name_utf8}

abbrev grown_receipt : (R : Log) (h : Header) (i : ℕ) (b : BatchParts) (old : ℕ) → Receipt
grown_receipt R h i b old = receipt_with h (signed_at i b) (Consistency old (i + 1) (proof_of old (leaves_of R)))

-- the last entry of a log, and an older size
record IsLast (R : Log) (i old : ℕ) : Type 0 where
  pub last : i + 1 ≡ length (entries_of R)
  pub some : 0 < old
  pub within : old ≤ i + 1

module _ (spelled : ItemIsSpelled) (text : SpelledIsText) (strict : SpelledIsStrict) (written : StrictIsSpelled) (bytes : BytesFit) (texts : TextFits) (array : ArrayFits)
    (path : (m : ℕ) (entries : List (List ℕ)) → length entries ≤ 65536 → 0 < m → m ≤ length entries → IsPath (proof_of m entries)) (within : HeaderIsWithin) (bounded : IsBounded) (both : EntriesAreLeaves) where
  grown_fits : (R : Log) (h : Header) (i n old : ℕ) (body leaf : List ℕ) (b : BatchParts) (e : Entry) → AreBytes R → WellMade R → header_of R ≡ Some h → StandsAt R i n body leaf b e → IsLast R i old → Fits (grown_receipt R h i b old)
  grown_fits R h i n old body leaf b e fits w headed st last =
      let limits = within R h w headed in
      let head = header_at R h headed in
      let most = limits.entries_most in
      let few : length (entries_of R) ≤ 65536 = omega (arith, (bounded R h w headed).0, most) in
      let same = both R w in (
        record {
          some = limits.name_some;
          most = limits.name_most;
          utf8 = name_utf8 spelled strict bytes texts array head.body h (fits head.place head.body head.there) head.reads;
          digest = length-sha256 h.key;
          number = omega (arith, few, last.last);
        },
        (omega (arith, few, last.last, last.within), omega (arith, few, last.last), path old (leaves_of R) (omega (arith, few, same)) last.some (omega (arith, same, last.last, last.within))),
      )

  grown_reads : ReceiptIsStrict → BytesAreReceipt → (R : Log) (h : Header) (i n old : ℕ) (body leaf : List ℕ) (b : BatchParts) (e : Entry) → AreBytes R → WellMade R → header_of R ≡ Some h → StandsAt R i n body leaf b e → IsLast R i old
      → form.receipt_of (strict_text (receipt_item (grown_receipt R h i b old))) ≡ Some (grown_receipt R h i b old)
  grown_reads is_strict are R h i n old body leaf b e fits w headed st last =
      let r = grown_receipt R h i b old in
      let in_limits = grown_fits R h i n old body leaf b e fits w headed st last in
      let short : length b.signature ≤ longest_string = signature_short spelled strict bytes texts array body b (fits n body st.there) st.reads in
      let t = written (receipt_item r) (is_strict r in_limits short).0 in
      ap (λ (o : Option (List ℕ)). form.receipt_of (text_or o)) (text (receipt_item r) t.0 t.1) ∙ are r t.0 in_limits t.1

  grown_shows : (R : Log) (h : Header) (i n old : ℕ) (body leaf : List ℕ) (b : BatchParts) (e : Entry) → WellMade R → WasAdmitted R i n body leaf h b e → IsLast R i old
      → (trust : Trust) → KnowsService trust h → ShowsGrowth trust (grown_receipt R h i b old) (leaves_of R) old
  grown_shows R h i n old body leaf b e w was last trust knows =
      let long : i + 1 ≡ length (leaves_of R) = last.last ∙ both R w in
      let all : take (i + 1) (leaves_of R) ≡ leaves_of R = take_all (i + 1) (leaves_of R) (omega (arith, long)) in
      let signed : hss_verifies h.key b.signature (text_signed h (leaves_of R)) ≡ true = subst (λ (xs : List (List ℕ)). hss_verifies h.key b.signature (text_signed h xs) ≡ true) all was.signed in
      record {
        size = long;
        proof = ap (λ k. Consistency old k (proof_of old (leaves_of R))) long;
        some = last.some;
        within = omega (arith, long, last.within);
        key = h.key;
        trusted = knows;
        signed = subst (λ k. hss_verifies h.key b.signature (signed_text h.name (sha256 h.key) k (mth (leaves_of R))) ≡ true) (sym long) signed;
      }

  grown_of : ConsistencyIsOfLast → ReceiptIsStrict → BytesAreReceipt → (R : Log) (h : Header) (i n old : ℕ) (body leaf : List ℕ) (b : BatchParts) (e : Entry) → AreBytes R → WellMade R → WasAdmitted R i n body leaf h b e → IsLast R i old
      → IsConsistencyOf R h old (strict_text (receipt_item (grown_receipt R h i b old))) (grown_receipt R h i b old)
  grown_of of_last is_strict are R h i n old body leaf b e fits w was last =
      record {
        answered = ap (option_map (λ (r : Receipt). strict_text (receipt_item r))) (of_last R h i n old body leaf b e w was.headed was.stands last.last last.some last.within);
        reads = grown_reads is_strict are R h i n old body leaf b e fits w was.headed was.stands last;
        shows = grown_shows R h i n old body leaf b e w was last;
      }

  pub sizes_have_consistency : EntriesWereAdmitted → ConsistencyIsOfLast → ReceiptIsStrict → BytesAreReceipt → SizesHaveConsistency
  sizes_have_consistency admitted of_last is_strict are R h old fits w headed some most =
      let i : ℕ = length (entries_of R) - 1 in
      let last : IsLast R i old = record { last = omega (arith, some, most); some = some; within = omega (arith, some, most) } in
      let found = admitted R i w (omega (arith, some, most)) in
      let same : found.3 ≡ h = some_is found.3 h (sym found.6.headed ∙ headed) in
      let was = subst (λ (k : Header). WasAdmitted R i found.0 found.1 found.2 k found.4 found.5) same found.6 in
      (strict_text (receipt_item (grown_receipt R h i found.4 old)), grown_receipt R h i found.4 old, grown_of of_last is_strict are R h i found.0 old found.1 found.2 found.4 found.5 fits w was last)

pub own_consistency : GrownIsConsistent → EntriesAreLeaves → SizesHaveConsistency → OwnConsistencyIsAccepted
own_consistency grown both have R h old receipt trust fits w headed some most answered knows =
    let found = have R h old fits w headed some most in
    let is = found.2 in
    let same_receipt : found.0 ≡ receipt = some_is found.0 receipt (sym is.answered ∙ answered) in
    let reads = ap form.receipt_of (sym same_receipt) ∙ is.reads in
    let result : consistency_result trust receipt old (mth (take old (leaves_of R))) ≡ Consistent (length (leaves_of R)) (mth (leaves_of R)) = grown trust receipt found.1 (leaves_of R) old reads (is.shows trust knows) in
    ap (λ k. Consistent k (mth (leaves_of R))) (both R w) ∙ sym result
