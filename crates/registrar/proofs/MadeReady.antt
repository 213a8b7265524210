-- What is made ready is what the log takes.
use Rattle.std.proofs.Common.{◌≡◌, ℕ, ◌+◌, ◌<◌, ◌≤◌, true, List, [], ◌∷◌, ◌++◌, length, take, Option, None, Some, refl, sym, ap, ◌∙◌, arith}
use Rattle.std.specs.Prelude.{option_map, slice_get, IfSome}
use Rattle.std.proofs.lemmas.Bool.{eqb-false, ltb-false}
use Rattle.std.proofs.lemmas.List.{length_push, take_all}
use Rattle.std.proofs.Math.Seq.{get_or-append_seam}
use Rattle.std.proofs.lemmas.Option.{slice_get-get_or}
use Rattle.std.proofs.lemmas.List.{length-append}
use Rattle.lms_tree.specs.declared.types.Level.{Level}
use Rattle.hss_keys.specs.Levels.{capacity, IsLevels}
use Rattle.cbor_core.specs.Exact.{strict_text}
use Rattle.hss_keys.specs.Functions.{hss_verifies, flat_index}
use Rattle.merkle_tree.specs.Paths.{path_of}
use Rattle.receipts.specs.declared.receipt.Proof.TheVariants.{Inclusion}
use Rattle.receipts.specs.declared.receipt.Receipt.{Receipt}
use Rattle.receipts.specs.Written.{receipt_item}
use Rattle.statement.specs.Said.{Said}
use Rattle.log_replay.specs.declared.parts.Header.{Header}
use Rattle.log_replay.specs.declared.parts.BatchParts.{BatchParts}
use Rattle.log_replay.specs.declared.words.Judgement.{Judgement}
use Rattle.log_replay.specs.Records.{Entry, Signed, record_of, batch_record, header_of, entries_of, leaves_of, batches_of, reserved_of, used_of, entry_of, logged_bytes}
use Rattle.log_replay.specs.Judging.{judge, moment_after}
use Rattle.log_replay.specs.Steps.{batch_with, entry_text}
use Rattle.log_replay.specs.WellMade.{WellMade, text_signed, most_logged_bytes}
use Rattle.log_replay.specs.Laws.{OneMore}
use Rattle.log_replay.specs.Growth.{HeaderIsWithin, IsAdmissible, AdmissibleFits, BatchAdds, HeaderStays, EntryHasHome, BatchesAreEntries, EntriesAreLeaves, IsBounded}
use Rattle.log_replay.specs.Answers.{receipt_with, receipt_of, signed_at, ReceiptIsOfBatch}
use Rattle.registrar.specs.declared.writing.Needed.{Needed}
use Rattle.registrar.specs.declared.writing.Batch.{Batch}
use Rattle.registrar.specs.Turns.{Standing, ready_log, bytes_with}
use Rattle.registrar.specs.Writing.{HasRoomFor}
use Rattle.registrar.specs.Deciding.{IsReady}
use Rattle.registrar.specs.Ready.{IsReadied, IsNeeded, IsSealed, IsShort}
use Rattle.registrar.proofs.Ruling.{GoesSays}

last_at : {A : Type 0} (xs : List A) (x : A) (i : ℕ) → i ≡ length xs → slice_get (xs ++ x ∷ []) i ≡ Some x
last_at xs x i e =
    ap (λ n. slice_get (xs ++ x ∷ []) n) e
    ∙ slice_get-get_or (xs ++ x ∷ []) (length xs) x (omega (arith, length-append xs (x ∷ [])))
    ∙ ap Some (get_or-append_seam xs x [] x)

same_some : {A : Type 0} (x y : A) → ◌≡◌ {A = Option A} (Some x) (Some y) → x ≡ y
same_some x y e = cc

abbrev parts : ℕ → List ℕ → List ℕ → BatchParts
parts index leaf sig = record { entries = leaf ∷ []; index = index; signature = sig }

abbrev entry_with : ℕ → ℕ → Said → Entry
entry_with at rule s = record { at = at; rule = rule; statement = s }

-- the Batch fails no rule behind the log that is ready
pub batch_fits : AdmissibleFits → OneMore → IsBounded → (S : Standing) (h : Header) (s : Said) (m at rule : ℕ) (sig body : List ℕ) → IsReadied S h → WellMade S.log → header_of S.log ≡ Some h
    → GoesSays S h s (judge h (entries_of S.log) s m) rule → at ≡ moment_after (entries_of S.log) m → record_of body ≡ Some (batch_record (parts S.next (entry_text at rule s) sig))
    → entry_of (entry_text at rule s) ≡ Some (entry_with at rule s) → flat_index h.levels sig ≡ Some S.next → used_of S.log ≤ S.next
    → hss_verifies h.key sig (text_signed h (leaves_of S.log ++ entry_text at rule s ∷ [])) ≡ true → WellMade (ready_log S ++ body ∷ [])
batch_fits fits more bounded S h s m at rule sig body ready well headed says is_at reads entry indexed above signed =
    let R = ready_log S in
    let bounds = bounded S.log h well headed in
    let entries = ready.entries in
    let used = ready.used in
    let full = eqb-false (length (entries_of S.log)) h.max_entries says.room in
    let bytes = ltb-false most_logged_bytes (bytes_with S s) says.bytes in
    let ahead = ready.ahead in
    let within = bounds.0 in
    let admissible : IsAdmissible R h s m rule S.next (entry_text at rule s) sig body = record {
      headed = ready.header;
      reads = reads;
      entry = entry ∙ ap (λ (t : ℕ). Some (entry_with t rule s)) (is_at ∙ sym (ap (λ (E : List Entry). moment_after E m) entries));
      judged = ap (λ (E : List Entry). judge h E s m) entries ∙ says.judged;
      room = omega (arith, ap length entries, within, full);
      bytes = omega (arith, ap logged_bytes entries, bytes);
      indexed = indexed;
      reserved = omega (arith, ahead);
      above = omega (arith, used, above);
      signed = ap (λ (L : List (List ℕ)). hss_verifies h.key sig (text_signed h (L ++ entry_text at rule s ∷ []))) ready.leaves ∙ signed;
    } in
    more R body ready.well (fits R h s m rule S.next (entry_text at rule s) sig body admissible)

-- and its entry has this receipt in the log with it
pub receipt_made : BatchAdds → HeaderStays → EntryHasHome → BatchesAreEntries → EntriesAreLeaves → ReceiptIsOfBatch → (S : Standing) (h : Header) (s : Said) (at rule : ℕ) (sig body receipt : List ℕ) → IsReadied S h → WellMade S.log
    → WellMade (ready_log S ++ body ∷ []) → record_of body ≡ Some (batch_record (parts S.next (entry_text at rule s) sig))
    → entry_of (entry_text at rule s) ≡ Some (entry_with at rule s)
    → receipt ≡ strict_text (receipt_item (receipt_with h (record { size = length (leaves_of S.log) + 1; index = S.next; signature = sig })
    (Inclusion (length (leaves_of S.log) + 1) (length (leaves_of S.log)) (path_of (length (leaves_of S.log)) (leaves_of S.log ++ entry_text at rule s ∷ [])) at rule)))
    → receipt_of (ready_log S ++ body ∷ []) (length (entries_of S.log)) ≡ Some receipt
receipt_made adds stays homes batches leaves_are of_batch S h s at rule sig body receipt ready well whole reads entry receipt_is =
    let R = ready_log S in
    let T = R ++ body ∷ [] in
    let leaf = entry_text at rule s in
    let n = length (entries_of S.log) in
    let k = length (leaves_of S.log) in
    let nk : n ≡ k = leaves_are S.log well in
    let added = adds R body leaf (parts S.next leaf sig) (entry_with at rule s) reads refl entry in
    let entries : entries_of T ≡ entries_of R ++ entry_with at rule s ∷ [] = added.entries in
    let count : n ≡ length (entries_of R) = sym (ap length ready.entries) in
    let home = homes T n whole (omega (arith, ap length entries, length_push (entries_of R) (entry_with at rule s), count)) in
    let b = home.3 in
    let e = home.4 in
    let stands = home.5 in
    let same_entry : e ≡ entry_with at rule s = same_some e (entry_with at rule s) (sym stands.entry ∙ ap (λ (E : List Entry). slice_get E n) entries ∙ last_at (entries_of R) (entry_with at rule s) n count) in
    let new_batch : Signed = record { size = length (leaves_of R) + 1; index = S.next; signature = sig } in
    let many : n ≡ length (batches_of R) = count ∙ sym (batches R ready.well).0 in
    let same_batch : signed_at n b ≡ new_batch = same_some (signed_at n b) new_batch (sym stands.batch ∙ ap (λ (B : List Signed). slice_get B n) added.batches ∙ last_at (batches_of R) new_batch n many) in
    let all : leaves_of T ≡ leaves_of S.log ++ leaf ∷ [] = added.leaves ∙ ap (λ (L : List (List ℕ)). L ++ leaf ∷ []) ready.leaves in
    let whole_list : take (n + 1) (leaves_of T) ≡ leaves_of S.log ++ leaf ∷ [] = take_all (n + 1) (leaves_of T) (omega (arith, ap length all, length_push (leaves_of S.log) leaf, nk)) ∙ all in
    let found = of_batch T h n home.0 home.1 home.2 b e whole (stays R (body ∷ []) h ready.header) stands in
    let as_made : receipt_with h (signed_at n b) (Inclusion (n + 1) n (path_of n (take (n + 1) (leaves_of T))) e.at e.rule)
    ≡ receipt_with h (record { size = k + 1; index = S.next; signature = sig }) (Inclusion (k + 1) k (path_of k (leaves_of S.log ++ leaf ∷ [])) at rule) =
    ap (λ (x : Signed). receipt_with h x (Inclusion (n + 1) n (path_of n (take (n + 1) (leaves_of T))) e.at e.rule)) same_batch
    ∙ ap (λ (x : Entry). receipt_with h new_batch (Inclusion (n + 1) n (path_of n (take (n + 1) (leaves_of T))) x.at x.rule)) same_entry
    ∙ ap (λ (L : List (List ℕ)). receipt_with h new_batch (Inclusion (n + 1) n (path_of n L) at rule)) whole_list
    ∙ ap (λ (j : ℕ). receipt_with h new_batch (Inclusion (j + 1) j (path_of j (leaves_of S.log ++ leaf ∷ [])) at rule)) nk
    ∙ ap (λ (j : ℕ). receipt_with h (record { size = j + 1; index = S.next; signature = sig }) (Inclusion (k + 1) k (path_of k (leaves_of S.log ++ leaf ∷ [])) at rule)) (ap length ready.leaves) in
    ap (λ (o : Option Receipt). option_map (λ r. strict_text (receipt_item r)) o) (found ∙ ap Some as_made) ∙ ap Some (sym receipt_is)

room_for : (room : ℕ) (body : List ℕ) → IsShort body → length body ≤ room → HasRoomFor room body
room_for room body short within = record { some = short.some; short = short.short; within = within }

needed_room : (room : ℕ) (needed : Option Needed) → IfSome needed (λ n. IsShort n.body.items) → IfSome needed (λ n. length n.body.items ≤ room) → IfSome needed (λ n. HasRoomFor room n.body.items)
needed_room room None short within = tt
needed_room room (Some n) short within = room_for room n.body.items short within

pub record ReadyLaws : Type 0 where
  pub fits : AdmissibleFits
  pub more : OneMore
  pub bounded : IsBounded
  pub adds : BatchAdds
  pub stays : HeaderStays
  pub homes : EntryHasHome
  pub batches : BatchesAreEntries
  pub leaves : EntriesAreLeaves
  pub receipts : ReceiptIsOfBatch

pub is_ready : ReadyLaws → (S : Standing) (h : Header) (s : Said) (m rule at room : ℕ) (needed : Option Needed) (batch : Batch) (receipt : List ℕ) → IsNeeded S h needed → IsSealed S.log h s at rule S.next batch receipt
    → WellMade S.log → header_of S.log ≡ Some h → GoesSays S h s (judge h (entries_of S.log) s m) rule → at ≡ moment_after (entries_of S.log) m → entry_of (entry_text at rule s) ≡ Some (entry_with at rule s)
    → used_of S.log ≤ S.next → S.next < 1073741824 → IfSome needed (λ n. length n.body.items ≤ room) → length batch.body.items ≤ room → IsReady S s m rule room needed batch receipt
is_ready laws S h s m rule at room needed batch receipt wants seals well headed says is_at entry above small needed_within within =
    let sig = batch.signature.items in
    let body = batch.body.items in
    let reads : record_of body ≡ Some (batch_record (parts S.next (entry_text at rule s) sig)) =
    seals.reads ∙ ap (λ (a : ℕ). Some (batch_with a batch.rule s batch.index sig)) seals.at_is ∙ ap (λ (r : ℕ). Some (batch_with at r s batch.index sig)) seals.rule_is ∙ ap (λ (i : ℕ). Some (batch_with at rule s i sig)) seals.index_is in
    let whole = batch_fits laws.fits laws.more laws.bounded S h s m at rule sig body wants.readied well headed says is_at reads entry seals.indexed above seals.signed in
    record {
      needed_is = wants.is;
      needed_reads = wants.reads;
      needed_fits = needed_room room needed wants.short needed_within;
      at_is = seals.at_is ∙ is_at;
      rule_is = seals.rule_is;
      index_is = seals.index_is;
      batch_reads = seals.reads;
      batch_fits = room_for room body seals.short within;
      ready = wants.readied.well;
      well = whole;
      ahead = wants.readied.ahead;
      small = small;
      receipt_is = receipt_made laws.adds laws.stays laws.homes laws.batches laws.leaves laws.receipts S h s at rule sig body receipt wants.readied well whole reads entry seals.receipt_is;
    }

pub small_next : IsBounded → HeaderIsWithin → ((levels : List Level) → IsLevels levels → capacity levels ≤ 1073741824) → (S : Standing) (h : Header) (s : Said) (j : Judgement) (rule : ℕ) → WellMade S.log → header_of S.log ≡ Some h
    → GoesSays S h s j rule → S.next ≤ reserved_of S.log → S.next < 1073741824
small_next bounded within most S h s j rule well headed says ahead =
    let bounds = bounded S.log h well headed in
    let reserved = bounds.1 in
    let differ = eqb-false S.next (capacity h.levels) says.left in
    let high = most h.levels (within S.log h well headed).levels in
    omega (arith, reserved, differ, high, ahead)

pub few_entries : IsBounded → HeaderIsWithin → (S : Standing) (h : Header) (s : Said) (j : Judgement) (rule : ℕ) → WellMade S.log → header_of S.log ≡ Some h → GoesSays S h s j rule → length (entries_of S.log) < 65536
few_entries bounded within S h s j rule well headed says =
    let bounds = bounded S.log h well headed in
    let entries = bounds.0 in
    let differ = eqb-false (length (entries_of S.log)) h.max_entries says.room in
    let most = (within S.log h well headed).entries_most in
    omega (arith, entries, differ, most)
