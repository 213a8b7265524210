-- What a log says with one record more.
use Rattle.std.proofs.Common.{◌≡◌, ℕ, ◌+◌, List, [], ◌∷◌, ◌++◌, Option, Some, sym, ap, ◌∙◌, append-nil, append_assoc, length, arith}
use Rattle.std.specs.Prelude.{filter_map, flat_map, fold, map}
use Rattle.std.specs.List.{cons_option}
use Rattle.std.proofs.lemmas.List.Sums.{fold-append}
use Rattle.std.proofs.lemmas.List.Elements.{filter_map-append}
use Rattle.std.proofs.lemmas.Grind.{flat_map-append}
use Rattle.policy_rules.specs.Documents.{bootstrap_of}
use Rattle.log_replay.specs.Records.{Log, Record, Entry, header_record, reserve_record, batch_record, record_of, records_of, header_of, header_first, leaves_of, entries_in, entries_of, entry_of, reserved_of, reserved_after, used_of, used_after, entries_at, homes_from}
use Rattle.log_replay.specs.Judging.{in_force, policy_after}
use Rattle.log_replay.specs.declared.parts.Header.{Header}
use Rattle.log_replay.specs.declared.parts.BatchParts.{BatchParts}

pub in_force-more : (h : Header) (E : List Entry) (e : Entry) → in_force h (E ++ e ∷ []) ≡ policy_after (in_force h E) e
in_force-more h E e = fold-append policy_after (bootstrap_of h.governor) E (e ∷ [])

pub records-more : (R : Log) (body : List ℕ) (r : Record) → record_of body ≡ Some r → records_of (R ++ body ∷ []) ≡ records_of R ++ r ∷ []
records-more R body r e = filter_map-append record_of R (body ∷ []) ∙ ap (λ o. records_of R ++ cons_option o []) e

pub leaves-more : (R : Log) (body : List ℕ) (r : Record) → record_of body ≡ Some r → leaves_of (R ++ body ∷ []) ≡ leaves_of R ++ entries_in r
leaves-more R body r e =
    ap (flat_map entries_in) (records-more R body r e) ∙ flat_map-append entries_in (records_of R) (r ∷ [])
    ∙ ap (λ xs. leaves_of R ++ xs) (append-nil (entries_in r))

pub reserved-more : (R : Log) (body : List ℕ) (r : Record) → record_of body ≡ Some r → reserved_of (R ++ body ∷ []) ≡ reserved_after (reserved_of R) r
reserved-more R body r e = ap (fold reserved_after 0) (records-more R body r e) ∙ fold-append reserved_after 0 (records_of R) (r ∷ [])

pub used-more : (R : Log) (body : List ℕ) (r : Record) → record_of body ≡ Some r → used_of (R ++ body ∷ []) ≡ used_after (used_of R) r
used-more R body r e = ap (fold used_after 0) (records-more R body r e) ∙ fold-append used_after 0 (records_of R) (r ∷ [])

-- A Reserve leaves the entries.
pub entries-reserve : (R : Log) (body : List ℕ) (upto : ℕ) → record_of body ≡ Some (reserve_record upto) → entries_of (R ++ body ∷ []) ≡ entries_of R
entries-reserve R body upto e = ap (filter_map entry_of) (leaves-more R body (reserve_record upto) e ∙ append-nil (leaves_of R))

-- A Batch of one entry adds it.
pub entries-batch : (R : Log) (body leaf : List ℕ) (b : BatchParts) (e : Entry) → record_of body ≡ Some (batch_record b) → b.entries ≡ leaf ∷ [] → entry_of leaf ≡ Some e → entries_of (R ++ body ∷ []) ≡ entries_of R ++ e ∷ []
entries-batch R body leaf b e reads one is =
    ap (filter_map entry_of) (leaves-more R body (batch_record b) reads ∙ ap (λ xs. leaves_of R ++ xs) one)
    ∙ filter_map-append entry_of (leaves_of R) (leaf ∷ []) ∙ ap (λ o. entries_of R ++ cons_option o []) is

first_stays : (rs ss : List Record) (h : Header) → header_first rs ≡ Some h → header_first (rs ++ ss) ≡ Some h
first_stays [] ss h e = cc
first_stays (header_record g ∷ rs) ss h e = e
first_stays (reserve_record n ∷ rs) ss h e = cc
first_stays (batch_record b ∷ rs) ss h e = cc

pub header_more : (R xs : Log) (h : Header) → header_of R ≡ Some h → header_of (R ++ xs) ≡ Some h
header_more R xs h e = ap header_first (filter_map-append record_of R xs) ∙ first_stays (records_of R) (records_of xs) h e

homes_in : ℕ → Option Record → List ℕ
homes_in n o = map (λ leaf. n) (entries_at o)

homes_more : (n m : ℕ) (R : Log) (body : List ℕ) → m ≡ n + length R → homes_from n (R ++ body ∷ []) ≡ homes_from n R ++ homes_in m (record_of body)
unfolding homes_in
homes_more n m [] body e =
    let same : m ≡ n = omega arith in
    append-nil (homes_in n (record_of body)) ∙ ap (λ k. homes_in k (record_of body)) (sym same)
homes_more n m (b ∷ R) body e =
    let next : m ≡ n + 1 + length R = omega arith in
    ap (λ xs. homes_in n (record_of b) ++ xs) (homes_more (n + 1) m R body next) ∙ sym (append_assoc (homes_in n (record_of b)) (homes_from (n + 1) R) (homes_in m (record_of body)))

pub homes-more : (R : Log) (body : List ℕ) (o : Option Record) → record_of body ≡ o → homes_from 0 (R ++ body ∷ []) ≡ homes_from 0 R ++ map (λ leaf. length R) (entries_at o)
unfolding homes_in
homes-more R body o e = homes_more 0 (length R) R body (omega arith) ∙ ap (λ r. homes_from 0 R ++ homes_in (length R) r) e
