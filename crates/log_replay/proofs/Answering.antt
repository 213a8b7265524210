-- The Batches that the answers of a well made log name.
use Rattle.std.proofs.Common.{◌≡◌, ℕ, zero, suc, ◌+◌, ◌<◌, ◌≤◌, List, [], ◌∷◌, Bool, cond, ◌&&◌, nat_lt, Option, None, Some, refl, ap, ◌∙◌, arith, length, take}
use Rattle.std.specs.Prelude.{find, slice_get, nat_le}
use Rattle.std.specs.List.{last_or}
use Rattle.std.proofs.lemmas.Bool.{lt-ltb, le-ltb, le-leb, and_from}
use Rattle.std.proofs.lemmas.Option.{slice_get_within}
use Rattle.std.proofs.Math.Seq.{take-length}
use Rattle.merkle_tree.specs.Consistency.{proof_of}
use Rattle.receipts.specs.declared.receipt.Proof.TheVariants.{Consistency}
use Rattle.log_replay.specs.declared.parts.Header.{Header}
use Rattle.log_replay.specs.Records.{Log, Entry, Signed, header_of, leaves_of, entries_of, batches_of}
use Rattle.log_replay.specs.WellMade.{WellMade}
use Rattle.log_replay.specs.Answers.{receipt_with, inclusion_of, receipt_from, batch_of, consistency_from, last_batch, signed_at, EntryHasBatch, LastHasBatch, ReceiptIsOfBatch, ConsistencyIsOfLast}
use Rattle.log_replay.proofs.Growing.{entries_are_leaves}
use Rattle.log_replay.proofs.Homes.{entry_has_home, batches_are_entries}

-- the sizes of these are n + 1, n + 2 and so on
abbrev AreCounted : ℕ → List Signed → Type 0
AreCounted n [] = Unit {0}
AreCounted n (b ∷ bs) = (b.size ≡ n + 1) × AreCounted (n + 1) bs

counted : (n : ℕ) (bs : List Signed) → ((i : ℕ) → i < length bs → (b : Signed) × (slice_get bs i ≡ Some b) × (b.size ≡ n + i + 1)) → AreCounted n bs
counted n [] each = tt
counted n (b ∷ bs) each =
    let first = each 0 (omega arith) in
    let same : b ≡ first.0 = cc (first.1) in
    let size = first.2 in (
      ap (λ (x : Signed). x.size) same ∙ omega (arith, size),
      counted (n + 1) bs (λ i below. (let next = each (suc i) (omega (arith, below)) in (next.0, next.1, omega (arith, next.2)))),
    )

first_above : (n i : ℕ) (bs : List Signed) → AreCounted n bs → find (λ (b : Signed). nat_lt (n + i) b.size) bs ≡ slice_get bs i
first_above n i [] all = refl
first_above n zero (b ∷ bs) all =
    let size = all.0 in
    ap (λ (t : Bool). cond t (Some b) (find (λ (x : Signed). nat_lt (n + zero) x.size) bs)) (lt-ltb (n + zero) b.size (omega (arith, size)))
first_above n (suc i) (b ∷ bs) all =
    let size = all.0 in
    let same : n + suc i ≡ n + 1 + i = omega arith in
    ap (λ (t : Bool). cond t (Some b) (find (λ (x : Signed). nat_lt (n + suc i) x.size) bs)) (le-ltb (n + suc i) b.size (omega (arith, size)))
    ∙ ap (λ k. find (λ (x : Signed). nat_lt k x.size) bs) same ∙ first_above (n + 1) i bs all.1

last_is : (o : Option Signed) (bs : List Signed) (i : ℕ) → i + 1 ≡ length bs → last_or o bs ≡ slice_get bs i
last_is o [] i e = absurd (omega (arith, e))
last_is o (b ∷ []) zero e = refl
last_is o (b ∷ []) (suc i) e = absurd (omega (arith, e))
last_is o (b ∷ c ∷ bs) zero e = absurd (omega (arith, e))
last_is o (b ∷ c ∷ bs) (suc i) e = last_is (Some b) (c ∷ bs) i (omega (arith, e))

all_counted : (R : Log) → WellMade R → AreCounted 0 (batches_of R)
all_counted R w =
    let same = batches_are_entries R w in
    let count = same.0 in
    counted 0 (batches_of R) (λ i below. (let home = entry_has_home R i w (omega (arith, below, count)) in
    let b = home.3 in
    (record { size = i + 1; index = b.index; signature = b.signature }, home.5.batch, omega arith)))

pub entry_has_batch : EntryHasBatch
entry_has_batch R i w below =
    let zero : i ≡ 0 + i = omega arith in
    ap (λ k. find (λ (b : Signed). nat_lt k b.size) (batches_of R)) zero ∙ first_above 0 i (batches_of R) (all_counted R w)

pub last_has_batch : LastHasBatch
last_has_batch R i w e =
    let same = batches_are_entries R w in
    let count = same.0 in
    last_is None (batches_of R) i (omega (arith, e, count))

-- ---- the receipts

receipt_by : (leaves : List (List ℕ)) (i : ℕ) (h : Header) (e : Entry) (s : Signed) (a : Option Header) (b : Option Entry) (c : Option Signed) → a ≡ Some h → b ≡ Some e → c ≡ Some s
    → receipt_from leaves i a b c ≡ Some (receipt_with h s (inclusion_of leaves i e s))
receipt_by leaves i h e s a b c is_h is_e is_s = (λ t. receipt_from leaves i (is_h t) (is_e t) (is_s t))

pub receipt_is_of_batch : ReceiptIsOfBatch
receipt_is_of_batch R h i n body leaf b e w head at =
    let below = slice_get_within (entries_of R) i e at.entry in
    receipt_by (leaves_of R) i h e (signed_at i b) (header_of R) (slice_get (entries_of R) i) (batch_of R i) head at.entry (entry_has_batch R i w below ∙ at.batch)

consistency_by : (leaves : List (List ℕ)) (old : ℕ) (h : Header) (s : Signed) (a : Option Header) (c : Option Signed) → a ≡ Some h → c ≡ Some s → 1 ≤ old → old ≤ s.size
    → consistency_from leaves old a c ≡ Some (receipt_with h s (Consistency old s.size (proof_of old (take s.size leaves))))
consistency_by leaves old h s a c is_h is_s some within =
    (λ t. consistency_from leaves old (is_h t) (is_s t))
    ∙ ap (λ (t : Bool). cond t (Some (receipt_with h s (Consistency old s.size (proof_of old (take s.size leaves))))) None)
    (and_from (nat_lt 0 old) (nat_le old s.size) (lt-ltb 0 old (omega (arith, some))) (le-leb old s.size within))

pub consistency_is_of_last : ConsistencyIsOfLast
consistency_is_of_last R h i n old body leaf b e w head at last some within =
    let same : i + 1 ≡ length (leaves_of R) = last ∙ entries_are_leaves R w in
    consistency_by (leaves_of R) old h (signed_at i b) (header_of R) (last_batch R) head (last_has_batch R i w last ∙ at.batch) some within
    ∙ ap (λ (xs : List (List ℕ)). Some (receipt_with h (signed_at i b) (Consistency old (i + 1) (proof_of old xs)))) (ap (λ k. take k (leaves_of R)) same ∙ take-length (leaves_of R))
