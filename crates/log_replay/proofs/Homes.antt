-- Where the entries of a well made log stand.
use Rattle.std.proofs.Common.{◌≡◌, ℕ, ◌+◌, ◌<◌, List, [], ◌∷◌, ◌++◌, Bool, cond, None, Some, refl, sym, ap, ◌∙◌, subst, arith, length, length-append, append-nil, inl, inr}
use Rattle.std.specs.Prelude.{flat_map, map, slice_get}
use Rattle.std.proofs.Math.Seq.{get_or-append_seam}
use Rattle.std.proofs.lemmas.Bool.{cases_lt, eq-eqb}
use Rattle.std.proofs.lemmas.List.{get_or_append_left}
use Rattle.std.proofs.lemmas.Option.{slice_get_within, get_or_from_slice_get, slice_get-get_or}
use Rattle.statement.specs.Said.{Said, logged_statement}
use Rattle.log_replay.specs.declared.parts.BatchParts.{BatchParts}
use Rattle.log_replay.specs.declared.parts.EntryParts.{EntryParts}
use Rattle.log_replay.specs.Records.{Log, Record, Entry, Signed, header_record, reserve_record, batch_record, record_of, records_of, one_entry, batch_in, leaves_of, entries_in, entries_of, entry_of, entry_with, parts_of, homes_of, signed_from, batches_of}
use Rattle.log_replay.specs.WellMade.{WellMade, failing_of}
use Rattle.log_replay.specs.Growth.{StandsAt, EntryHasHome, BatchesAreEntries, ReserveAdds, BatchAdds}
use Rattle.log_replay.proofs.Growing.{Adds, grow, grows, records-more, leaves-more, reserved-more, entries-kept, entries-added}
use Rattle.log_replay.proofs.LoggedAgain.{from_then, from_map, logged_says}
use Rattle.log_replay.proofs.More.{homes-more, used-more}

-- ---- lists with more behind them

kept_at : {A : Type 0} (xs ys : List A) (i : ℕ) (x : A) → slice_get xs i ≡ Some x → slice_get (xs ++ ys) i ≡ Some x
kept_at xs ys i x e =
    let below = slice_get_within xs i x e in
    slice_get-get_or (xs ++ ys) i x (omega (arith, below, length-append xs ys))
    ∙ ap Some (get_or_append_left xs ys x i below ∙ get_or_from_slice_get xs i x x e)

last_at : {A : Type 0} (xs : List A) (x : A) (i : ℕ) → i ≡ length xs → slice_get (xs ++ x ∷ []) i ≡ Some x
last_at xs x i e =
    ap (λ n. slice_get (xs ++ x ∷ []) n) e
    ∙ slice_get-get_or (xs ++ x ∷ []) (length xs) x (omega (arith, length-append xs (x ∷ [])))
    ∙ ap Some (get_or-append_seam xs x [] x)

-- ---- batches with one record more

signed_more : (n : ℕ) (rs ss : List Record) → signed_from n (rs ++ ss) ≡ signed_from n rs ++ signed_from (n + length (flat_map entries_in rs)) ss
signed_more n [] ss = ap (λ k. signed_from k ss) (omega arith)
signed_more n (header_record h ∷ rs) ss = signed_more n rs ss
signed_more n (reserve_record k ∷ rs) ss = signed_more n rs ss
signed_more n (batch_record b ∷ rs) ss =
    let one : Signed = record { size = n + length b.entries; index = b.index; signature = b.signature } in
    let same : n + length b.entries + length (flat_map entries_in rs) ≡ n + length (b.entries ++ flat_map entries_in rs) = omega (arith, length-append b.entries (flat_map entries_in rs)) in
    ap (λ (xs : List Signed). one ∷ xs) (signed_more (n + length b.entries) rs ss)
    ∙ ap (λ k. one ∷ (signed_from (n + length b.entries) rs ++ signed_from k ss)) same

batches-more : (R : Log) (body : List ℕ) (r : Record) → record_of body ≡ Some r → batches_of (R ++ body ∷ []) ≡ batches_of R ++ signed_from (length (leaves_of R)) (r ∷ [])
batches-more R body r reads =
    ap (signed_from 0) (records-more R body r reads) ∙ signed_more 0 (records_of R) (r ∷ [])
    ∙ ap (λ k. batches_of R ++ signed_from k (r ∷ [])) (omega arith)

-- ---- the parts of an entry's bytes

parts_are : (leaf : List ℕ) (e : Entry) → entry_of leaf ≡ Some e → parts_of leaf ≡ Some (record { at = e.at; rule = e.rule; logged = e.statement.logged })
unfolding entry_of
parts_are leaf e reads =
    let a = from_then entry_with (parts_of leaf) e reads in
    let p : EntryParts = a.0 in
    let b = from_map (λ (s : Said). record { at = p.at; rule = p.rule; statement = s }) (logged_statement p.logged) e a.2 in
    let says = logged_says p.logged b.0 b.1 in
    let own : parts_of leaf ≡ Some (record { at = p.at; rule = p.rule; logged = b.0.logged }) =
    a.1 ∙ ap (λ l. Some (record { at = p.at; rule = p.rule; logged = l })) (sym says.0) in
    subst (λ (x : Entry). parts_of leaf ≡ Some (record { at = x.at; rule = x.rule; logged = x.statement.logged })) b.2 own

-- ---- where an entry stands

abbrev Home : Log → ℕ → Type 0
Home R i = (n : ℕ) × (body : List ℕ) × (leaf : List ℕ) × (b : BatchParts) × (e : Entry) × StandsAt R i n body leaf b e

record Held (R : Log) : Type 0 where
  homes : length (homes_of R) ≡ length (leaves_of R)
  batches : length (batches_of R) ≡ length (leaves_of R)
  entries : length (entries_of R) ≡ length (leaves_of R)
  each : (i : ℕ) → i < length (leaves_of R) → Home R i

nothing : Held []
nothing = record { homes = refl; batches = refl; entries = refl; each = λ i below. absurd (omega (arith, below)) }

-- it stands there with more behind
still : (R more : Log) (hs : List ℕ) (ls : List (List ℕ)) (es : List Entry) (bs : List Signed) (body : List ℕ) → more ≡ R ++ body ∷ []
    → homes_of more ≡ homes_of R ++ hs → leaves_of more ≡ leaves_of R ++ ls → entries_of more ≡ entries_of R ++ es → batches_of more ≡ batches_of R ++ bs
    → (i : ℕ) → Home R i → Home more i
still R more hs ls es bs body is homes leaves entries batches i (n, at, leaf, b, e, was) =
    let sign : Signed = record { size = i + 1; index = b.index; signature = b.signature } in (
      n,
      at,
      leaf,
      b,
      e,
      record {
        home = ap (λ xs. slice_get xs i) homes ∙ kept_at (homes_of R) hs i n was.home;
        there = ap (λ (xs : Log). slice_get xs n) is ∙ kept_at R (body ∷ []) n at was.there;
        reads = was.reads;
        alone = was.alone;
        read_back = was.read_back;
        bytes = ap (λ (xs : List (List ℕ)). slice_get xs i) leaves ∙ kept_at (leaves_of R) ls i leaf was.bytes;
        entry = ap (λ (xs : List Entry). slice_get xs i) entries ∙ kept_at (entries_of R) es i e was.entry;
        entry_reads = was.entry_reads;
        parts = was.parts;
        batch = ap (λ (xs : List Signed). slice_get xs i) batches ∙ kept_at (batches_of R) bs i sign was.batch;
      },
    )

-- a record without entries
other : (P : Log) (body : List ℕ) (r : Record) → Held P → record_of body ≡ Some r → entries_in r ≡ [] → signed_from (length (leaves_of P)) (r ∷ []) ≡ [] → Held (P ++ body ∷ [])
other P body r was reads none unsigned =
    let more : Log = P ++ body ∷ [] in
    let homes : homes_of more ≡ homes_of P ++ [] =
    homes-more P body (Some r) reads ∙ ap (λ (xs : List (List ℕ)). homes_of P ++ map (λ leaf. length P) xs) none in
    let leaves : leaves_of more ≡ leaves_of P ++ [] = leaves-more P body r reads ∙ ap (λ (xs : List (List ℕ)). leaves_of P ++ xs) none in
    let entries : entries_of more ≡ entries_of P ++ [] = entries-kept P body r reads none ∙ sym (append-nil (entries_of P)) in
    let batches : batches_of more ≡ batches_of P ++ [] = batches-more P body r reads ∙ ap (λ (xs : List Signed). batches_of P ++ xs) unsigned in
    let a = was.homes in
    let b = was.batches in
    let c = was.entries in
    let count : length (leaves_of more) ≡ length (leaves_of P) = ap length (leaves ∙ append-nil (leaves_of P)) in
    record {
      homes = ap length (homes ∙ append-nil (homes_of P)) ∙ a ∙ sym count;
      batches = ap length (batches ∙ append-nil (batches_of P)) ∙ b ∙ sym count;
      entries = ap length (entries ∙ append-nil (entries_of P)) ∙ c ∙ sym count;
      each = λ i below. still P more [] [] [] [] body refl homes leaves entries batches i (was.each i (omega (arith, below, count)));
    }

read_alone : (b : BatchParts) (leaf : List ℕ) → b.entries ≡ leaf ∷ [] → one_entry b ≡ Some b
read_alone b leaf one = ap (λ (t : Bool). cond t (Some b) None) (eq-eqb (length b.entries) 1 (ap length one))

-- a Batch of one entry
added : (P : Log) (body : List ℕ) → Held P → Adds P body → Held (P ++ body ∷ [])
added P body was adds =
    let more : Log = P ++ body ∷ [] in
    let b = adds.batch in
    let leaf = adds.leaf in
    let e = adds.entry in
    let reads = adds.reads in
    let last = length P in
    let size = length (leaves_of P) in
    let sign : Signed = record { size = size + 1; index = b.index; signature = b.signature } in
    let homes : homes_of more ≡ homes_of P ++ last ∷ [] =
    homes-more P body (Some (batch_record b)) reads ∙ ap (λ (xs : List (List ℕ)). homes_of P ++ map (λ leaf. last) xs) adds.one in
    let leaves : leaves_of more ≡ leaves_of P ++ leaf ∷ [] = leaves-more P body (batch_record b) reads ∙ ap (λ (xs : List (List ℕ)). leaves_of P ++ xs) adds.one in
    let entries : entries_of more ≡ entries_of P ++ e ∷ [] = entries-added P body leaf b e reads adds.one adds.is in
    let batches : batches_of more ≡ batches_of P ++ sign ∷ [] =
    batches-more P body (batch_record b) reads
    ∙ ap (λ (xs : List (List ℕ)). batches_of P ++ (record { size = size + length xs; index = b.index; signature = b.signature }) ∷ []) adds.one in
    let was_homes = was.homes in
    let was_batches = was.batches in
    let was_entries = was.entries in
    let count : length (leaves_of more) ≡ size + 1 = ap length leaves ∙ length-append (leaves_of P) (leaf ∷ []) in
    record {
      homes = omega (arith, ap length homes, length-append (homes_of P) (last ∷ []), was_homes, count);
      batches = omega (arith, ap length batches, length-append (batches_of P) (sign ∷ []), was_batches, count);
      entries = omega (arith, ap length entries, length-append (entries_of P) (e ∷ []), was_entries, count);
      each = λ i below. elim (cases_lt i size) [
        | inl before ↦ still P more (last ∷ []) (leaf ∷ []) (e ∷ []) (sign ∷ []) body refl homes leaves entries batches i (was.each i before)
        | inr past ↦ (let at : i ≡ size = omega (arith, below, past, count) in (
          last,
          body,
          leaf,
          b,
          e,
          record {
            home = ap (λ xs. slice_get xs i) homes ∙ last_at (homes_of P) last i (omega (arith, at, was_homes));
            there = last_at P body last refl;
            reads = reads;
            alone = adds.one;
            read_back = ap batch_in reads ∙ read_alone b leaf adds.one;
            bytes = ap (λ (xs : List (List ℕ)). slice_get xs i) leaves ∙ last_at (leaves_of P) leaf i at;
            entry = ap (λ (xs : List Entry). slice_get xs i) entries ∙ last_at (entries_of P) e i (omega (arith, at, was_entries));
            entry_reads = adds.is;
            parts = parts_are leaf e adds.is;
            batch = ap (λ (xs : List Signed). slice_get xs i) batches ∙ last_at (batches_of P) sign i (omega (arith, at, was_batches))
                ∙ ap (λ n. Some (record { size = n + 1; index = b.index; signature = b.signature })) (sym at);
          },
        ))
      ];
    }

step : (P : Log) (body : List ℕ) → Held P → failing_of P body ≡ None → Held (P ++ body ∷ [])
step P body was none = elim (grows P body none) [
  | inl b ↦ other P body (header_record b.head) was b.reads refl refl
  | inr rest ↦ elim rest [
    | inl r ↦ other P body (reserve_record r.upto) was r.reads refl refl
    | inr a ↦ added P body was a
  ]
]

held : (R : Log) → WellMade R → Held R
held R w = grow Held step [] R nothing w

pub entry_has_home : EntryHasHome
entry_has_home R i w below =
    let all = held R w in
    let count = all.entries in
    all.each i (omega (arith, below, count))

pub batches_are_entries : BatchesAreEntries
batches_are_entries R w = let all = held R w in (all.batches ∙ sym all.entries, all.homes ∙ sym all.entries)

-- ---- what a log says with one record more

pub reserve_adds : ReserveAdds
reserve_adds R body upto reads =
    let r = reserve_record upto in
    record {
      leaves = leaves-more R body r reads ∙ append-nil (leaves_of R);
      entries = entries-kept R body r reads refl;
      reserved = reserved-more R body r reads;
      used = used-more R body r reads;
      homes = homes-more R body (Some r) reads ∙ append-nil (homes_of R);
      batches = batches-more R body r reads ∙ append-nil (batches_of R);
    }

pub batch_adds : BatchAdds
batch_adds R body leaf b e reads one is =
    let r = batch_record b in
    let size = length (leaves_of R) in
    record {
      leaves = leaves-more R body r reads ∙ ap (λ (xs : List (List ℕ)). leaves_of R ++ xs) one;
      entries = entries-added R body leaf b e reads one is;
      reserved = reserved-more R body r reads;
      used = used-more R body r reads;
      homes = homes-more R body (Some r) reads ∙ ap (λ (xs : List (List ℕ)). homes_of R ++ map (λ x. length R) xs) one;
      batches = batches-more R body r reads ∙ ap (λ (xs : List (List ℕ)). batches_of R ++ (record { size = size + length xs; index = b.index; signature = b.signature }) ∷ []) one;
    }
