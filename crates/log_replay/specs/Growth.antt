-- What holds of all logs.
use Rattle.std.specs.Prelude.{◌≡◌, ℕ, ◌+◌, ◌<◌, ◌≤◌, true, List, [], ◌∷◌, ◌++◌, length, min, max, Some, None, slice_get}
use Rattle.hss_keys.specs.Levels.{capacity, IsLevels}
use Rattle.hss_keys.specs.Functions.{hss_verifies, flat_index, names_levels}
use Rattle.statement.specs.Said.{Said, id_of}
use Rattle.log_replay.specs.declared.parts.Header.{Header}
use Rattle.log_replay.specs.declared.parts.BatchParts.{BatchParts}
use Rattle.log_replay.specs.declared.words.Judgement.TheVariants.{Admit}
use Rattle.log_replay.specs.Records.{Log, Entry, Signed, header_record, reserve_record, batch_record, record_of, batch_in, header_of, leaves_of, entries_of, entry_of, parts_of, homes_of, batches_of, reserved_of, used_of, logged_bytes}
use Rattle.log_replay.specs.Judging.{judge, moment_after}
use Rattle.log_replay.specs.WellMade.{WellMade, failing_of, header_holds, reserve_holds, text_signed, most_logged_bytes}

-- what a log says with a Reserve more
pub record AddsReserve (R : Log) (body : List ℕ) (upto : ℕ) : Type 0 where
  pub leaves : leaves_of (R ++ body ∷ []) ≡ leaves_of R
  pub entries : entries_of (R ++ body ∷ []) ≡ entries_of R
  pub reserved : reserved_of (R ++ body ∷ []) ≡ upto
  pub used : used_of (R ++ body ∷ []) ≡ used_of R
  pub homes : homes_of (R ++ body ∷ []) ≡ homes_of R
  pub batches : batches_of (R ++ body ∷ []) ≡ batches_of R

abbrev pub ReserveAdds : Type 0
ReserveAdds = (R : Log) (body : List ℕ) (upto : ℕ) → record_of body ≡ Some (reserve_record upto) → AddsReserve R body upto

-- and with a Batch of one entry more
pub record AddsBatch (R : Log) (body leaf : List ℕ) (b : BatchParts) (e : Entry) : Type 0 where
  pub leaves : leaves_of (R ++ body ∷ []) ≡ leaves_of R ++ leaf ∷ []
  pub entries : entries_of (R ++ body ∷ []) ≡ entries_of R ++ e ∷ []
  pub reserved : reserved_of (R ++ body ∷ []) ≡ reserved_of R
  pub used : used_of (R ++ body ∷ []) ≡ max (used_of R) (b.index + 1)
  pub homes : homes_of (R ++ body ∷ []) ≡ homes_of R ++ length R ∷ []
  pub batches : batches_of (R ++ body ∷ []) ≡ batches_of R ++ (record { size = length (leaves_of R) + 1; index = b.index; signature = b.signature }) ∷ []

abbrev pub BatchAdds : Type 0
BatchAdds = (R : Log) (body leaf : List ℕ) (b : BatchParts) (e : Entry) → record_of body ≡ Some (batch_record b) → b.entries ≡ leaf ∷ [] → entry_of leaf ≡ Some e → AddsBatch R body leaf b e

-- a header stays
abbrev pub HeaderStays : Type 0
HeaderStays = (R S : Log) (h : Header) → header_of R ≡ Some h → header_of (R ++ S) ≡ Some h

-- a well made log that has a record has a header, within the limits
abbrev pub HeaderIsFirst : Type 0
HeaderIsFirst = (body : List ℕ) (R : Log) → WellMade (body ∷ R) → (h : Header) × (header_of (body ∷ R) ≡ Some h) × (header_holds h ≡ true)

-- an entry that the log admits, its Batch, and the signature at an index that is reserved and not used
pub record IsAdmissible (R : Log) (h : Header) (s : Said) (m rule index : ℕ) (leaf signature body : List ℕ) : Type 0 where
  pub headed : header_of R ≡ Some h
  pub reads : record_of body ≡ Some (batch_record (record { entries = leaf ∷ []; index = index; signature = signature }))
  pub entry : entry_of leaf ≡ Some (record { at = moment_after (entries_of R) m; rule = rule; statement = s })
  pub judged : judge h (entries_of R) s m ≡ Admit rule
  pub room : length (entries_of R) + 1 ≤ h.max_entries
  pub bytes : logged_bytes (entries_of R) + length s.logged ≤ most_logged_bytes
  pub indexed : flat_index h.levels signature ≡ Some index
  pub reserved : index < reserved_of R
  pub above : used_of R ≤ index
  pub signed : hss_verifies h.key signature (text_signed h (leaves_of R ++ leaf ∷ [])) ≡ true

-- its Batch fails no rule
abbrev pub AdmissibleFits : Type 0
AdmissibleFits =
    (R : Log) (h : Header) (s : Said) (m rule index : ℕ) (leaf signature body : List ℕ) → IsAdmissible R h s m rule index leaf signature body → failing_of R body ≡ None

-- the next reservation fails no rule, where an index is left
abbrev pub ReserveFits : Type 0
ReserveFits =
    (R : Log) (h : Header) (body : List ℕ) → header_of R ≡ Some h → 1 ≤ h.block → reserved_of R < capacity h.levels
    → record_of body ≡ Some (reserve_record (min (reserved_of R + h.block) (capacity h.levels))) → failing_of R body ≡ None

-- a header within the limits, whose key names its levels, fails no rule as the first record
abbrev pub HeaderFits : Type 0
HeaderFits = (h : Header) (body : List ℕ) → record_of body ≡ Some (header_record h) → header_holds h ≡ true → failing_of [] body ≡ None

-- what a Reserve that fails no rule says
abbrev pub ReserveRises : Type 0
ReserveRises = (R : Log) (h : Header) (body : List ℕ) (upto : ℕ) → header_of R ≡ Some h → record_of body ≡ Some (reserve_record upto) → failing_of R body ≡ None
    → reserve_holds h (reserved_of R) upto ≡ true

-- what a Batch that fails no rule says of its index
abbrev pub IndexRises : Type 0
IndexRises = (R : Log) (h : Header) (body : List ℕ) (b : BatchParts) → header_of R ≡ Some h → record_of body ≡ Some (batch_record b) → failing_of R body ≡ None
    → (used_of R ≤ b.index) × (b.index < reserved_of R)

-- what a Batch that fails no rule says of its entries: there is one, and it is no statement of the log
abbrev pub EntryIsNew : Type 0
EntryIsNew = (R : Log) (h : Header) (body : List ℕ) (b : BatchParts) → header_of R ≡ Some h → record_of body ≡ Some (batch_record b) → failing_of R body ≡ None
    → (leaf : List ℕ) × (e : Entry) × (b.entries ≡ leaf ∷ []) × (entry_of leaf ≡ Some e) × (judge h (entries_of R) e.statement e.at ≡ Admit e.rule)
    × (length (entries_of R) + 1 ≤ h.max_entries)

-- no two entries of a well made log have the same id
abbrev pub NoIdTwice : Type 0
NoIdTwice = (R : Log) (i j : ℕ) (a b : Entry) → WellMade R → slice_get (entries_of R) i ≡ Some a → slice_get (entries_of R) j ≡ Some b
    → id_of a.statement ≡ id_of b.statement → i ≡ j

-- a well made log has as many entries as byte strings of entries
abbrev pub EntriesAreLeaves : Type 0
EntriesAreLeaves = (R : Log) → WellMade R → length (entries_of R) ≡ length (leaves_of R)

-- a well made log has few records: a Header, a Reserve for each step of the reservation, and a Batch for each entry
abbrev pub FewRecords : Type 0
FewRecords = (R : Log) (h : Header) → WellMade R → header_of R ≡ Some h → length R ≤ 1 + (reserved_of R + length (entries_of R))

-- and its entries and its reservation are bounded by the header
abbrev pub IsBounded : Type 0
IsBounded = (R : Log) (h : Header) → WellMade R → header_of R ≡ Some h → (length (entries_of R) ≤ h.max_entries) × (reserved_of R ≤ capacity h.levels) × (logged_bytes (entries_of R) ≤ most_logged_bytes)

-- so it has fewer records than a journal holds
abbrev pub FewerRecords : Type 0
FewerRecords = (R : Log) → WellMade R → length R < 2147483648

-- the limits of a header, one by one
pub record HeaderLimits (h : Header) : Type 0 where
  pub name_some : 1 ≤ length h.name
  pub name_most : length h.name ≤ 128
  pub iss_some : 1 ≤ length h.governor.iss
  pub iss_most : length h.governor.iss ≤ 1024
  pub kid_some : 1 ≤ length h.governor.kid
  pub kid_most : length h.governor.kid ≤ 64
  pub levels : IsLevels h.levels
  pub entries_some : 1 ≤ h.max_entries
  pub entries_most : h.max_entries ≤ 65536
  pub block_some : 1 ≤ h.block
  pub block_most : h.block ≤ 64
  pub named : names_levels h.levels h.key ≡ true

-- the header of a well made log keeps them
abbrev pub HeaderIsWithin : Type 0
HeaderIsWithin = (R : Log) (h : Header) → WellMade R → header_of R ≡ Some h → HeaderLimits h

-- entry i of a log, with the record that holds it: a Batch of this entry alone, whose index and signature are those that batch i has, for
-- the size i + 1. The parts of the entry's bytes are the entry's, and its logged form is its statement's
pub record StandsAt (R : Log) (i n : ℕ) (body leaf : List ℕ) (b : BatchParts) (e : Entry) : Type 0 where
  pub home : slice_get (homes_of R) i ≡ Some n
  pub there : slice_get R n ≡ Some body
  pub reads : record_of body ≡ Some (batch_record b)
  pub alone : b.entries ≡ leaf ∷ []
  pub read_back : batch_in (record_of body) ≡ Some b
  pub bytes : slice_get (leaves_of R) i ≡ Some leaf
  pub entry : slice_get (entries_of R) i ≡ Some e
  pub entry_reads : entry_of leaf ≡ Some e
  pub parts : parts_of leaf ≡ Some (record { at = e.at; rule = e.rule; logged = e.statement.logged })
  pub batch : slice_get (batches_of R) i ≡ Some (record { size = i + 1; index = b.index; signature = b.signature })

-- in a well made log each entry stands so
abbrev pub EntryHasHome : Type 0
EntryHasHome = (R : Log) (i : ℕ) → WellMade R → i < length (entries_of R)
    → (n : ℕ) × (body : List ℕ) × (leaf : List ℕ) × (b : BatchParts) × (e : Entry) × StandsAt R i n body leaf b e

-- and there are as many Batches, and as many numbers of records that hold entries, as entries
abbrev pub BatchesAreEntries : Type 0
BatchesAreEntries = (R : Log) → WellMade R → (length (batches_of R) ≡ length (entries_of R)) × (length (homes_of R) ≡ length (entries_of R))
