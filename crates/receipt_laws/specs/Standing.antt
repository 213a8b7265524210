-- When an entry of a log was judged, and what was signed with it.
use Rattle.std.specs.Prelude.{◌≡◌, ℕ, ◌+◌, ◌<◌, true, List, length, take, Some}
use Rattle.hss_keys.specs.Functions.{hss_verifies}
use Rattle.log_replay.specs.declared.parts.Header.{Header}
use Rattle.log_replay.specs.declared.parts.BatchParts.{BatchParts}
use Rattle.log_replay.specs.declared.words.Judgement.TheVariants.{Admit}
use Rattle.log_replay.specs.Records.{Log, Entry, header_of, leaves_of, entries_of}
use Rattle.log_replay.specs.Judging.{judgement_of}
use Rattle.log_replay.specs.WellMade.{WellMade, text_signed}
use Rattle.log_replay.specs.Growth.{StandsAt}

-- entry i stands in record n. The records before it hold the entries before it. The log before it judged the statement, at its moment, to be admitted by
-- its rule; and the log's key verifies the Batch's signature over the root of the entries up to and with it
pub record WasAdmitted (R : Log) (i n : ℕ) (body leaf : List ℕ) (h : Header) (b : BatchParts) (e : Entry) : Type 0 where
  pub stands : StandsAt R i n body leaf b e
  pub headed : header_of R ≡ Some h
  pub leaves : leaves_of (take n R) ≡ take i (leaves_of R)
  pub entries : entries_of (take n R) ≡ take i (entries_of R)
  pub judged : judgement_of (take n R) e.statement e.at ≡ Some (Admit e.rule)
  pub signed : hss_verifies h.key b.signature (text_signed h (take (i + 1) (leaves_of R))) ≡ true

-- in a well made log each entry was admitted so
abbrev pub EntriesWereAdmitted : Type 0
EntriesWereAdmitted = (R : Log) (i : ℕ) → WellMade R → i < length (entries_of R)
    → (n : ℕ) × (body : List ℕ) × (leaf : List ℕ) × (h : Header) × (b : BatchParts) × (e : Entry) × WasAdmitted R i n body leaf h b e
