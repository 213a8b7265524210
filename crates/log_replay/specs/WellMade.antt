-- When a log is well made, and the first rule that a record fails.
use Rattle.std.specs.Prelude.{◌≡◌, ℕ, ◌+◌, List, [], ◌∷◌, ◌++◌, Bool, true, false, ◌&&◌, ◌||◌, not, nat_lt, nat_le, ◌==◌, Option, None, Some, length, slice_get, option_map, take}
use Rattle.std.specs.List.{list_all}
use Rattle.std.specs.Option.{option_or}
use Rattle.cbor_core.specs.Rows.{first_row}
use Rattle.lms_tree.specs.declared.types.Level.{Level}
use Rattle.lms_tree.specs.Types.{height}
use Rattle.hss_keys.specs.Levels.{capacity}
use Rattle.hss_keys.specs.Functions.{hss_verifies, flat_index, names_levels}
use Rattle.merkle_tree.specs.Mth.{mth}
use Rattle.sha2.specs.Sha256.{sha256}
use Rattle.receipts.specs.Signed.{signed_text}
use Rattle.log_replay.specs.declared.parts.Header.{Header}
use Rattle.log_replay.specs.declared.parts.BatchParts.{BatchParts}
use Rattle.log_replay.specs.declared.words.Judgement.{Judgement}
use Rattle.log_replay.specs.declared.words.Judgement.TheVariants.{Known, Admit, Deny}
use Rattle.log_replay.specs.declared.words.Failing.{Failing}
use Rattle.log_replay.specs.declared.words.Why.{Why}
use Rattle.log_replay.specs.declared.words.Why.TheVariants as why
use Rattle.log_replay.specs.Records.{Log, Record, header_record, reserve_record, batch_record, Entry, record_of, header_of, leaves_of, entries_of, entry_of, reserved_of, used_of, logged_bytes}
use Rattle.log_replay.specs.Judging.{judge, last_moment}

-- a rule that fails, other than that of the verdict
abbrev pub fails_by : Why → Failing
fails_by w = record { why = w; recorded = 0; found = 0 }

-- the judged rule, 0 where the statement is known
abbrev pub judged_rule : Judgement → ℕ
judged_rule (Known i) = 0
judged_rule (Admit rule) = rule
judged_rule (Deny rule) = rule

abbrev pub admits_by : ℕ → Judgement → Bool
admits_by rule (Admit judged) = judged == rule
admits_by rule _ = false

-- ---- the header

abbrev pub is_within : ℕ → ℕ → ℕ → Bool
is_within low high n = nat_le low n && nat_le n high

-- a level that the signer has
abbrev pub is_signing_level : Level → Bool
is_signing_level level = height level == 5 || height level == 10

-- the limits of a header
abbrev pub is_within_limits : Header → Bool
is_within_limits h =
    is_within 1 128 (length h.name)
    && is_within 1 1024 (length h.governor.iss)
    && is_within 1 64 (length h.governor.kid)
    && is_within 1 3 (length h.levels)
    && list_all is_signing_level h.levels
    && is_within 1 65536 h.max_entries
    && is_within 1 64 h.block

abbrev pub header_holds : Header → Bool
header_holds h = is_within_limits h && names_levels h.levels h.key

-- ---- the reservation: above the last one, by no more than a block, and within the capacity

abbrev pub reserve_holds : Header → ℕ → ℕ → Bool
reserve_holds h last upto = nat_lt last upto && nat_le upto (last + h.block) && nat_le upto (capacity h.levels)

-- ---- the entries

-- the most logged bytes of a log
abbrev pub most_logged_bytes : ℕ
most_logged_bytes = 536870912

-- the rules on one entry after these, in their order
abbrev pub entry_rows : Header → List Entry → Entry → List (Bool × Failing)
entry_rows h E e =
    (nat_lt e.at (last_moment E), fails_by why.Moment)
    ∷ (
      not (admits_by e.rule (judge h E e.statement e.at)),
      record { why = why.Verdict; recorded = e.rule; found = judged_rule (judge h E e.statement e.at) },
    )
    ∷ (nat_lt h.max_entries (length E + 1) || nat_lt most_logged_bytes (logged_bytes E + length e.statement.logged), fails_by why.Full)
    ∷ []

abbrev pub entry_failing : Header → List Entry → Option Entry → Option Failing
entry_failing h E None = Some (fails_by why.EntryForm)
entry_failing h E (Some e) = first_row (entry_rows h E e)

abbrev pub one_more : List Entry → Option Entry → List Entry
one_more E None = E
one_more E (Some e) = E ++ e ∷ []

-- the rules on each entry of a Batch in turn, all of them on one before the next
abbrev pub entries_failing : Header → List Entry → List (List ℕ) → Option Failing
entries_failing h E [] = None
entries_failing h E (leaf ∷ leaves) =
    option_or (entry_failing h E (entry_of leaf)) (entries_failing h (one_more E (entry_of leaf)) leaves)

-- how many entries a Batch may hold
abbrev pub is_number_of_entries : ℕ → Bool
is_number_of_entries n = n == 1

-- ---- the Batch

-- the signature's index is the Batch's, below the last reservation, and above every index used
abbrev pub index_holds : ℕ → ℕ → ℕ → Option ℕ → Bool
index_holds reserved used index None = false
index_holds reserved used index (Some i) = i == index && nat_lt i reserved && nat_le used i

-- what the service signs over these leaves
abbrev pub text_signed : Header → List (List ℕ) → List ℕ
text_signed h leaves = signed_text h.name (sha256 h.key) (length leaves) (mth leaves)

-- the rules on a Batch whose entries fail none
abbrev pub batch_rows : Header → Log → BatchParts → List (Bool × Failing)
batch_rows h R b =
    (not (index_holds (reserved_of R) (used_of R) b.index (flat_index h.levels b.signature)), fails_by why.Index)
    ∷ (not (hss_verifies h.key b.signature (text_signed h (leaves_of R ++ b.entries))), fails_by why.Signature)
    ∷ []

abbrev pub batch_failing : Header → Log → BatchParts → Option Failing
batch_failing h R b = option_or (entries_failing h (entries_of R) b.entries) (first_row (batch_rows h R b))

-- ---- the whole

abbrev pub has_shape : Option Record → Bool
has_shape None = false
has_shape (Some (batch_record b)) = is_number_of_entries (length b.entries)
has_shape (Some _) = true

-- the rules of a record after this log, after those of form, by the log's header
unfoldable pub failing_after : Log → Option Header → Option Record → Option Failing
failing_after R h None = Some (fails_by why.Form)
failing_after R None (Some (header_record new)) = first_row ((not (header_holds new), fails_by why.Header) ∷ [])
failing_after R None (Some _) = Some (fails_by why.Order)
failing_after R (Some h) (Some (header_record new)) = Some (fails_by why.Order)
failing_after R (Some h) (Some (reserve_record upto)) = first_row ((not (reserve_holds h (reserved_of R) upto), fails_by why.Reserve) ∷ [])
failing_after R (Some h) (Some (batch_record b)) = batch_failing h R b

-- the first rule that a record fails after this log, by what its body reads as
abbrev pub failing_by : Log → Option Record → Option Failing
failing_by R o = option_or (first_row ((not (has_shape o), fails_by why.Form) ∷ [])) (failing_after R (header_of R) o)

abbrev pub failing_of : Log → List ℕ → Option Failing
failing_of R body = failing_by R (record_of body)

abbrev pub why_of : Log → List ℕ → Option Why
why_of R body = option_map (λ f. f.why) (failing_of R body)

-- the records after these, each in turn, fail no rule
abbrev pub WellMadeAfter : Log → Log → Type 0
WellMadeAfter R [] = Unit {0}
WellMadeAfter R (body ∷ more) = (failing_of R body ≡ None) × WellMadeAfter (R ++ body ∷ []) more

abbrev pub WellMade : Log → Type 0
WellMade R = WellMadeAfter [] R

-- the first record that fails a rule, and the rule
pub record IsFirstBad (R : Log) (n : ℕ) (f : Failing) : Type 0 where
  pub before : WellMade (take n R)
  pub body : List ℕ
  pub there : slice_get R n ≡ Some body
  pub failing : failing_of (take n R) body ≡ Some f
