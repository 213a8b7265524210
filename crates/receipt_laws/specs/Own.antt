-- The receipts that a log answers, and by whom they are accepted.
use Rattle.std.specs.Prelude.{◌≡◌, ℕ, ◌+◌, ◌<◌, true, List, length, take, find, slice_get, Some, option_map, Ok}
use Rattle.sha2.specs.Sha256.{sha256}
use Rattle.cbor_core.specs.Bytes.{IsBytes}
use Rattle.cose_sign1.specs.Attached.{Attaches}
use Rattle.merkle_tree.specs.Mth.{mth}
use Rattle.statement.specs.declared.statement_type.Statement.{Statement}
use Rattle.statement.specs.Parsed.{StatementOf}
use Rattle.receipts.specs.declared.receipt.Receipt.{Receipt}
use Rattle.receipts.specs.Form as form
use Rattle.log_replay.specs.declared.parts.Header.{Header}
use Rattle.log_replay.specs.Records.{Log, Entry, header_of, leaves_of, entries_of}
use Rattle.log_replay.specs.WellMade.{WellMade}
use Rattle.log_replay.specs.Answers.{receipt_of}
use Rattle.relying_party.specs.declared.trust.Trust.{Trust}
use Rattle.relying_party.specs.declared.answers.ReceiptResult.TheVariants.{Accepted}
use Rattle.relying_party.specs.declared.answers.StatementCheck.TheVariants.{Fine}
use Rattle.relying_party.specs.declared.answers.Verdict.{Verdict}
use Rattle.relying_party.specs.Accepts.{is_service, Accepts}
use Rattle.relying_party.specs.Converse.{ShowsEntry, IsBelieved}

-- each record of a log is a byte string
abbrev pub AreBytes : Log → Type 0
AreBytes R = (n : ℕ) (body : List ℕ) → slice_get R n ≡ Some body → IsBytes body

-- the first service of a trust that has the log's name and the kid of its key has this key
abbrev pub KnowsService : Trust → Header → Type 0
KnowsService trust h = option_map (λ s. s.key) (find (is_service h.name (sha256 h.key)) trust.services) ≡ Some h.key

-- what a log answers as the receipt of its entry i is one, and shows the entry in the tree of the entries up to and with it to whoever trusts the log's key
pub record IsReceiptOf (R : Log) (h : Header) (i : ℕ) (e : Entry) (receipt : List ℕ) (r : Receipt) : Type 0 where
  pub answered : receipt_of R i ≡ Some receipt
  pub reads : form.receipt_of receipt ≡ Some r
  pub entry : slice_get (entries_of R) i ≡ Some e
  pub shows : (trust : Trust) → KnowsService trust h → ShowsEntry trust r (take (i + 1) (leaves_of R)) i e.at e.rule e.statement.logged

-- a well made log has such a receipt for each entry
abbrev pub EntriesHaveReceipts : Type 0
EntriesHaveReceipts = (R : Log) (h : Header) (i : ℕ) → AreBytes R → WellMade R → header_of R ≡ Some h → i < length (entries_of R)
    → (e : Entry) × (receipt : List ℕ) × (r : Receipt) × IsReceiptOf R h i e receipt r

-- the verdict is that all is fine, and the last receipt is accepted: as one of entry i, with its moment and rule, in the tree of the entries up to and with it
pub record IsAcceptedAs (R : Log) (i : ℕ) (e : Entry) (s : Statement) (v : Verdict) : Type 0 where
  pub fine : v.statement ≡ Fine
  pub accepted : v.accepted ≡ true
  pub count : length v.receipts ≡ length s.receipts + 1
  pub last : slice_get v.receipts (length s.receipts) ≡ Some (Accepted (i + 1) (mth (take (i + 1) (leaves_of R))) i e.at e.rule)

-- so is every verdict on a statement of the log to which the log's receipt of its entry was attached
abbrev pub OwnReceiptsAreAccepted : Type 0
OwnReceiptsAreAccepted =
    (R : Log) (h : Header) (i : ℕ) (e : Entry) (receipt bytes attached : List ℕ) (s : Statement) (trust : Trust) (v : Verdict) → AreBytes R → WellMade R → header_of R ≡ Some h
    → slice_get (entries_of R) i ≡ Some e → receipt_of R i ≡ Some receipt → StatementOf bytes s → s.logged ≡ e.statement.logged
    → KnowsService trust h → IsBelieved trust s → Attaches bytes receipt (Ok attached) → Accepts trust attached v → IsAcceptedAs R i e s v
