-- What a relying party accepts.
use Rattle.std.specs.Prelude.{◌≡◌, ℕ, ◌⊎◌, ◌==◌, Bool, true, false, not, ◌&&◌, nat_lt, List, [], ◌∷◌, map, find, Option, Some, None, is_none, option_map, option_and_then, unwrap_or, negsuc, if◌then◌else◌}
use Rattle.std.specs.Str.{bytes_eq}
use Rattle.std.specs.List.{list_any}
use Rattle.sha2.specs.Sha256.{sha256}
use Rattle.cbor_core.specs.Rows.{first_row}
use Rattle.cose_sign1.specs.declared.labels.Label.{Label}
use Rattle.cose_sign1.specs.declared.labels.Label.TheVariants.{Int}
use Rattle.cose_sign1.specs.OneTbs.{tbs_of}
use Rattle.hss_keys.specs.Functions.{hss_verifies}
use Rattle.merkle_tree.specs.Mth.{leaf_hash}
use Rattle.merkle_tree.specs.Paths.{root_from}
use Rattle.statement.specs.declared.statement_type.Statement.{Statement}
use Rattle.statement.specs.declared.stops.ParseStop.{ParseStop}
use Rattle.statement.specs.Statements.{ParseFault}
use Rattle.statement.specs.Parsed.{StatementOf}
use Rattle.receipts.specs.declared.receipt.Receipt.{Receipt}
use Rattle.receipts.specs.declared.receipt.Proof.{Proof}
use Rattle.receipts.specs.declared.receipt.Proof.TheVariants.{Inclusion, Consistency}
use Rattle.receipts.specs.Form.{receipt_of}
use Rattle.receipts.specs.Signed.{signed_text}
use Rattle.relying_party.specs.declared.trust.Issuer.{Issuer}
use Rattle.relying_party.specs.declared.trust.Trust.{Trust}
use Rattle.relying_party.specs.declared.answers.ReceiptResult.{ReceiptResult}
use Rattle.relying_party.specs.declared.answers.ReceiptResult.TheVariants.{Accepted, Refused}
use Rattle.relying_party.specs.declared.answers.StatementCheck.{StatementCheck}
use Rattle.relying_party.specs.declared.answers.StatementCheck.TheVariants.{Parse, NoReceipts, IssuerUnknown, IssuerSignature, Fine}
use Rattle.relying_party.specs.declared.answers.Verdict.{Verdict}
use Rattle.relying_party.specs.Parties.{ServiceKey}
use Rattle.relying_party.specs.Entries.{entry_bytes}

-- ---- the services

-- a service by its name and the digest of its key
abbrev pub is_service : List ℕ → List ℕ → ServiceKey → Bool
is_service name kid s = bytes_eq s.name name && bytes_eq (sha256 s.key) kid

-- the key of the first service that a receipt names
abbrev pub service_key : Trust → Receipt → Option (List ℕ)
service_key trust r = option_map (λ s. s.key) (find (is_service r.name r.kid) trust.services)

-- a key verifies a receipt's signature over a root
abbrev pub signs_root : List ℕ → Receipt → List ℕ → Bool
signs_root key r root = hss_verifies key r.signature (signed_text r.name r.kid r.size root)

-- ---- one receipt

-- an inclusion proof
pub record Included : Type 0 where
  pub size : ℕ
  pub index : ℕ
  pub path : List (List ℕ)
  pub at : ℕ
  pub rule : ℕ

abbrev pub included_by : Proof → Option Included
included_by (Inclusion size index path at rule) = Some (record { size = size; index = index; path = path; at = at; rule = rule })
included_by (Consistency old size path) = None

-- the root to which the proof leads from the entry of a logged form
abbrev pub root_of : List ℕ → Included → Option (List ℕ)
root_of logged i = root_from i.index i.size (leaf_hash (entry_bytes i.at i.rule logged)) i.path

abbrev pub has_size : Option Receipt → Option Included → Bool
has_size (Some r) (Some i) = i.size == r.size
has_size _ _ = false

abbrev pub has_index : Option Included → Bool
has_index (Some i) = nat_lt i.index i.size
has_index None = false

abbrev pub is_signed : Option (List ℕ) → Option Receipt → Option (List ℕ) → Bool
is_signed (Some key) (Some r) (Some root) = signs_root key r root
is_signed _ _ _ = false

-- the rules on a receipt, each beside its number
abbrev pub rules : Trust → List ℕ → Option Receipt → Option Included → List (Bool × ℕ)
rules trust logged r i =
    let key = option_and_then (service_key trust) r in
    let root = option_and_then (root_of logged) i in
    (is_none r, 1)
    ∷ (is_none i, 2)
    ∷ (is_none key, 3)
    ∷ (not (has_size r i), 4)
    ∷ (not (has_index i), 5)
    ∷ (is_none root, 6)
    ∷ (not (is_signed key r root), 7)
    ∷ []

-- what a receipt shows that fails none of them
abbrev pub shown : List ℕ → Option Included → ReceiptResult
shown logged (Some i) = Accepted i.size (unwrap_or (root_of logged i) []) i.index i.at i.rule
shown logged None = Refused 2

abbrev pub result_by : Trust → List ℕ → Option Receipt → Option Included → ReceiptResult
result_by trust logged r i = unwrap_or (option_map Refused (first_row (rules trust logged r i))) (shown logged i)

-- the answer to a receipt of the statement with this logged form: the first rule that fails, or what it shows
abbrev pub receipt_result : Trust → List ℕ → List ℕ → ReceiptResult
receipt_result trust logged bytes = let r = receipt_of bytes in result_by trust logged r (option_and_then (λ r. included_by r.proof) r)

abbrev pub is_accepted : ReceiptResult → Bool
is_accepted (Accepted size root index at rule) = true
is_accepted (Refused rule) = false

-- ---- the statement itself

-- an issuer by its name and the name of its key
abbrev pub is_issuer : List ℕ → List ℕ → Issuer → Bool
is_issuer iss kid i = bytes_eq i.iss iss && bytes_eq i.kid kid

-- the key of the first issuer that a statement names
abbrev pub issuer_key : Trust → Statement → Option (List ℕ)
issuer_key trust s = option_map (λ i. i.key) (find (is_issuer s.issuer s.kid) trust.issuers)

-- alg -46, HSS-LMS (RFC 8778, 6)
abbrev pub is_hss : Option Label → Bool
is_hss (Some (Int (negsuc n))) = n == 45
is_hss _ = false

-- a key verifies a statement's own signature
abbrev pub signs_statement : Option (List ℕ) → Statement → Bool
signs_statement None s = false
signs_statement (Some key) s = is_hss s.alg && hss_verifies key s.signature (tbs_of s.protected s.payload)

abbrev pub is_empty : {A : Type 0} → List A → Bool
is_empty [] = true
is_empty (x ∷ xs) = false

-- what may be wrong with the statement itself, beside the answer; its issuer is asked for only where issuers are trusted
abbrev pub checks : Trust → Statement → List (Bool × StatementCheck)
checks trust s =
    let key = issuer_key trust s in
    let asked = not (is_empty trust.issuers) in
    (is_empty s.receipts, NoReceipts)
    ∷ (asked && is_none key, IssuerUnknown)
    ∷ (asked && not (signs_statement key s), IssuerSignature)
    ∷ []

unfoldable pub statement_check : Trust → Statement → StatementCheck
statement_check trust s = unwrap_or (first_row (checks trust s)) Fine

-- ---- the whole

abbrev pub is_fine : StatementCheck → Bool
is_fine Fine = true
is_fine _ = false

-- the answer where the statement itself has this check and the receipts these results, which count where it is fine
abbrev pub verdict_with : StatementCheck → List ReceiptResult → Verdict
verdict_with check results = record { statement = check; receipts = results; accepted = is_fine check && list_any is_accepted results }

-- the receipts are looked at only where the statement is fine
abbrev pub results_after : StatementCheck → List ReceiptResult → List ReceiptResult
results_after check results = if is_fine check then results else []

unfoldable pub verdict_on : Trust → Statement → Verdict
verdict_on trust s =
    let check = statement_check trust s in
    verdict_with check (results_after check (map (receipt_result trust s.logged) s.receipts))

-- exactly what a relying party answers of bytes
abbrev pub Accepts : Trust → List ℕ → Verdict → Type 0
Accepts trust bytes v =
    ((stop : ParseStop) × ParseFault bytes stop × (v ≡ verdict_with (Parse stop) []))
    ⊎ ((s : Statement) × StatementOf bytes s × (v ≡ verdict_on trust s))
