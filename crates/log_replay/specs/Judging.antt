-- The judgement of a statement.
use Rattle.std.specs.Prelude.{ℕ, max, List, [], ◌∷◌, Bool, true, false, ◌&&◌, not, nat_lt, nat_le, ◌==◌, if◌then◌else◌, Option, None, Some, length, map, find, fold, position, option_map, option_and_then, unwrap_or, is_none, codes, negsuc}
use Rattle.std.specs.Str.{bytes_eq}
use Rattle.cbor_core.specs.Rows.{first_row}
use Rattle.cose_sign1.specs.declared.labels.Label.{Label}
use Rattle.cose_sign1.specs.declared.labels.Label.TheVariants.{Int}
use Rattle.cose_sign1.specs.OneTbs.{tbs_of}
use Rattle.statement.specs.declared.names.ContentType.{ContentType}
use Rattle.statement.specs.declared.names.ContentType.TheVariants as of_type
use Rattle.statement.specs.Said.{Said, id_of}
use Rattle.hss_keys.specs.Functions.{hss_verifies}
use Rattle.policy_rules.specs.declared.documents.Holder.{Holder}
use Rattle.policy_rules.specs.declared.documents.Policy.{Policy}
use Rattle.policy_rules.specs.declared.facts.Facts.{Facts}
use Rattle.policy_rules.specs.declared.facts.ContentKind.{ContentKind}
use Rattle.policy_rules.specs.declared.facts.ContentKind.TheVariants as kind
use Rattle.policy_rules.specs.Documents.{document_of, bootstrap_of}
use Rattle.policy_eval.specs.Cases.{case_of}
use Rattle.policy_eval.specs.Holds.{is_named, verdict}
use Rattle.log_replay.specs.declared.parts.Header.{Header}
use Rattle.log_replay.specs.declared.words.Judgement.{Judgement}
use Rattle.log_replay.specs.declared.words.Judgement.TheVariants.{Known, Admit, Deny}
use Rattle.log_replay.specs.Records.{Log, Entry, header_of, entries_of}

-- a content type, as the rules see it
abbrev pub kind_of : ContentType → ContentKind
kind_of of_type.Absent = kind.Absent
kind_of (of_type.Named text) = kind.Named text
kind_of (of_type.Number n) = kind.Number n

-- what the rules are asked about
abbrev pub facts_of : Said → Facts
facts_of s = record { issuer = s.names.issuer; subject = s.names.subject; content_type = kind_of s.names.content_type; payload_len = length s.payload }

abbrev pub facts_before : List Entry → List Facts
facts_before E = map (λ e. facts_of e.statement) E

abbrev pub policy_type : List ℕ
policy_type = codes "application/vnd.scitt-policy+cbor"

-- a policy statement
abbrev pub is_policy : Said → Bool
is_policy s = is_named policy_type (kind_of s.names.content_type)

-- the document that a policy statement's payload is
abbrev pub document_in : Said → Option Policy
document_in s = if is_policy s then document_of s.payload else None

-- the policy in force after one more statement, and after one more entry
abbrev pub policy_with : Policy → Said → Policy
policy_with p s = unwrap_or (document_in s) p

abbrev pub policy_after : Policy → Entry → Policy
policy_after p e = policy_with p e.statement

-- the document of the last policy entry, else the bootstrap policy of the header
abbrev pub in_force : Header → List Entry → Policy
in_force h E = fold policy_after (bootstrap_of h.governor) E

-- ---- the key that a policy names for a statement

abbrev pub is_holder_of : Said → Holder → Bool
is_holder_of s h = bytes_eq h.iss s.names.issuer && bytes_eq h.kid s.names.kid

-- whether the statement is looked for among the governors
abbrev pub governs : Policy → Said → Bool
governs p s = is_policy s

abbrev pub holders_for : Policy → Bool → List Holder
holders_for p true = p.governors
holders_for p false = p.issuers

-- the key of the first of these holders with the statement's issuer and kid
abbrev pub key_among : List Holder → Said → Option (List ℕ)
key_among holders s = option_map (λ h. h.key) (find (is_holder_of s) holders)

abbrev pub key_named : Policy → Said → Option (List ℕ)
key_named p s = key_among (holders_for p (governs p s)) s

-- the key that the policy in force in a log names; of a log without a header it is none
abbrev pub key_of : Log → Said → Option (List ℕ)
key_of R s = option_and_then (λ h. key_named (in_force h (entries_of R)) s) (header_of R)

-- ---- moments

abbrev pub last_moment : List Entry → ℕ
last_moment E = fold (λ m e. e.at) 0 E

-- the judged moment, the greater of the given one and the last entry's
abbrev pub moment_after : List Entry → ℕ → ℕ
moment_after E m = max m (last_moment E)

abbrev pub is_below : ℕ → Option ℕ → Bool
is_below m None = false
is_below m (Some n) = nat_lt m n

abbrev pub is_reached : ℕ → Option ℕ → Bool
is_reached m None = false
is_reached m (Some n) = nat_le n m

-- ---- the judgement

-- alg -46, HSS/LMS (RFC 8778, 6)
abbrev pub is_hss : Option Label → Bool
is_hss (Some (Int (negsuc n))) = n == 45
is_hss _ = false

-- the Sig_structure of a statement
abbrev pub signed_text_of : Said → List ℕ
signed_text_of s = tbs_of s.protected s.payload

abbrev pub is_signed_by : Option (List ℕ) → Said → Bool
is_signed_by None s = false
is_signed_by (Some key) s = hss_verifies key s.signature (signed_text_of s)

abbrev pub is_newer_than : ℕ → Option Policy → Bool
is_newer_than v None = false
is_newer_than v (Some p) = nat_lt v p.version

abbrev pub judged_by : Bool × ℕ → Judgement
judged_by (true, rule) = Admit rule
judged_by (false, rule) = Deny rule

-- the rows of the table of judgement, by the policy in force and the facts of the entries before, at the judged moment
abbrev pub rows : Policy → List Facts → Said → ℕ → List (Bool × Judgement)
rows p earlier s m =
    (not (is_hss s.names.alg), Deny 2)
    ∷ (governs p s && is_none (key_named p s), Deny 3)
    ∷ (not (governs p s) && is_none (key_named p s), Deny 4)
    ∷ (not (is_signed_by (key_named p s) s), Deny 5)
    ∷ (is_below m s.names.nbf, Deny 6)
    ∷ (is_reached m s.names.exp, Deny 7)
    ∷ (is_policy s && is_none (document_in s), Deny 8)
    ∷ (is_policy s && not (is_newer_than p.version (document_in s)), Deny 9)
    ∷ (is_policy s, Admit 1)
    ∷ []

-- of a statement that isn't in the log: the first row that applies, else the verdict of the document's rules
unfoldable pub judge_new : Policy → List Facts → Said → ℕ → Judgement
judge_new p earlier s m = unwrap_or (first_row (rows p earlier s m)) (judged_by (verdict p (case_of earlier (facts_of s))))

-- the place of the first entry with this statement's id
abbrev pub place_of : List Entry → Said → Option ℕ
place_of E s = position (λ e. bytes_eq (id_of e.statement) (id_of s)) E

-- the judgement after these entries of a log with this header
abbrev pub judge : Header → List Entry → Said → ℕ → Judgement
judge h E s m = unwrap_or (option_map Known (place_of E s)) (judge_new (in_force h E) (facts_before E) s (moment_after E m))

-- of a log; of one without a header there is none
abbrev pub judgement_of : Log → Said → ℕ → Option Judgement
judgement_of R s m = option_map (λ h. judge h (entries_of R) s m) (header_of R)
