-- The statements of a generated log: the governor's policy, and one for each number.
use Rattle.std.specs.Prelude.{ℕ, ◌+◌, ◌/◌, ◌%◌, List, [], ◌∷◌, ◌++◌, true, false, None, codes}
use Rattle.sha2.specs.Sha256.{sha256}
use Rattle.lms_ots.specs.Words.{u32str}
use Rattle.cbor_core.specs.Exact.{strict_text}
use Rattle.policy_rules.specs.declared.conditions.Cond.{Cond}
use Rattle.policy_rules.specs.declared.conditions.CondNode.{CondNode}
use Rattle.policy_rules.specs.declared.conditions.CondNode.TheVariants.{All, Not, Issuer, FirstOfSubject}
use Rattle.policy_rules.specs.declared.documents.Holder.{Holder}
use Rattle.policy_rules.specs.declared.documents.Rule.{Rule}
use Rattle.policy_rules.specs.declared.documents.Policy.{Policy}
use Rattle.policy_rules.specs.Spelling.{policy_item}
use Rattle.scitt_draft.specs.Drafts.{Claims, claims_from, statement_by}
use Rattle.scitt_draft.specs.Named.{seed_of, id_of, governor_levels, issuer_levels, holder_of}

-- ---- who there is

abbrev pub governor : List ℕ
governor = codes "governor"

-- the digit of a number below ten
abbrev pub digit : ℕ → List ℕ
digit n = (48 + n) ∷ []

abbrev pub issuer : ℕ → List ℕ
issuer n = codes "issuer-" ++ digit n

-- what it is said of
abbrev pub subject : ℕ → List ℕ
subject n = codes "pkg-" ++ digit n

abbrev pub governor_holder : Holder
governor_holder = holder_of governor_levels governor

abbrev pub issuer_holder : ℕ → Holder
issuer_holder n = holder_of issuer_levels (issuer n)

abbrev pub issuers : List Holder
issuers = issuer_holder 0 ∷ issuer_holder 1 ∷ issuer_holder 2 ∷ []

-- ---- the policy

abbrev pub cond_of : CondNode → Cond
cond_of node = record { node = node }

abbrev pub is_issuer : List ℕ → Cond
is_issuer name = cond_of (Issuer name)

abbrev pub is_known_subject : Cond
is_known_subject = cond_of (Not (cond_of FirstOfSubject))

-- what `issuer-2` says of a subject that an earlier entry has is denied
abbrev pub again : Cond
again = cond_of (All (is_issuer (issuer 2) ∷ is_known_subject ∷ []))

abbrev pub denies_again : Rule
denies_again = record { id = 100; admit = false; cond = again }

-- all else is admitted
abbrev pub admits_all : Rule
admits_all = record { id = 101; admit = true; cond = cond_of (All []) }

abbrev pub rules : List Rule
rules = denies_again ∷ admits_all ∷ []

unfoldable pub policy : Policy
policy = record {
  version = 1;
  governors = governor_holder ∷ [];
  issuers = issuers;
  rules = rules;
}

-- ---- the statements

abbrev pub policy_type : List ℕ
policy_type = codes "application/vnd.scitt-policy+cbor"

abbrev pub policy_claims : Claims
policy_claims = claims_from governor (codes "policy") policy_type None None

-- the governor's policy, by the first index of its key
unfoldable pub policy_statement : List ℕ
policy_statement = statement_by governor_levels (id_of governor) (seed_of governor) 0 policy_claims (strict_text (policy_item policy))

abbrev pub claims_of : ℕ → Claims
claims_of j = claims_from (issuer (j % 3)) (subject (j % 7)) (codes "application/octet-stream") None None

-- statement j: each issuer in its turn, by its key's indices from 0 upwards, on the digest of the number
unfoldable pub statement : ℕ → List ℕ
statement j = statement_by issuer_levels (id_of (issuer (j % 3))) (seed_of (issuer (j % 3))) (j / 3) (claims_of j) (sha256 (u32str j))

-- the moments: that of the policy, and that of statement j
abbrev pub policy_moment : ℕ
policy_moment = 1700000000

abbrev pub moment_of : ℕ → ℕ
moment_of j = 1700000001 + j
