-- `policy`: what a policy document says.
use Rattle.std.specs.Prelude.{◌≡◌, ◌⊎◌, ℕ, ◌++◌, List, length, codes}
use Rattle.std.specs.Fmt.{decimal}
use Rattle.cbor_core.specs.declared.words.Fault.{Fault}
use Rattle.policy_rules.specs.declared.documents.Policy.{Policy}
use Rattle.policy_rules.specs.declared.documents.PolicyStop.TheVariants.{Cbor, BadPolicy}
use Rattle.policy_rules.specs.Documents.{PolicyOf, PolicyFault}
use Rattle.scitt_tool.specs.Answer.{Answer, line, done, refused}
use Rattle.scitt_tool.specs.FaultText.{fault_text}

-- the lines for a document: its version, and how many governors, issuers and rules it has
abbrev pub policy_lines : Policy → List ℕ
policy_lines p =
    line (codes "version " ++ decimal p.version) ++ line (codes "governors " ++ decimal (length p.governors))
    ++ line (codes "issuers " ++ decimal (length p.issuers)) ++ line (codes "rules " ++ decimal (length p.rules))

-- the bytes are a document
pub record IsPolicy (bytes : List ℕ) (answer : Answer) : Type 0 where
  pub policy : Policy
  pub document : PolicyOf bytes policy
  pub is : answer ≡ done (policy_lines policy)

-- they are an item, of which this place is the first that fails
pub record BreaksPlace (bytes : List ℕ) (answer : Answer) : Type 0 where
  pub place : ℕ
  pub first : PolicyFault bytes (BadPolicy place)
  pub is : answer ≡ refused (codes "refused policy " ++ decimal place)

-- they strictly spell no item, and have this first fault
pub record IsNoItem (bytes : List ℕ) (answer : Answer) : Type 0 where
  pub fault : Fault
  pub first : PolicyFault bytes (Cbor fault)
  pub is : answer ≡ refused (codes "refused cbor " ++ fault_text fault)

-- the answer by a file's bytes
abbrev pub PolicyTextOf : List ℕ → Answer → Type 0
PolicyTextOf bytes answer = IsPolicy bytes answer ⊎ (BreaksPlace bytes answer ⊎ IsNoItem bytes answer)
