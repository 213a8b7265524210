-- What is printed of a document's bytes: a form that says the very item that they spell.
use Rattle.std.specs.Prelude.{◌≡◌, ◌⊎◌, ℕ, false, List, Result, Ok, Err, String, string_bytes}
use Rattle.std.specs.declared.alloc.Global.{Global}
use Rattle.policy_rules.specs.declared.documents.Policy.{Policy}
use Rattle.policy_rules.specs.Documents.{PolicyOf}
use Rattle.policy_rules.specs.Spelling.{policy_item}
use Rattle.relying_party.specs.declared.trust.Trust.{Trust}
use Rattle.relying_party.specs.TrustFiles.{TrustOf}
use Rattle.scitt_forms.specs.Policies.{policy_item_said}
use Rattle.scitt_forms.specs.Writing.{item_said, WritesPolicy}
use Rattle.write_trust.specs.WritesTrust.{WritesTrust}
use Rattle.shown_forms.specs.declared.showing.ShowStop.{ShowStop}
use Rattle.shown_forms.specs.declared.showing.ShowStop.TheVariants.{NoDocument, NoForm, OutOfMemory}
use Rattle.shown_forms.specs.Policies.{policy_fits}

-- the bytes are a policy, and the text is written as exactly these bytes
pub record PolicyShown (bytes text : List ℕ) : Type 0 where
  pub policy : Policy
  pub is : PolicyOf bytes policy
  pub writes : WritesPolicy text (Ok bytes)

-- what is printed of a policy, unless it has no form
abbrev pub ShownOf : Policy → Result (String Global) ShowStop → Type 0
ShownOf policy (Ok text) = item_said policy_item_said (string_bytes text) ≡ Ok (policy_item policy)
ShownOf policy (Err NoForm) = policy_fits policy ≡ false
ShownOf policy (Err OutOfMemory) = Unit {0}
ShownOf policy (Err NoDocument) = ⊥

-- no policy, or one that has no form
abbrev pub ShowsPolicy : List ℕ → Result (String Global) ShowStop → Type 0
ShowsPolicy bytes (Ok text) = PolicyShown bytes (string_bytes text)
ShowsPolicy bytes (Err NoDocument) = (policy : Policy) → PolicyOf bytes policy → ⊥
ShowsPolicy bytes (Err NoForm) = (policy : Policy) × PolicyOf bytes policy × (policy_fits policy ≡ false)
ShowsPolicy bytes (Err OutOfMemory) = Unit {0}

-- what is written of the printed text is the bytes, and no others
abbrev pub ReadsBack : Type 0
ReadsBack = (bytes text other : List ℕ) → PolicyShown bytes text → WritesPolicy text (Ok other) → other ≡ bytes

-- the bytes are a trust file, and the text is written as exactly these bytes
pub record TrustShown (bytes text : List ℕ) : Type 0 where
  pub trust : Trust
  pub is : TrustOf bytes trust
  pub writes : WritesTrust text (Ok bytes)

-- no trust file; each has a form
abbrev pub ShowsTrust : List ℕ → Result (String Global) ShowStop → Type 0
ShowsTrust bytes (Ok text) = TrustShown bytes (string_bytes text)
ShowsTrust bytes (Err NoDocument) = (trust : Trust) → TrustOf bytes trust → ⊥
ShowsTrust bytes (Err NoForm) = ⊥
ShowsTrust bytes (Err OutOfMemory) = Unit {0}

-- what is written of a trust file's text is the bytes, and no others
abbrev pub ReadsTrustBack : Type 0
ReadsTrustBack = (bytes text other : List ℕ) → TrustShown bytes text → WritesTrust text (Ok other) → other ≡ bytes

-- a policy or a trust file, and the text is written as exactly these bytes; neither; or a policy that has no form
abbrev pub ShowsDocument : List ℕ → Result (String Global) ShowStop → Type 0
ShowsDocument bytes (Ok text) = PolicyShown bytes (string_bytes text) ⊎ TrustShown bytes (string_bytes text)
ShowsDocument bytes (Err NoDocument) = ((policy : Policy) → PolicyOf bytes policy → ⊥) × ((trust : Trust) → TrustOf bytes trust → ⊥)
ShowsDocument bytes (Err NoForm) = (policy : Policy) × PolicyOf bytes policy × (policy_fits policy ≡ false)
ShowsDocument bytes (Err OutOfMemory) = Unit {0}
