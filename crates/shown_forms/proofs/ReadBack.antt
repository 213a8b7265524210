-- Bytes that are no policy, and what is written of a printed text.
use Rattle.std.proofs.Common.{◌≡◌, ℕ, List, Result, Ok, Err, ap, sym, subst, ◌∙◌}
use Rattle.cbor_core.specs.declared.words.Grammar.TheVariants.{Strict}
use Rattle.cbor_core.specs.declared.tree.Item.{Item}
use Rattle.cbor_core.specs.Decoding.{OneStrictSpelling}
use Rattle.cbor_core.specs.Spells.{Spells}
use Rattle.policy_rules.specs.declared.documents.Policy.{Policy}
use Rattle.policy_rules.specs.declared.documents.PolicyStop.{PolicyStop}
use Rattle.policy_rules.specs.Documents.{policy_in, PolicyOf, PolicyFault, Decoded}
use Rattle.policy_rules.specs.OneAnswer.{OneAnswer}
use Rattle.policy_rules.specs.Spelling.{policy_item}
use Rattle.scitt_forms.specs.Policies.{policy_item_said}
use Rattle.scitt_forms.specs.Refusals.{Said, and_then}
use Rattle.scitt_forms.specs.Writing.{item_said, policy_doc}
use Rattle.shown_forms.specs.Showing.{ReadsBack}

-- the decoder's answer at the stop that it is
pub stopped_by : (bytes : List ℕ) (stop named : PolicyStop) → Decoded bytes (Err stop) → stop ≡ named → Decoded bytes (Err named)
stopped_by bytes stop named answers is = subst (λ (s : PolicyStop). Decoded bytes (Err s)) is answers

-- bytes with a fault are no policy
pub no_policy : OneAnswer → (bytes : List ℕ) (stop : PolicyStop) → PolicyFault bytes stop → (policy : Policy) → PolicyOf bytes policy → ⊥
no_policy one bytes stop fault policy is =
    let same : ◌≡◌ {A = Result Policy PolicyStop} (Ok policy) (Err stop) = one bytes (Ok policy) (Err stop) is fault in cc

same_policy : (said : Said Policy) (a b : Policy) → said ≡ Ok a → said ≡ Ok b → a ≡ b
same_policy said a b is_a is_b = cc

pub reads_back : ((item : Item) (policy : Policy) → policy_in item ≡ Ok policy → policy_item policy ≡ item) → OneStrictSpelling → ReadsBack
reads_back spelled unique bytes text other shown (e, told, (mine, spells, read)) =
    let (d, said, (item, spelling, is)) = shown.writes in
    let same : e ≡ d = same_policy (and_then (item_said policy_item_said text) policy_doc) e d told said in
    let items : mine ≡ item = sym (spelled mine e read) ∙ ap policy_item same ∙ spelled item d is in
    unique mine other bytes spells (subst (λ (i : Item). Spells Strict i bytes) (sym items) spelling)
