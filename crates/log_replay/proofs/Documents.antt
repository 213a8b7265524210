-- The document that bytes are, as the decoder answers it.
use Rattle.std.proofs.Common.{◌≡◌, ℕ, List, Option, Some, None, Result, Ok, Err, sym, refl}
use Rattle.cbor_core.specs.Bytes.{IsBytes}
use Rattle.policy_rules.specs.declared.documents.Policy.{Policy}
use Rattle.policy_rules.specs.declared.documents.PolicyStop.{PolicyStop}
use Rattle.policy_rules.specs.declared.documents.PolicyStop.TheVariants.{Cbor, BadPolicy, OutOfMemory}
use Rattle.policy_rules.specs.Documents.{PolicyOf, PolicyFault, Decoded, document_of}
use Rattle.policy_rules.specs.OneAnswer.{OneAnswer, DocumentIsExact}

pub is_document : DocumentIsExact → (bytes : List ℕ) (p : Policy) → IsBytes bytes → PolicyOf bytes p → Some p ≡ document_of bytes
is_document exact bytes p fits is = sym ((exact bytes p fits).1 is)

apart : (p : Policy) (stop : PolicyStop) → ◌≡◌ {A = Result Policy PolicyStop} (Ok p) (Err stop) → ⊥
apart p stop e = cc

refused : OneAnswer → DocumentIsExact → (bytes : List ℕ) (stop : PolicyStop) → IsBytes bytes → PolicyFault bytes stop → (o : Option Policy) → document_of bytes ≡ o → None ≡ o
refused one exact bytes stop fits is None e = refl
refused one exact bytes stop fits is (Some p) e = absurd (apart p stop (one bytes (Ok p) (Err stop) ((exact bytes p fits).0 e) is))

pub no_document : OneAnswer → DocumentIsExact → (bytes : List ℕ) (stop : PolicyStop) → (stop ≡ OutOfMemory → ⊥) → IsBytes bytes → Decoded bytes (Err stop) → None ≡ document_of bytes
no_document one exact bytes (Cbor fault) other fits is = refused one exact bytes (Cbor fault) fits is (document_of bytes) refl
no_document one exact bytes (BadPolicy place) other fits is = refused one exact bytes (BadPolicy place) fits is (document_of bytes) refl
no_document one exact bytes OutOfMemory other fits is = absurd (other refl)
