-- From the item to the bytes.
use Rattle.std.proofs.Common.{ℕ, List}
use Rattle.std.specs.Prelude.{Result, Ok, Err}
use Rattle.cbor_core.specs.declared.words.Grammar.TheVariants.{Strict}
use Rattle.cbor_core.specs.declared.tree.Item.{Item}
use Rattle.cbor_core.specs.Spells.{Spells}
use Rattle.relying_party.specs.declared.trust.Trust.{Trust}
use Rattle.relying_party.specs.declared.trust.TrustStop.{TrustStop}
use Rattle.relying_party.specs.declared.trust.TrustStop.TheVariants.{Cbor, BadTrust, OutOfMemory}
use Rattle.relying_party.specs.TrustFiles.{trust_in, AnswersAs, Decoded}

pub decoded_by : (bytes : List ℕ) (item : Item) (result : Result Trust TrustStop) → Spells Strict item bytes → AnswersAs result (trust_in item) → Decoded bytes result
decoded_by bytes item (Ok trust) spelled answers = (item, spelled, answers)
decoded_by bytes item (Err (Cbor fault)) spelled answers = absurd answers
decoded_by bytes item (Err BadTrust) spelled answers = (item, spelled, answers)
decoded_by bytes item (Err OutOfMemory) spelled answers = tt
