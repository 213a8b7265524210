use Rattle.std.specs.Prelude.{[], refl}
use Rattle.cbor_core.proofs.PlaceLemmas.{key-spelled, none-ordered, ordered-left}
use Rattle.cbor_core.proofs.laws.read_keys_are_spelled.Goals as goal

pub returns-clause-read : goal.returns-clause-read
returns-clause-read c = key-spelled

pub returns-clause-none : goal.returns-clause-none
returns-clause-none c = λ room. none-ordered room [] refl

pub returns-clause-stays : goal.returns-clause-stays
returns-clause-stays c = ordered-left
