use Rattle.cbor_core.proofs.KeyPairs.{strict_keys_rise, wide_keys_differ}
use Rattle.cbor_core.proofs.laws.map_keys_by_pairs.Goals as goal

pub returns-clause-strict : goal.returns-clause-strict
returns-clause-strict c = strict_keys_rise

pub returns-clause-wide : goal.returns-clause-wide
returns-clause-wide c = wide_keys_differ
