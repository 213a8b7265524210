use Rattle.key_store.proofs.LevelLemmas.{kept_is}
use Rattle.key_store.proofs.records.kept_levels.Goals as goal

pub returns : goal.returns
returns c = kept_is c.of.result c.args.items.now c.of.ensures.some c.of.ensures.value
