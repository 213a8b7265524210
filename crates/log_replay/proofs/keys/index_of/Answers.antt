use Rattle.hss_keys.specs.Functions.{flat_index}
use Rattle.hss_keys.specs.Verifies.{FlatIndex}
use Rattle.log_replay.proofs.Telling.{tells}
use Rattle.log_replay.proofs.keys.index_of.Goals as goal

pub returns : goal.returns
returns c =
    tells (flat_index c.args.levels.now c.args.sig.now) c.flat_index.result (FlatIndex c.args.levels.now c.args.sig.now)
    (λ i. c.key_laws.ensures.index c.args.levels.now c.args.sig.now i) c.flat_index.ensures.some c.flat_index.ensures.none
