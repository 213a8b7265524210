use Rattle.key_store.proofs.KeyLemmas.{made_leaves}
use Rattle.key_store.proofs.key_file.KeyFile.create.Goals as goal

pub returns-clause-stopped : goal.returns-clause-stopped
returns-clause-stopped g c = λ tells none later.
    made_leaves _ c.in-Ok.body.items _ _ c.in-Ok.ensures.reads (c.in-Err.ensures.stopped tells none later)
