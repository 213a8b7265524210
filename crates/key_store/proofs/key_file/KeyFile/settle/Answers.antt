use Rattle.key_store.proofs.KeyLemmas.{settle_leaves}
use Rattle.key_store.proofs.key_file.KeyFile.settle.Goals as goal

pub returns-clause-images : goal.returns-clause-images
returns-clause-images g c = λ tells.
    rw (← c.self.view_is) (settle_leaves c.self.inside.head (record { records = c.self.inside.ledger.records; pending = c.self.inside.ledger.pending; next = c.self.inside.next }) _ _ (c.settle.ensures.images tells))
