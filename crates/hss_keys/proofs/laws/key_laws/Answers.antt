use Rattle.hss_keys.proofs.FunctionLaws.{verifies_exactly, index_exactly, names_exactly}
use Rattle.hss_keys.proofs.laws.key_laws.Goals as goal

pub returns : goal.returns
returns c = record { verifies = verifies_exactly c.word_law.ensures; index = index_exactly; names = names_exactly }
