use Rattle.hss_keys.proofs.HssLaws.{hss_verifies, hss_index, hss_sig-len, hss_public-len, hss_public-names}
use Rattle.hss_keys.proofs.IndexLaws.{flat_index-one}
use Rattle.hss_keys.proofs.laws.hss_law.Goals as goal

pub returns-clause-verifies : goal.returns-clause-verifies
returns-clause-verifies c = hss_verifies c.word_law.ensures c.lms_law.ensures

pub returns-clause-index : goal.returns-clause-index
returns-clause-index c = hss_index c.word_law.ensures c.lms_law.ensures

pub returns-clause-one_index : goal.returns-clause-one_index
returns-clause-one_index c = flat_index-one

pub returns-clause-sig_len : goal.returns-clause-sig_len
returns-clause-sig_len c = hss_sig-len c.word_law.ensures c.lms_law.ensures

pub returns-clause-public_len : goal.returns-clause-public_len
returns-clause-public_len c = hss_public-len c.word_law.ensures c.lms_law.ensures

pub returns-clause-names : goal.returns-clause-names
returns-clause-names c = hss_public-names c.word_law.ensures c.lms_law.ensures
