use Rattle.cbor_core.proofs.DecodeLaws.{prefix_or_fault, not_both, one_fault}
use Rattle.cbor_core.proofs.TrailLaws.{never_trailing}
use Rattle.cbor_core.proofs.laws.bytes_have_one_answer.Goals as goal

pub returns-clause-either : goal.returns-clause-either
returns-clause-either c = prefix_or_fault

pub returns-clause-not_both : goal.returns-clause-not_both
returns-clause-not_both c = not_both

pub returns-clause-one_fault : goal.returns-clause-one_fault
returns-clause-one_fault c = one_fault

pub returns-clause-never_trailing : goal.returns-clause-never_trailing
returns-clause-never_trailing c = never_trailing
