use Rattle.cbor_core.proofs.WholeLaws.{item_or_fault, never_both, one_item, one_whole_fault, none_is_empty}
use Rattle.cbor_core.proofs.laws.whole_bytes_have_one_answer.Goals as goal

pub returns-clause-either : goal.returns-clause-either
returns-clause-either c = item_or_fault

pub returns-clause-not_both : goal.returns-clause-not_both
returns-clause-not_both c = never_both

pub returns-clause-one_item : goal.returns-clause-one_item
returns-clause-one_item c = one_item

pub returns-clause-one_fault : goal.returns-clause-one_fault
returns-clause-one_fault c = one_whole_fault

pub returns-clause-not_empty : goal.returns-clause-not_empty
returns-clause-not_empty c = none_is_empty
