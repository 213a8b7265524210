use Rattle.log_replay.proofs.Answering.{entry_has_batch, last_has_batch, receipt_is_of_batch, consistency_is_of_last}
use Rattle.log_replay.proofs.growth.answer_laws.Goals as goal

pub returns : goal.returns
returns c = record { entry = entry_has_batch; last = last_has_batch; receipt = receipt_is_of_batch; consistency = consistency_is_of_last }
