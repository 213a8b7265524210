use Rattle.lms_ots.proofs.ChainLaws.{chain_whole}
use Rattle.lms_ots.proofs.OneTimeLaws.{type_of_code-parameters, length-secret, length-ots_sig, front_type-ots_sig, ots_candidate-ots_sig}
use Rattle.lms_ots.proofs.laws.ots_law.Goals as goal

pub returns : goal.returns
returns c = record {
  known = type_of_code-parameters;
  secret_len = length-secret;
  chain_whole = chain_whole;
  len = length-ots_sig;
  typed = front_type-ots_sig;
  key = ots_candidate-ots_sig;
}
