use Rattle.log_params.proofs.Answered.{decoded_by}
use Rattle.log_params.proofs.decoding.decode.Goals as goal

pub returns : goal.returns
returns c = decoded_by c.args.bytes.now c.in_ok-item.item c.params_or_stop.result c.in_ok-item.ensures c.params_or_stop.ensures
