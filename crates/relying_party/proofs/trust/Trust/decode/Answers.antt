use Rattle.relying_party.proofs.Answering.{decoded_by}
use Rattle.relying_party.proofs.trust.Trust.decode.Goals as goal

pub returns : goal.returns
returns c = decoded_by c.args.bytes.now c.in_ok-item.item c.trust_or_stop.result c.in_ok-item.ensures c.trust_or_stop.ensures
