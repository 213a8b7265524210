use Rattle.policy_rules.proofs.OneDocument.{written}
use Rattle.policy_rules.proofs.encoding.encode.Goals as goal

pub returns-clause-document : goal.returns-clause-document
returns-clause-document c = written c.args.policy.now c.in-Ok.item c.encode.result c.in-Ok.ensures c.encode.ensures
