use Rattle.relying_party.specs.TrustFiles.{TrustOf}
use Rattle.scitt_forms.proofs.Judging.{stopped}
use Rattle.write_trust.specs.WritesTrust.{trust_doc}
use Rattle.write_trust.proofs.writing.judged.Goals as goal

pub returns-in-Err : goal.returns-in-Err
returns-in-Err c = stopped TrustOf trust_doc c.args.item.now c.in-Err.stop c.in-Err.ensures
