use Rattle.policy_rules.specs.Documents.{PolicyOf}
use Rattle.scitt_forms.specs.Writing.{policy_doc}
use Rattle.scitt_forms.proofs.Judging.{stopped}
use Rattle.scitt_forms.proofs.writing.judged.Goals as goal

pub returns-in-Err : goal.returns-in-Err
returns-in-Err c = stopped PolicyOf policy_doc c.args.item.now c.in-Err.stop c.in-Err.ensures
