use Rattle.scitt_tool.proofs.Runs.{completes}
use Rattle.scitt_tool.proofs.run.run_tool.Goals as goal

pub returns-in-Ok-clause-complete : goal.returns-in-Ok-clause-complete
returns-in-Ok-clause-complete g c =
    completes _ _ c.args.words.now _ _ _ _ _ _ _ c.in-Ok.answer c.in-Ok.ensures.due c.say.ensures.says
