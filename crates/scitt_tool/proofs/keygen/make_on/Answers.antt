use Rattle.std.proofs.Common.{◌≡◌}
use Rattle.scitt_tool.specs.Keygen.{head_from}
use Rattle.scitt_tool.proofs.Making.{made_over}
use Rattle.scitt_tool.proofs.keygen.make_on.Goals as goal

pub returns-in-Ok-clause-over : goal.returns-in-Ok-clause-over
returns-in-Ok-clause-over g c =
    let head : c.in-Ok.file.head ≡ head_from c.args.levels.now c.args.random.now = cc (c.in-Ok.ensures.head, c.seed_of.ensures, c.id_of.ensures, c.copy_levels.ensures) in
    made_over _ c.args.levels.now _ c.args.random.now _ _ c.in-Ok.file.head c.in-Ok.file.reserved _ c.in-Ok.ensures.none c.requires head c.in-Ok.ensures.reserved c.made.ensures.lines c.made.ensures.leaves
