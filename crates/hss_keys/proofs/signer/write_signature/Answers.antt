use Rattle.std.proofs.Common.{◌≤◌, List, subst}
use Rattle.std.specs.List.{sum_by}
use Rattle.lms_tree.specs.declared.types.Level.{Level}
use Rattle.lms_tree.specs.Types.{height}
use Rattle.hss_keys.proofs.CapacityLaws.{IsLevels-small}
use Rattle.hss_keys.proofs.signer.write_signature.Goals as goal

pub write_below-requires-clause-small : goal.write_below-requires-clause-small
write_below-requires-clause-small c =
    subst (λ (ls : List Level). sum_by height ls ≤ 30) c.requires.held.first (IsLevels-small c.args.levels.now c.requires.held.valid)
