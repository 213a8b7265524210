-- What is asked of the levels holds of those below the first one.
use Rattle.std.proofs.Common.{◌≡◌, ◌<◌, ◌∙◌, ap, length, get_or, rules, tests}
use Rattle.lms_ots.specs.declared.parameters.OtsType.TheVariants.{W1}
use Rattle.lms_tree.specs.declared.types.LmsType.TheVariants.{H5}
use Rattle.lms_tree.specs.declared.types.Level.{Level}
use Rattle.lms_tree.specs.Trees.{TreeKey}
use Rattle.hss_keys.proofs.BranchLaws.{child_level, small_rest, index_rest, each_rest}
use Rattle.hss_keys.proofs.branch.+grow.Goals as goal

pub grow-requires : goal.grow-requires
grow-requires t c =
    let below = c.args.below.now in
    let some : 0 < length below = search (rules, tests) in
    let d : Level = record { lms = H5; ots = W1 } in
    let lvl : c.in_ok-child.child.tree.level ≡ get_or below 0 d =
    ap (λ (k : TreeKey). k.level) c.in_ok-child.ensures.tree ∙ child_level (get_or below 0 d) c.args.tree.now c.leaf_of-q.result in (
      search rules,
      (
        rw lvl (small_rest below d some c.args.tree.now.level c.requires.small),
        (each_rest below c.requires.each, rw lvl (index_rest below d some c.rest_of-rest.result c.rest_of-rest.ensures.index)),
      ),
    )
