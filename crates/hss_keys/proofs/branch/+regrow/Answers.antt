-- What is asked of the levels holds of those below the first one.
use Rattle.std.proofs.Common.{◌≡◌, ◌<◌, ◌/◌, ◌∙◌, ap, sym, length, get_or, rules, tests, arith, List}
use Rattle.std.specs.List.{between}
use Rattle.std.proofs.lemmas.List.{get_or-take}
use Rattle.std.proofs.lemmas.Slice.{between_to_end}
use Rattle.lms_ots.specs.declared.parameters.OtsType.TheVariants.{W1}
use Rattle.lms_tree.specs.declared.types.LmsType.TheVariants.{H5}
use Rattle.lms_tree.specs.declared.types.Level.{Level}
use Rattle.lms_tree.specs.Trees.{TreeKey}
use Rattle.hss_keys.specs.declared.branch.Child.{Child}
use Rattle.hss_keys.specs.Levels.{capacity}
use Rattle.hss_keys.specs.Signing.{child_key}
use Rattle.hss_keys.proofs.BranchLaws.{child_level, small_rest, index_rest, each_rest, branch_opened, length-IsBranch}
use Rattle.hss_keys.proofs.branch.+regrow.Goals as goal

pub regrow-requires : goal.regrow-requires
regrow-requires t c =
    let below = c.args.below.now in
    let lower = c.args.lower.now in
    let key = c.args.tree.now in
    let index = c.args.old in
    let some : 0 < length below = search (rules, tests) in
    let d : Level = record { lms = H5; ots = W1 } in
    let r = c.index-first-0.result in
    let next = get_or below 0 d in
    let q = index / capacity below in
    let opened = branch_opened key below index lower d r some c.requires.held in
    let first : get_or c.split_at_mut-first.result.0.now 0 r ≡ get_or lower 0 r =
    ap (λ (hs : List Child). get_or hs 0 r) c.split_at_mut-first.ensures.front ∙ get_or-take 1 lower 0 r (omega arith) in
    let tree : (get_or c.split_at_mut-first.result.0.now 0 r).tree ≡ child_key next key q = ap (λ (h : Child). h.tree) first ∙ opened.tree in
    let lvl : (get_or c.split_at_mut-first.result.0.now 0 r).tree.level ≡ next = ap (λ (k : TreeKey). k.level) tree ∙ child_level next key q in
    let back : c.split_at_mut-first.result.1.now ≡ between 1 (length lower) lower =
    c.split_at_mut-first.ensures.back ∙ sym (between_to_end lower 1 (length lower) (omega arith)) in (
      search rules,
      (
        rw lvl (small_rest below d some key.level c.requires.small),
        (
          each_rest below c.requires.each,
          (
            rw lvl (index_rest below d some c.rest_of-old_rest.result c.rest_of-old_rest.ensures.index),
            (
              rw lvl (index_rest below d some c.rest_of-new_rest.result c.rest_of-new_rest.ensures.index),
              rw (tree, back, c.rest_of-old_rest.ensures.value) opened.rest,
            ),
          ),
        ),
      ),
    )

pub swap_with_slice-requires : goal.swap_with_slice-requires
swap_with_slice-requires t c =
    let below = c.args.below.now in
    length-IsBranch below c.args.tree.now c.args.old c.args.lower.now c.requires.held
    ∙ sym (length-IsBranch below c.args.tree.now c.args.new c.in_ok-fresh.fresh.items c.in_ok-fresh.ensures)
    ∙ sym (ap length c.deref_mut.ensures.value)
