use Rattle.std.proofs.Common.{◌≡◌, ◌∷◌, ◌∙◌, ap, sym, List, length, get_or, rules, arith}
use Rattle.lms_ots.specs.declared.parameters.OtsType.TheVariants.{W1}
use Rattle.lms_tree.specs.declared.types.LmsType.TheVariants.{H5}
use Rattle.lms_tree.specs.declared.types.Level.{Level}
use Rattle.lms_tree.specs.Trees.{TreeKey}
use Rattle.hss_keys.specs.Signers.{below_top}
use Rattle.hss_keys.proofs.CapacityLaws.{capacity_pos}
use Rattle.hss_keys.proofs.BranchLaws.{split}
use Rattle.hss_keys.proofs.signer.Signer.new.Goals as goal

pub grow-requires-clause-index : goal.grow-requires-clause-index
grow-requires-clause-index c = capacity_pos _

pub invariant_of-result : goal.invariant_of-result
invariant_of-result c =
    let levels = c.args.levels in
    let valid = c.as_slice-list.ensures.levels in
    let list = c.as_slice-list.ensures.value in
    let d : Level = record { lms = H5; ots = W1 } in
    let first : c.in_ok-top.top.level ≡ get_or levels 0 d = ap (λ (k : TreeKey). k.level) c.in_ok-top.ensures ∙ ap (λ (ls : List Level). get_or ls 0 d) list in
    let parts = split levels d (omega (arith, valid.some)) in
    record {
      named = ap (λ (k : TreeKey). length k.id) c.in_ok-top.ensures ∙ search rules;
      valid = valid;
      first = parts ∙ ap (λ (l : Level). l ∷ below_top levels) (sym first);
      below = capacity_pos levels;
      held = rw list at c.in_ok-lower.ensures;
    }
