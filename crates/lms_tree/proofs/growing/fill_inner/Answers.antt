-- Each turn writes the node below the lowest one that is held.
use Rattle.std.proofs.Common.{◌≡◌, ℕ, ◌+◌, ◌-◌, ◌∙◌, sym, subst, arith}
use Rattle.std.proofs.Math.ListN.{length-set}
use Rattle.lms_tree.specs.Trees.{HoldsNodes}
use Rattle.lms_tree.proofs.TreeLaws.{inner_held, HoldsNodes-from}
use Rattle.lms_tree.proofs.growing.fill_inner.Goals as goal

pub loop-r-init : goal.loop-r-init
loop-r-init c = record { whole = c.requires; held = λ seed h. rw c.leaf_count-r.ensures.value h }

pub loop-r-preserved : goal.loop-r-preserved
loop-r-preserved c =
    let level = c.args.level in
    let r = c.loop-r.r - 1 in
    let back : r + 1 ≡ c.loop-r.r = omega arith in
    record {
      whole = length-set c.loop-r.nodes r c.parent.result ∙ c.loop-r.invariant.whole;
      held = λ seed h.
          let before = subst (λ (n : ℕ). HoldsNodes level c.args.id seed c.loop-r.nodes n) (sym back) (c.loop-r.invariant.held seed h) in
          inner_held level c.args.id seed c.loop-r.nodes r c.parent.result (omega arith) (omega (arith, c.leaf_count-r.ensures.value)) before c.parent.ensures;
    }

pub returns : goal.returns
returns c = λ seed h. HoldsNodes-from c.args.level c.args.id seed c.loop-r.nodes c.loop-r.r 1 (omega arith) (c.loop-r.invariant.held seed h)
