-- The key is written piece by piece, and node 1 is the root.
use Rattle.std.proofs.Common.{◌≡◌, [], ◌++◌, ◌≤◌, ◌<◌, ◌^◌, ◌∙◌, ap, subst, length, arith}
use Rattle.std.proofs.lemmas.List.{take_all, get_or_read}
use Rattle.std.proofs.Math.Pow.{pow_pos}
use Rattle.lms_ots.specs.Words.{u32str}
use Rattle.lms_ots.specs.Parameters.{parameters}
use Rattle.lms_tree.specs.Types.{lms_parameters, height}
use Rattle.lms_tree.specs.Nodes.{lms_public, root}
use Rattle.lms_tree.specs.Trees.{TreeKey}
use Rattle.lms_tree.proofs.NodeLaws.{length-node}
use Rattle.lms_tree.proofs.tree.Tree.public.Goals as goal

pub returns : goal.returns
unfolding lms_public
returns c =
    let t = c.self.inside in
    let within : 1 < length t.nodes.items = (let some : 0 < 2 ^ height t.level = pow_pos (height t.level) in omega (arith, c.self.invariant.held.count)) in
    let read = get_or_read t.nodes.items 1 c.index.result.now within c.index.ensures [] in
    let top : c.index.result.now ≡ root t.level t.id t.seed = read ∙ c.self.invariant.held.each (height t.level) 0 1 (omega arith) (omega arith) (omega arith) (omega arith) in
    let all : length c.put.new.buf ≤ c.put.result =
    omega (arith, c.self.invariant.named, ap length top, length-node t.level t.id t.seed (height t.level) 1) in
    let whole = take_all c.put.result c.put.new.buf all in
    let written : c.put.new.buf ≡ u32str (lms_parameters t.level.lms).code ++ u32str (parameters t.level.ots).code ++ t.id ++ root t.level t.id t.seed = cc in
    subst (λ (k : TreeKey). c.put.new.buf ≡ lms_public k.level k.id k.seed) c.self.view_is written
