-- Each turn writes one node of the path.
use Rattle.std.proofs.Common.{◌≡◌, ◌+◌, ◌/◌, ◌^◌, ◌<◌, ◌∙◌, ◌++◌, ap, take, suc, [], get_or, length, arith}
use Rattle.std.proofs.Math.Nat.{div-one, div-le_self}
use Rattle.lms_tree.specs.Types.{height, leaf_count}
use Rattle.lms_tree.specs.Nodes.{path_node, sibling}
use Rattle.lms_tree.proofs.NodeLaws.{number_more}
use Rattle.lms_tree.proofs.PathLaws.{path_begun, path_longer}
use Rattle.lms_tree.proofs.TreeLaws.{path_within, path_held}
use Rattle.lms_tree.proofs.growing.write_path.Goals as goal

pub loop-init : goal.loop-init
loop-init c =
    let x = leaf_count c.args.level + c.args.q in
    record {
      number = omega (arith, div-one x, c.leaf_count.ensures.value);
      reached = omega arith;
      written = λ id seed h. path_begun c.word_law.ensures (take c.args.start c.args.buf.now) (path_node c.args.level id seed c.args.q);
    }

pub loop-preserved : goal.loop-preserved
loop-preserved c =
    let level = c.args.level in
    let x = leaf_count level + c.args.q in
    let i = c.loop.counter in
    let inside : i < height level = omega (arith, c.height-end.ensures.value) in
    let beside : c.sibling.result ≡ sibling (x / 2 ^ i) = c.sibling.ensures ∙ ap (λ m. sibling m) c.loop.invariant.number in
    let within : c.sibling.result < length c.args.nodes.now = omega (arith, beside, path_within level c.args.q i c.requires.leaf inside, c.requires.whole) in
    let next : i + 1 ≡ suc i = omega arith in
    let node = get_or c.args.nodes.now c.sibling.result [] in
    record {
      number = rw next (ap (λ m. m / 2) c.loop.invariant.number ∙ number_more x i);
      reached = omega (arith, c.put-place.ensures.end, c.told-nodes c.sibling.result within, c.loop.invariant.reached);
      written = λ id seed h.
          let is : node ≡ path_node level id seed c.args.q i = rw beside (path_held level c.args.q i c.requires.leaf inside id seed c.args.nodes.now h) in
          let before = take c.args.start c.args.buf.now in
          c.put-place.ensures.written ∙ ap (λ xs. xs ++ node) (c.loop.invariant.written id seed h) ∙ path_longer c.word_law.ensures before (path_node level id seed c.args.q) i node is;
    }

pub sibling-requires : goal.sibling-requires
sibling-requires c =
    let x = leaf_count c.args.level + c.args.q in
    let small = div-le_self x (2 ^ c.loop.counter) in
    omega (arith, c.leaf_count.ensures.value, c.leaf_count.ensures.bound, c.loop.invariant.number, c.requires.leaf)

pub returns : goal.returns
returns c = λ id seed h.
    let last : c.loop.counter ≡ c.height-end.result = omega arith in
    let count = last ∙ c.height-end.ensures.value in
    let place = rw count at c.loop.invariant.reached in
    rw (← place) (rw count at (c.loop.invariant.written id seed h))
