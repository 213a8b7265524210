-- Each turn takes one hash of the path.
use Rattle.std.proofs.Common.{◌≡◌, ◌+◌, sym, ◌∙◌, arith, drop}
use Rattle.lms_tree.specs.Verifies.{hashes}
use Rattle.lms_tree.proofs.PathLaws.{hashes_next, hashes_ended, root_from_next, root_from_ended}
use Rattle.lms_tree.proofs.verifying.root_from.Goals as goal

pub loop-i-preserved : goal.loop-i-preserved
loop-i-preserved c =
    let s = c.args.sig.now in
    let path = drop (c.loop-i.i + 1) (hashes s c.args.start c.args.count) in
    let reached = rw c.hash_at.ensures at c.above-reached.ensures in
    let next = hashes_next s c.args.start c.args.count c.loop-i.i (omega arith) in
    let one = root_from_next c.args.id c.loop-i.number c.loop-i.reached _ path in
    rw reached (sym one ∙ rw next at c.loop-i.invariant)

pub returns : goal.returns
returns c =
    let last : c.loop-i.i ≡ c.args.count = omega arith in
    let none = hashes_ended c.args.sig.now c.args.start c.args.count in
    sym (root_from_ended c.args.id c.loop-i.number c.loop-i.reached) ∙ rw (last, none) at c.loop-i.invariant
