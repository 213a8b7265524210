use Rattle.std.proofs.Common.{◌≡◌, [], ◌∷◌, ◌++◌, length, rules, replicate}
use Rattle.merkle_tree.proofs.NoteLaws.{noted_before}
use Rattle.merkle_tree.proofs.table.NodeTable.push.Goals as goal

pub note_subtrees-requires-clause-before : goal.note_subtrees-requires-clause-before
note_subtrees-requires-clause-before c =
    let leaves : c.as_slice.result.now ≡ c.self.inside.leaves.items ++ c.args.leaf ∷ [] = search rules in
    let inner : c.as_mut_slice.result.now ≡ c.self.inside.inner.items ++ replicate 32 0 ∷ [] = search rules in
    let same : length c.self.inside.inner.items ≡ length c.self.inside.leaves.items = search rules in
    rw (leaves, inner) (noted_before c.self.inside.leaves.items c.self.inside.inner.items c.args.leaf (replicate 32 0) c.self.invariant.4 same)
