use Rattle.std.proofs.Common.{rules, ◌≡◌, ◌+◌, ◌++◌, length, ap, ◌∙◌, arith, length-append}
use Rattle.merkle_tree.specs.Mth.{tree_root}
use Rattle.merkle_tree.proofs.Roots.{tree_root-short, root_of_entries}
use Rattle.merkle_tree.proofs.RunRoots.{aligned_start}
use Rattle.merkle_tree.proofs.RunSteps.{all_of}
use Rattle.merkle_tree.proofs.table.NodeTable.root_with.Goals as goal

pub returns-then-size-eq0-clause-root : goal.returns-then-size-eq0-clause-root
returns-then-size-eq0-clause-root c =
    let count : c.len.result ≡ length c.args.self.now.leaves = search rules in
    c.empty_root.ensures ∙ tree_root-short (c.args.self.now.leaves ++ c.args.more.now) (omega (arith, length-append c.args.self.now.leaves c.args.more.now, c.if-size-eq0.true, count))

pub returns-then-size-eq0-clause-of_entries : goal.returns-then-size-eq0-clause-of_entries
returns-then-size-eq0-clause-of_entries c entries are = root_of_entries _ _ entries (returns-then-size-eq0-clause-root c) are

pub root-requires-clause-aligned : goal.root-requires-clause-aligned
root-requires-clause-aligned c = aligned_start (c.len.result + length c.args.more.now)

pub returns-clause-root : goal.returns-clause-root
returns-clause-root c =
    let count : c.len.result ≡ length c.args.self.now.leaves = search rules in
    let all = c.args.self.now.leaves ++ c.args.more.now in
    c.root.ensures
    ∙ ap tree_root (all_of (c.len.result + length c.args.more.now) c.runs_with.result all c.runs_with.ensures (omega (arith, count, length-append c.args.self.now.leaves c.args.more.now)))

pub returns-clause-of_entries : goal.returns-clause-of_entries
returns-clause-of_entries c entries are = root_of_entries _ _ entries (returns-clause-root c) are
