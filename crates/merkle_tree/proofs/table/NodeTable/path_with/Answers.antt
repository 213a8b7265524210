use Rattle.std.proofs.Common.{rules, ◌≡◌, ◌+◌, ◌++◌, length, take, drop, ap, ◌∙◌, arith, length-append}
use Rattle.merkle_tree.specs.Paths.{tree_path}
use Rattle.merkle_tree.proofs.Leading.{path_of_entries}
use Rattle.merkle_tree.proofs.RunRoots.{aligned_start}
use Rattle.merkle_tree.proofs.RunSteps.{all_of}
use Rattle.merkle_tree.proofs.table.NodeTable.path_with.Goals as goal

pub put_path-requires-clause-aligned : goal.put_path-requires-clause-aligned
put_path-requires-clause-aligned c = aligned_start (c.len.result + length c.args.more.now)

pub returns-clause-path : goal.returns-clause-path
returns-clause-path c =
    let count : c.len.result ≡ length c.args.self.now.leaves = search rules in
    let all = c.args.self.now.leaves ++ c.args.more.now in
    let n = c.len.result + length c.args.more.now in
    let runs = c.runs_with-runs.result in
    c.in_ok-put_path.ensures ∙ ap (λ p. p ++ tree_path c.args.index (take n (drop 0 runs))) c.new-path.ensures
    ∙ ap (tree_path c.args.index) (all_of n runs all c.runs_with-runs.ensures (omega (arith, count, length-append c.args.self.now.leaves c.args.more.now)))

pub returns-clause-of_entries : goal.returns-clause-of_entries
returns-clause-of_entries c entries are = path_of_entries c.args.index c.put_path.new.path (c.args.self.now.leaves ++ c.args.more.now) entries (returns-clause-path c) are
