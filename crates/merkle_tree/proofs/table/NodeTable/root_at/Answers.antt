use Rattle.std.proofs.Common.{take, sym, ap, ◌∙◌}
use Rattle.merkle_tree.specs.Mth.{tree_root}
use Rattle.merkle_tree.proofs.Roots.{tree_root-none, root_of_entries}
use Rattle.merkle_tree.proofs.RunRoots.{aligned_start}
use Rattle.merkle_tree.proofs.table.NodeTable.root_at.Goals as goal

pub returns-then-size-eq0-clause-root : goal.returns-then-size-eq0-clause-root
returns-then-size-eq0-clause-root c = c.empty_root.ensures ∙ sym tree_root-none ∙ ap (λ n. tree_root (take n c.args.self.now.leaves)) (sym c.if-size-eq0.true)

pub returns-then-size-eq0-clause-of_entries : goal.returns-then-size-eq0-clause-of_entries
returns-then-size-eq0-clause-of_entries c entries are = root_of_entries _ _ entries (returns-then-size-eq0-clause-root c) are

pub root-requires-clause-aligned : goal.root-requires-clause-aligned
root-requires-clause-aligned c = aligned_start c.args.size

pub returns-clause-root : goal.returns-clause-root
returns-clause-root c = c.root.ensures ∙ ap (λ all. tree_root (take c.args.size all)) c.runs.ensures.leaves

pub returns-clause-of_entries : goal.returns-clause-of_entries
returns-clause-of_entries c entries are = root_of_entries _ _ entries (returns-clause-root c) are
