use Rattle.std.proofs.Common.{rules, take}
use Rattle.merkle_tree.proofs.Leading.{path_of_entries}
use Rattle.merkle_tree.proofs.RunRoots.{aligned_start}
use Rattle.merkle_tree.proofs.table.NodeTable.path.Goals as goal

pub put_path-requires-clause-aligned : goal.put_path-requires-clause-aligned
put_path-requires-clause-aligned c = aligned_start c.args.size

pub returns-clause-of_entries : goal.returns-clause-of_entries
returns-clause-of_entries c entries are = path_of_entries c.args.index c.put_path.new.path (take c.args.size c.args.self.now.leaves) entries (search rules) are
