use Rattle.std.proofs.Common.{rules, take}
use Rattle.merkle_tree.proofs.Leading.{proof_of_entries}
use Rattle.merkle_tree.proofs.RunRoots.{aligned_start}
use Rattle.merkle_tree.proofs.table.NodeTable.consistency.Goals as goal

pub put_proof-requires-clause-aligned : goal.put_proof-requires-clause-aligned
put_proof-requires-clause-aligned c = aligned_start c.args.size

pub returns-clause-of_entries : goal.returns-clause-of_entries
returns-clause-of_entries c entries are = proof_of_entries c.args.old c.put_proof.new.path (take c.args.size c.args.self.now.leaves) entries (search rules) are
