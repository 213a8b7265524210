use Rattle.std.proofs.Common.{◌≡◌, ◌∙◌, ℕ, List, Some, None, sym, ap, arith}
use Rattle.cbor_core.specs.Rows.{first_row}
use Rattle.merkle_tree.specs.Mth.{leaf_hash}
use Rattle.log_replay.specs.Records.{entry_of}
use Rattle.log_replay.specs.KeptRows.{kept_entry_failing, kept_batch_rows}
use Rattle.log_replay.specs.StateSeen.{kept_of}
use Rattle.log_replay.proofs.Batching.{or_first, or_second, behind_batch}
use Rattle.log_replay.proofs.state.State.try_single.Goals as goal

pub returns-in-Err : goal.returns-in-Err
returns-in-Err c =
    let K = kept_of c.args.self.now in
    let h = c.args.header.now in
    let p = c.args.policy.now in
    let b = c.args.batch.now in
    let leaf = c.args.leaf.now in
    let fails = rw c.in-Err.is at c.in_ok-ready.ensures in
    or_first c.in-Err.failing (kept_entry_failing h p K (entry_of leaf)) (first_row (kept_batch_rows h K.reserved K.used K.leaves b (leaf_hash leaf))) fails
    ∙ behind_batch K.header K.policy K h p b leaf c.requires.header c.requires.policy c.requires.one

pub returns-in-Some : goal.returns-in-Some
returns-in-Some c =
    let K = kept_of c.args.self.now in
    let h = c.args.header.now in
    let p = c.args.policy.now in
    let b = c.args.batch.now in
    let leaf = c.args.leaf.now in
    let holds = rw c.in-Ok.is at c.in_ok-ready.ensures in
    let fails : Some c.in-Some.failing ≡ first_row (kept_batch_rows h K.reserved K.used K.leaves b (leaf_hash leaf)) =
    sym c.in-Some.is ∙ c.in_ok-failing.ensures.rows
    ∙ ap (λ (xs : List (List ℕ)). first_row (kept_batch_rows h K.reserved K.used xs b c.leaf_hash-hash.result)) c.table-table.ensures.leaves
    ∙ ap (λ (x : List ℕ). first_row (kept_batch_rows h K.reserved K.used K.leaves b x)) c.leaf_hash-hash.ensures in
    or_second (Some c.in-Some.failing) (kept_entry_failing h p K (entry_of leaf)) (first_row (kept_batch_rows h K.reserved K.used K.leaves b (leaf_hash leaf))) holds.none fails
    ∙ behind_batch K.header K.policy K h p b leaf c.requires.header c.requires.policy c.requires.one

pub returns-in-None : goal.returns-in-None
returns-in-None c =
    let K = kept_of c.args.self.now in
    let h = c.args.header.now in
    let p = c.args.policy.now in
    let b = c.args.batch.now in
    let leaf = c.args.leaf.now in
    let holds = rw c.in-Ok.is at c.in_ok-ready.ensures in
    let rows : None ≡ first_row (kept_batch_rows h K.reserved K.used K.leaves b (leaf_hash leaf)) =
    sym c.in-None.is ∙ c.in_ok-failing.ensures.rows
    ∙ ap (λ (xs : List (List ℕ)). first_row (kept_batch_rows h K.reserved K.used xs b c.leaf_hash-hash.result)) c.table-table.ensures.leaves
    ∙ ap (λ (x : List ℕ). first_row (kept_batch_rows h K.reserved K.used K.leaves b x)) c.leaf_hash-hash.ensures in
    let most = c.args.self.now.most h c.requires.header in
    let few = holds.count in
    let index = rw c.in-None.is at c.in_ok-failing.ensures.index in
    record {
      none = sym (or_second None (kept_entry_failing h p K (entry_of leaf)) (first_row (kept_batch_rows h K.reserved K.used K.leaves b (leaf_hash leaf))) holds.none rows
          ∙ behind_batch K.header K.policy K h p b leaf c.requires.header c.requires.policy c.requires.one);
      entry = holds.entry;
      count = omega (arith, most, few);
      bytes = holds.bytes;
      index = index.0;
    }

pub batch_fails-requires-clause-name_some : goal.batch_fails-requires-clause-name_some
batch_fails-requires-clause-name_some c = c.args.self.now.name_some c.args.header.now c.requires.header

pub batch_fails-requires-clause-name_most : goal.batch_fails-requires-clause-name_most
batch_fails-requires-clause-name_most c = c.args.self.now.name_most c.args.header.now c.requires.header
