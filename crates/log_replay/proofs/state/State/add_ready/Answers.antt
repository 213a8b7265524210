use Rattle.std.proofs.Common.{◌≡◌, ◌∙◌, ℕ, List, Some, sym, ap}
use Rattle.merkle_tree.specs.Mth.{leaf_hash}
use Rattle.statement.specs.Said.{said_of}
use Rattle.log_replay.specs.Records.{batch_record}
use Rattle.log_replay.specs.Ready.{ready_entry}
use Rattle.log_replay.specs.Kept.{Kept, with_batch}
use Rattle.log_replay.specs.KeptRows.{with_record}
use Rattle.log_replay.specs.StateSeen.{kept_of}
use Rattle.log_replay.proofs.Making.{still_stands, same_made}
use Rattle.log_replay.proofs.Batching.{record_is_batch}
use Rattle.log_replay.proofs.state.State.add_ready.Goals as goal

pub add_batch-requires-clause-made : goal.add_batch-requires-clause-made
add_batch-requires-clause-made c =
    let K = kept_of c.args.self.now in
    let now = kept_of c.make_room.new.self in
    let b = c.args.batch.now in
    let s = said_of c.args.ready.now.checked.statement in
    let at = c.args.ready.now.at in
    let leaf = c.args.leaf.now in
    let same : with_record K (Some (batch_record b)) ≡ with_batch now b.index c.leaf_hash-hash.result at s =
    record_is_batch K b leaf (ready_entry c.args.ready.now) c.requires.one c.requires.holds.entry
    ∙ ap (λ (X : Kept). with_batch X b.index (leaf_hash leaf) at s) (sym c.in_ok-make_room.ensures.kept)
    ∙ ap (λ (x : List ℕ). with_batch now b.index x at s) (sym c.leaf_hash-hash.ensures) in
    same_made (with_record K (Some (batch_record b))) (with_batch now b.index c.leaf_hash-hash.result at s) same
    (still_stands c.state_laws.ensures.failing c.state_laws.ensures.added K c.args.body.now (Some (batch_record b)) c.requires.reads c.requires.holds.none c.args.self.now.made)

pub returns-clause-ok : goal.returns-clause-ok
returns-clause-ok c =
    let K = kept_of c.args.self.now in
    let now = kept_of c.make_room.new.self in
    let b = c.args.batch.now in
    let s = said_of c.args.ready.now.checked.statement in
    let at = c.args.ready.now.at in
    let leaf = c.args.leaf.now in
    c.add_batch.ensures
    ∙ ap (λ (x : List ℕ). with_batch now b.index x at s) c.leaf_hash-hash.ensures
    ∙ ap (λ (X : Kept). with_batch X b.index (leaf_hash leaf) at s) c.in_ok-make_room.ensures.kept
    ∙ sym (record_is_batch K b leaf (ready_entry c.args.ready.now) c.requires.one c.requires.holds.entry)
