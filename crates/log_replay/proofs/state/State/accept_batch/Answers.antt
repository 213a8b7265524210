use Rattle.std.proofs.Common.{◌≡◌, ◌≤◌, ◌<◌, ◌^◌, ◌∙◌, ◌++◌, ◌∷◌, [], ℕ, List, Some, sym, ap, subst, arith}
use Rattle.std.specs.Option.{is_some}
use Rattle.cbor_core.specs.Exact.{strict_text}
use Rattle.merkle_tree.specs.Mth.{leaf_hash}
use Rattle.statement.specs.Said.{said_of}
use Rattle.log_replay.specs.Records.{entry_item}
use Rattle.log_replay.specs.Steps.{entry_text, batch_with}
use Rattle.log_replay.specs.Kept.{Kept, StateOf, with_batch}
use Rattle.log_replay.specs.KeptRows.{with_record}
use Rattle.log_replay.specs.StateSeen.{kept_of}
use Rattle.log_replay.proofs.Accepting.{fits_made, added_as}
use Rattle.log_replay.proofs.AcceptingBatch.{accepts}
use Rattle.log_replay.proofs.Making.{same_made}
use Rattle.log_replay.proofs.state.State.accept_batch.Goals as goal

pub add_batch-requires-clause-header : goal.add_batch-requires-clause-header
add_batch-requires-clause-header c =
    let K = kept_of c.args.self.now in
    let s = said_of c.args.checked.now.statement in
    let few : c.args.at < 2 ^ 64 = omega arith in
    let small : c.args.rule ≤ 65535 = omega arith in
    let a = accepts c.state_laws.ensures.failing c.log_laws.ensures.one_less c.strict_items_are_spelled.ensures.again c.shape_laws.ensures.entry K c.args.at c.args.rule s c.args.index c.args.signature.now
    few small c.reads_again.ensures.short c.reads_again.ensures.reads c.requires.fits c.args.self.now.made in
    ap is_some a.says.headed

pub add_batch-requires-clause-count : goal.add_batch-requires-clause-count
add_batch-requires-clause-count c =
    let K = kept_of c.args.self.now in
    let s = said_of c.args.checked.now.statement in
    let few : c.args.at < 2 ^ 64 = omega arith in
    let small : c.args.rule ≤ 65535 = omega arith in
    let a = accepts c.state_laws.ensures.failing c.log_laws.ensures.one_less c.strict_items_are_spelled.ensures.again c.shape_laws.ensures.entry K c.args.at c.args.rule s c.args.index c.args.signature.now
    few small c.reads_again.ensures.short c.reads_again.ensures.reads c.requires.fits c.args.self.now.made in
    let room = a.says.room in
    let most = c.args.self.now.most a.says.head a.says.headed in
    omega (arith, room, most)

pub add_batch-requires-clause-bytes : goal.add_batch-requires-clause-bytes
add_batch-requires-clause-bytes c =
    let K = kept_of c.args.self.now in
    let s = said_of c.args.checked.now.statement in
    let few : c.args.at < 2 ^ 64 = omega arith in
    let small : c.args.rule ≤ 65535 = omega arith in
    let a = accepts c.state_laws.ensures.failing c.log_laws.ensures.one_less c.strict_items_are_spelled.ensures.again c.shape_laws.ensures.entry K c.args.at c.args.rule s c.args.index c.args.signature.now
    few small c.reads_again.ensures.short c.reads_again.ensures.reads c.requires.fits c.args.self.now.made in
    a.says.bytes

pub add_batch-requires-clause-index : goal.add_batch-requires-clause-index
add_batch-requires-clause-index c =
    let K = kept_of c.args.self.now in
    let s = said_of c.args.checked.now.statement in
    let few : c.args.at < 2 ^ 64 = omega arith in
    let small : c.args.rule ≤ 65535 = omega arith in
    let a = accepts c.state_laws.ensures.failing c.log_laws.ensures.one_less c.strict_items_are_spelled.ensures.again c.shape_laws.ensures.entry K c.args.at c.args.rule s c.args.index c.args.signature.now
    few small c.reads_again.ensures.short c.reads_again.ensures.reads c.requires.fits c.args.self.now.made in
    let below = a.says.below in
    let most = c.args.self.now.bounded in
    omega (arith, below, most)

pub add_batch-requires-clause-made : goal.add_batch-requires-clause-made
add_batch-requires-clause-made c =
    let K = kept_of c.args.self.now in
    let s = said_of c.args.checked.now.statement in
    let few : c.args.at < 2 ^ 64 = omega arith in
    let small : c.args.rule ≤ 65535 = omega arith in
    let a = accepts c.state_laws.ensures.failing c.log_laws.ensures.one_less c.strict_items_are_spelled.ensures.again c.shape_laws.ensures.entry K c.args.at c.args.rule s c.args.index c.args.signature.now
    few small c.reads_again.ensures.short c.reads_again.ensures.reads c.requires.fits c.args.self.now.made in
    let hash : c.entry_hash-hash.result ≡ leaf_hash (entry_text c.args.at c.args.rule s) =
    c.entry_hash-hash.ensures ∙ ap (λ (l : List ℕ). leaf_hash (strict_text (entry_item c.args.at c.args.rule l))) c.as_slice.ensures in
    same_made (with_record K (Some (batch_with c.args.at c.args.rule s c.args.index c.args.signature.now))) (with_batch K c.args.index c.entry_hash-hash.result c.args.at s)
    (a.kept ∙ ap (λ (x : List ℕ). with_batch K c.args.index x c.args.at s) (sym hash))
    (fits_made c.state_laws.ensures.failing c.state_laws.ensures.added c.log_laws.ensures.one_less K (batch_with c.args.at c.args.rule s c.args.index c.args.signature.now) c.requires.fits c.args.self.now.made)

pub returns-clause-kept : goal.returns-clause-kept
returns-clause-kept c =
    let K = kept_of c.args.self.now in
    let s = said_of c.args.checked.now.statement in
    let hash : c.entry_hash-hash.result ≡ leaf_hash (entry_text c.args.at c.args.rule s) =
    c.entry_hash-hash.ensures ∙ ap (λ (l : List ℕ). leaf_hash (strict_text (entry_item c.args.at c.args.rule l))) c.as_slice.ensures in
    c.add_batch.ensures ∙ ap (λ (x : List ℕ). with_batch K c.args.index x c.args.at s) hash

pub returns-clause-log : goal.returns-clause-log
returns-clause-log c =
    let K = kept_of c.args.self.now in
    let s = said_of c.args.checked.now.statement in
    let few : c.args.at < 2 ^ 64 = omega arith in
    let small : c.args.rule ≤ 65535 = omega arith in
    let a = accepts c.state_laws.ensures.failing c.log_laws.ensures.one_less c.strict_items_are_spelled.ensures.again c.shape_laws.ensures.entry K c.args.at c.args.rule s c.args.index c.args.signature.now
    few small c.reads_again.ensures.short c.reads_again.ensures.reads c.requires.fits c.args.self.now.made in
    let hash : c.entry_hash-hash.result ≡ leaf_hash (entry_text c.args.at c.args.rule s) =
    c.entry_hash-hash.ensures ∙ ap (λ (l : List ℕ). leaf_hash (strict_text (entry_item c.args.at c.args.rule l))) c.as_slice.ensures in
    let kept = c.add_batch.ensures ∙ ap (λ (x : List ℕ). with_batch K c.args.index x c.args.at s) hash ∙ sym a.kept in
    λ R body was reads.
    subst (λ (X : Kept). StateOf X (R ++ body ∷ [])) (sym kept)
    (added_as c.state_laws.ensures.failing c.state_laws.ensures.added K R body (batch_with c.args.at c.args.rule s c.args.index c.args.signature.now) was reads a.none)
