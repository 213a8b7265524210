use Rattle.std.proofs.Common.{◌<◌, ◌^◌, [], ◌∷◌, arith, subst}
use Rattle.cbor_core.specs.declared.tree.Item.{Item}
use Rattle.log_replay.specs.declared.parts.BatchParts.{BatchParts}
use Rattle.log_replay.specs.Records.{batch_record}
use Rattle.log_replay.specs.Spelling.{IsWritten, IsBodyOf}
use Rattle.log_replay.proofs.ReadsAgain.{if_ok, body_again, batch_reads}
use Rattle.log_replay.proofs.writing.one_batch.Goals as goal

pub returns : goal.returns
returns c =
    let few : c.args.index < 2 ^ 64 = omega arith in
    let b : BatchParts = record { entries = c.args.entry.now ∷ []; index = c.args.index; signature = c.args.signature.now } in
    if_ok c.strict.result (IsWritten c.in_ok-item.item) (IsBodyOf (batch_record b))
    (λ body w. body_again 8392758 (batch_record b) body (c.shape_laws.ensures.batch c.args.entry.now c.args.signature.now c.args.index c.requires.entry c.requires.signature few) (omega arith) (batch_reads b)
    (subst (λ (i : Item). IsWritten i body) c.in_ok-item.ensures w))
    c.strict.ensures
