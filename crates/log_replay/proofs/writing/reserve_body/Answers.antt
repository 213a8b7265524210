use Rattle.std.proofs.Common.{◌<◌, ◌^◌, arith, subst}
use Rattle.cbor_core.specs.declared.tree.Item.{Item}
use Rattle.log_replay.specs.Records.{reserve_record}
use Rattle.log_replay.specs.Spelling.{IsWritten, IsBodyOf}
use Rattle.log_replay.proofs.ReadsAgain.{if_ok, body_again, reserve_reads}
use Rattle.log_replay.proofs.writing.reserve_body.Goals as goal

pub returns : goal.returns
returns c =
    let few : c.args.upto < 2 ^ 64 = omega arith in
    if_ok c.strict.result (IsWritten c.in_ok-item.item) (IsBodyOf (reserve_record c.args.upto))
    (λ body w. body_again 27 (reserve_record c.args.upto) body (c.shape_laws.ensures.reserve c.args.upto few) (omega arith) (reserve_reads c.args.upto)
    (subst (λ (i : Item). IsWritten i body) c.in_ok-item.ensures w))
    c.strict.ensures
