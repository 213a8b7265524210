use Rattle.std.proofs.Common.{◌<◌, ◌≤◌, ◌^◌, arith, subst}
use Rattle.cbor_core.specs.declared.tree.Item.{Item}
use Rattle.log_replay.specs.Spelling.{IsWritten, IsEntryOf}
use Rattle.log_replay.proofs.ReadsAgain.{if_ok, entry_whole}
use Rattle.log_replay.proofs.writing.entry_bytes.Goals as goal

pub returns : goal.returns
returns c =
    let few : c.args.at < 2 ^ 64 = omega arith in
    let small : c.args.rule ≤ 65535 = omega arith in
    if_ok c.strict.result (IsWritten c.in_ok-item.item) (IsEntryOf c.args.at c.args.rule c.args.logged.now)
    (λ leaf w. entry_whole c.args.at c.args.rule c.args.logged.now leaf (c.shape_laws.ensures.entry c.args.at c.args.rule c.args.logged.now few small c.requires) small
    (subst (λ (i : Item). IsWritten i leaf) c.in_ok-item.ensures w))
    c.strict.ensures
