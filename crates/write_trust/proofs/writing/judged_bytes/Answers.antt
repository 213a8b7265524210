use Rattle.std.proofs.Common.{List, ℕ, sym, subst}
use Rattle.cbor_core.specs.declared.words.Grammar.TheVariants.{Strict}
use Rattle.cbor_core.specs.Spells.{Spells}
use Rattle.write_trust.proofs.Judging.{written_ok, fault_of}
use Rattle.write_trust.proofs.writing.judged_bytes.Goals as goal

pub returns-in-Ok : goal.returns-in-Ok
returns-in-Ok c = written_ok c.whole_bytes_have_one_answer.ensures.one_item c.args.bytes c.args.item.now c.requires c.in-Ok._trust (rw c.as_slice.ensures at c.in-Ok.ensures)

pub returns-in-Err-Cbor : goal.returns-in-Err-Cbor
returns-in-Err-Cbor c =
    let spelled = subst (λ (b : List ℕ). Spells Strict c.args.item.now b) (sym c.as_slice.ensures) c.requires in
    let fault = fault_of c.as_slice.result.now c.in-Err-Cbor.field-0 c.in-Err-Cbor._fault c.in-Err-Cbor.ensures c.in-Err-Cbor.field-0-is in
    absurd (c.whole_bytes_have_one_answer.ensures.not_both Strict c.as_slice.result.now c.args.item.now c.in-Err-Cbor._fault spelled fault)
