use Rattle.std.proofs.Common.{◌+◌, ◌-◌, length, ap, arith}
use Rattle.std.proofs.lemmas.Result.{err_from_is_err_and}
use Rattle.auditor.specs.Fetches.{IsFront, IsBehind}
use Rattle.auditor.proofs.Gates.{took_then_stopped, took_then_more}
use Rattle.auditor.proofs.stepping.read_behind_gate.Goals as goal

pub returns-in_err-bytes-clause-took : goal.returns-in_err-bytes-clause-took
returns-in_err-bytes-clause-took g c =
    let p = err_from_is_err_and c.from_residual-in_err-bytes.result c.from_residual-in_err-bytes.ensures.1 in
    let first = c.in_ok-four.ensures.took in
    rw (p.1, p.2) (took_then_stopped c.args.room (c.args.room - 4) (IsFront (c.from.result + 1)) IsBehind _ _ _ first.bytes c.in_err-bytes.field-0.0 first.taken
    (omega (arith, ap length first.is.items, first.is.most, c.if-len-lt4.false, c.len.ensures, c.in_ok-four.ensures.few)) c.in_err-bytes.ensures.took)

pub returns-clause-took : goal.returns-clause-took
returns-clause-took g c =
    let first = c.in_ok-four.ensures.took in
    let next = c.in_ok-bytes.ensures.took in
    let behind = c.parted.ensures (g.S.Source.left c.fetch-2.new.source) (λ short. next.is.end (omega (arith, short, ap length next.is.items))) in
    took_then_more c.args.room (c.args.room - 4) (IsFront (c.from.result + 1)) IsBehind _ _ _ first.bytes c.in_ok-bytes.bytes c.parted.result first.taken
    (omega (arith, ap length first.is.items, first.is.most, c.if-len-lt4.false, c.len.ensures, c.in_ok-four.ensures.few)) next
    (rw (← first.is.items, ← next.is.items, ← c.deref-2.ensures.value) behind)
