use Rattle.std.proofs.lemmas.Result.{err_from_is_err_and}
use Rattle.http_wire.specs.Answering.{answer_bytes}
use Rattle.http_wire.proofs.Writing.{front_err, front_then, whole_head_only, whole_with_body}
use Rattle.http_wire.proofs.response.write_response.Goals as goal

pub returns-in_err-write_all-clause-front : goal.returns-in_err-write_all-clause-front
unfolding answer_bytes
returns-in_err-write_all-clause-front g c =
    let p = err_from_is_err_and c.from_residual.result c.from_residual.ensures.1 in
    rw p.1 (front_err _ _ _ _ _ _ (rw (c.as_bytes.ensures.value, c.as_str.ensures.value, c.head_of-head.ensures) at c.in_err-write_all.ensures.front))

pub returns-then-answer-clause-front : goal.returns-then-answer-clause-front
returns-then-answer-clause-front g c =
    rw (whole_head_only c.args.answer.now c.if-answer.true) (rw (c.as_bytes.ensures.value, c.as_str.ensures.value, c.head_of-head.ensures) at c.in_ok-write_all.ensures.front)

pub returns-clause-front : goal.returns-clause-front
returns-clause-front g c =
    rw (whole_with_body c.args.answer.now c.if-answer.false)
    (front_then _ _ _ _ _ _ (rw (c.as_bytes.ensures.value, c.as_str.ensures.value, c.head_of-head.ensures) at c.in_ok-write_all.ensures.front) (rw c.as_slice.ensures at c.write_all-2.ensures.front))
