use Rattle.std.proofs.Common.{ap, inl, inr, Err}
use Rattle.http_wire.specs.declared.request.Stop.{Stop}
use Rattle.std.proofs.lemmas.Result.{err_from_is_err_and}
use Rattle.http_wire.proofs.Stopping.{fails_at, stops_at_parts, fails_in_body, takes_request}
use Rattle.http_wire.proofs.wire.request_from.Goals as goal

pub returns-in_err-parts-clause-stops : goal.returns-in_err-parts-clause-stops
returns-in_err-parts-clause-stops g c =
    let p = err_from_is_err_and c.from_residual-in_err-parts.result c.from_residual-in_err-parts.ensures.1 in
    let head = c.in_ok-head.ensures in
    rw (p.1, p.2) (fails_at head.gathers
    (stops_at_parts c.read_head.new.held.items c.read_head.new.headers c.in_ok-head.head head.found.0 _ _ c.read_head.auto.headers head.short head.within.section.len_fits head.found.1
    (c.in_err-parts.ensures head.found.0 (rw c.as_slice.ensures.value head.found.1))))

pub returns-in_err-body-clause-stops : goal.returns-in_err-body-clause-stops
returns-in_err-body-clause-stops g c =
    let p = err_from_is_err_and c.from_residual-in_err-body.result c.from_residual-in_err-body.ensures.1 in
    let head = c.in_ok-head.ensures in
    let parts = c.in_ok-parts.ensures head.found.0 (rw c.as_slice.ensures.value head.found.1) in
    rw (p.1, p.2) (fails_in_body _ _ _ _ _ c.read_head.new.headers c.in_ok-head.head head.found.0 c.in_ok-parts.parts.size _ head.gathers c.read_head.auto.headers head.short head.within.section.len_fits head.found.1 parts.size
    (elim c.in_err-body.ensures.why [ inl e ↦ inl (e, c.in_err-body.ensures.cut (ap (λ (why : Stop). Err why) e)) | inr e ↦ inr (e, c.in_err-body.ensures.lost) ]))

pub returns-clause-request : goal.returns-clause-request
returns-clause-request g c =
    let head = c.in_ok-head.ensures in
    let parts = c.in_ok-parts.ensures head.found.0 (rw c.as_slice.ensures.value head.found.1) in
    let t = takes_request _ _ _ _ _ _ c.read_head.new.headers c.in_ok-head.head head.found.0 _ c.in_ok-parts.parts.size head.gathers c.read_head.auto.headers head.short head.within.section.len_fits head.found.1 parts.size c.in_ok-body.ensures.body in
    rw (parts.method, parts.target, parts.cose, parts.close, c.from_vec.ensures) t
