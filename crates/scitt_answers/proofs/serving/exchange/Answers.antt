use Rattle.std.proofs.Common.{◌++◌, [], inl, inr, refl, true}
use Rattle.std.proofs.KnownBytes.{Consumes-nil, Appends-nil}
use Rattle.scitt_answers.specs.Exchanges.{ClockState, request, refused, state_of}
use Rattle.scitt_answers.proofs.Told.{refused_told}
use Rattle.scitt_answers.proofs.Exchanging.{nothing_served, unwritten, one_failed, one_answered, ends_in_one, still_left}
use Rattle.scitt_answers.proofs.serving.exchange.Goals.{in-Err, in-Ok-write_response}
use Rattle.scitt_answers.proofs.serving.exchange.Goals as goal

pub returns-in_default-clause-served : goal.returns-in_default-clause-served
returns-in_default-clause-served g c = nothing_served [] (Consumes-nil _) (Appends-nil _) tt

pub returns-in-Ended-clause-served : goal.returns-in-Ended-clause-served
returns-in-Ended-clause-served g c =
    let t = c.in-Ended.ensures.takes c.requires.wire in
    nothing_served t.bytes t.taken (unwritten _ _ (g.met.L.Link.taken_kept _ _ c.in-Ended.ensures.keeps)) (inl (tt, t.gives.0, t.gives.1))

pub returns-in-CutShort-clause-served : goal.returns-in-CutShort-clause-served
returns-in-CutShort-clause-served g c =
    let t = c.in-CutShort.ensures.takes c.requires.wire in
    nothing_served t.bytes t.taken (unwritten _ _ (g.met.L.Link.taken_kept _ _ c.in-CutShort.ensures.keeps)) (tt, t.gives.0, t.gives.1)

pub returns-in-ReadFault-clause-served : goal.returns-in-ReadFault-clause-served
returns-in-ReadFault-clause-served g c =
    let t = c.in-ReadFault.ensures.takes c.requires.wire in
    nothing_served t.bytes t.taken (unwritten _ _ (g.met.L.Link.taken_kept _ _ c.in-ReadFault.ensures.keeps)) tt

pub returns-in-OutOfMemory-clause-served : goal.returns-in-OutOfMemory-clause-served
returns-in-OutOfMemory-clause-served g c =
    let t = c.in-OutOfMemory.ensures.takes c.requires.wire in
    nothing_served t.bytes t.taken (unwritten _ _ (g.met.L.Link.taken_kept _ _ c.in-OutOfMemory.ensures.keeps)) tt

pub returns-in-Refused-clause-served : goal.returns-in-Refused-clause-served
returns-in-Refused-clause-served g c =
    let t = c.in-Refused.ensures.takes c.requires.wire in
    let kept = g.met.L.Link.taken_kept _ _ c.in-Refused.ensures.keeps in
    let clock : ClockState = state_of g.C.Clock.misses g.C.Clock.readings g.C.Clock.moments c.args.clock.now in
    let asked = refused c.in-Refused.fault c.in-Refused.of_head in
    let a = refused_told g.T.Turns.follows asked (record { close = true; head_only = c.in-Refused.of_head }) clock _ c.refuse-answer.ensures.turned (rw c.head_problem.ensures at c.refuse-answer.ensures.answer) in
    let left = g.met.L.Link.left_kept _ _ c.write_response.ensures.keeps in
    elim c.match-write_response.branch [
      | in-Err w ↦ rw w.result-is (one_failed asked c.refuse-answer.result t.bytes (c.args.wire.now.held ++ t.bytes) a (g.met.T.Turns.follows_last _) (still_left _ _ _ t.bytes left t.taken) (t.gives, refl, refl) kept w.in-Err.ensures.front)
      | in-Ok-write_response w ↦ rw w.result-is (one_answered asked c.refuse-answer.result t.bytes (c.args.wire.now.held ++ t.bytes) a (g.met.T.Turns.follows_last _) (still_left _ _ _ t.bytes left t.taken) (t.gives, refl, refl) kept w.in-Ok-write_response.ensures.front (λ es h. h) (ends_in_one _ _ tt))
    ]

pub returns-in-Err-write_response-clause-served : goal.returns-in-Err-write_response-clause-served
returns-in-Err-write_response-clause-served g c =
    let t = c.in-Request.ensures.takes c.requires.wire in
    let kept = g.met.L.Link.taken_kept _ _ c.in-Request.ensures.keeps in
    let left = g.met.L.Link.left_kept _ _ c.in-Err-write_response.ensures.keeps in
    one_failed (request c.in-Request.request) c.answer-answer.result t.bytes c.next_request.new.self.held c.answer-answer.ensures.answered (g.met.T.Turns.follows_last _) (still_left _ _ _ t.bytes left t.taken)
    (c.next_request.new.self.held, t.gives, refl) kept c.in-Err-write_response.ensures.front

pub returns-in-Ok-write_response-2-clause-served : goal.returns-in-Ok-write_response-2-clause-served
returns-in-Ok-write_response-2-clause-served g c =
    let t = c.in-Request.ensures.takes c.requires.wire in
    let kept = g.met.L.Link.taken_kept _ _ c.in-Request.ensures.keeps in
    let left = g.met.L.Link.left_kept _ _ c.in-Ok-write_response-2.ensures.keeps in
    one_answered (request c.in-Request.request) c.answer-answer.result t.bytes c.next_request.new.self.held c.answer-answer.ensures.answered (g.met.T.Turns.follows_last _) (still_left _ _ _ t.bytes left t.taken)
    (c.next_request.new.self.held, t.gives, refl) kept c.in-Ok-write_response-2.ensures.front (λ es h. h) (inr (ends_in_one _ _ c.if-close.true))

pub returns-clause-served : goal.returns-clause-served
returns-clause-served g c =
    let t = c.in-Request.ensures.takes c.requires.wire in
    let kept = g.met.L.Link.taken_kept _ _ c.in-Request.ensures.keeps in
    let left = g.met.L.Link.left_kept _ _ c.in-Ok-2.ensures.keeps in
    one_answered (request c.in-Request.request) c.answer-answer.result t.bytes c.next_request.new.self.held c.answer-answer.ensures.answered (g.met.T.Turns.follows_last _) (still_left _ _ _ t.bytes left t.taken)
    (c.next_request.new.self.held, t.gives, refl) kept c.in-Ok-2.ensures.front (λ es h. h) ((c.if-close.false, tt), refl, refl)
