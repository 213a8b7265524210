use Rattle.std.proofs.Common.{◌≡◌, ◌∙◌, ℕ, Result, Err, ap, subst, arith}
use Rattle.hss_keys.specs.Levels.{capacity}
use Rattle.key_store.specs.declared.records.KeyHead.{KeyHead}
use Rattle.key_store.specs.declared.stops.TakeStop.{TakeStop}
use Rattle.key_store.specs.declared.stops.TakeStop.TheVariants.{Exhausted}
use Rattle.key_store.specs.Keys.{IsSound, Takes}
use Rattle.scitt_tool.proofs.Keys.{takes_next, takes_none}
use Rattle.scitt_tool.proofs.sign.take.Goals as goal

pub returns-in-Ok-clause-taken : goal.returns-in-Ok-clause-taken
returns-in-Ok-clause-taken g c =
    let file = c.args.file.now in
    let after = c.take_index-taken.new.self in
    let taken = c.in-Ok.ensures.taken in
    let head = c.take_index-taken.ensures.head in
    let same = ap (λ (h : KeyHead). capacity h.levels) head in
    takes_next _ file.head file.standing after.standing c.in-Ok.index _ taken.0 (omega (arith, taken.0, taken.1, c.sound-2.ensures.within, same))
    (λ tells. c.requires.next ∙ c.sound.ensures.reserved tells)
    (λ tells. c.in-Ok.ensures.takes tells)
    (λ tells. subst (λ (h : KeyHead). IsSound h after.standing) head (c.sound-2.ensures.sound tells)) c.images.ensures

pub returns-in-Err-Exhausted-clause-taken : goal.returns-in-Err-Exhausted-clause-taken
returns-in-Err-Exhausted-clause-taken g c =
    let file = c.args.file.now in
    let after = c.take_index-taken.new.self in
    let head = c.take_index-taken.ensures.head in
    let h = c.in-Err-Exhausted in
    let stop : h.field-0 ≡ Exhausted h.field-0-0 h.field-0-1 = rw h.is at h.field-0-is in
    let is = h.is ∙ ap Err stop in
    takes_none _ file.head file.standing after.standing h.field-0-0 h.field-0-1 _ (c.take_index-taken.ensures.only h.field-0-0 h.field-0-1 is).0
    (λ tells. c.requires.next ∙ c.sound.ensures.reserved tells)
    (λ tells. subst (λ (r : Result ℕ TakeStop). Takes file.head file.standing r after.standing) is (c.take_index-taken.ensures.takes tells))
    (λ tells. subst (λ (h : KeyHead). IsSound h after.standing) head (c.sound-2.ensures.sound tells)) c.images.ensures
