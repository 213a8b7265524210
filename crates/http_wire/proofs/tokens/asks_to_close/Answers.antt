use Rattle.std.proofs.Common.{◌∙◌, ◌<◌, ◌≤◌, sym, length, arith}
use Rattle.http_wire.proofs.Parts.{closes_first, closes_not, closes_behind}
use Rattle.http_wire.proofs.tokens.asks_to_close.Goals as goal

pub returns-then-is_word : goal.returns-then-is_word
returns-then-is_word c =
    sym (c.loop-rest.invariant ∙ closes_first c.loop-rest.rest.now c.first_part-part.result.now c.first_part-part.ensures.part (sym c.is_word.ensures ∙ c.if-is_word.true))

pub returns-then-part-rest : goal.returns-then-part-rest
returns-then-part-rest c =
    sym (c.loop-rest.invariant ∙ closes_not c.loop-rest.rest.now c.first_part-part.result.now c.first_part-part.ensures.part c.if-part-rest.true (sym c.is_word.ensures ∙ c.if-is_word.false))

pub loop-rest-preserved : goal.loop-rest-preserved
loop-rest-preserved c =
    let short : length c.first_part-part.result.now ≤ length c.loop-rest.rest.now = c.first_part-part.ensures.short in
    let less : length c.first_part-part.result.now < length c.loop-rest.rest.now = omega (arith, short, c.if-part-rest.false) in
    c.loop-rest.invariant ∙ closes_behind c.loop-rest.rest.now c.first_part-part.result.now _ c.first_part-part.ensures.part less c.behind-rest.ensures (sym c.is_word.ensures ∙ c.if-is_word.false)
