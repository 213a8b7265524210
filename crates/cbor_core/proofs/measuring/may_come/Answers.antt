use Rattle.std.proofs.Common.{sym, ◌∙◌}
use Rattle.cbor_core.specs.Encoding.{last_text, text_or, spell_in}
use Rattle.cbor_core.proofs.LengthSteps.{free-follow, none-follow, some-follow}
use Rattle.cbor_core.proofs.measuring.may_come.Goals as goal

pub returns-then-not-is_strict : goal.returns-then-not-is_strict
returns-then-not-is_strict c = λ l k.
    sym (free-follow c.args.g (last_text c.args.g c.args.room c.args.last) (text_or (spell_in c.args.g c.args.room c.args.key.now)) (sym c.is_strict.ensures ∙ c.if-not-is_strict.true))

pub returns-in_default : goal.returns-in_default
returns-in_default c = λ l k. sym (none-follow c.args.g c.args.room c.args.last c.args.key.now c.in_default.is (sym c.is_strict.ensures ∙ c.if-not-is_strict.false) k)

pub returns : goal.returns
returns c = λ l k. c.is_lt.ensures ∙ some-follow c.args.g c.args.room c.args.last c.in-Some.last c.args.key.now c.compare_item.result c.in-Some.is l (sym c.is_strict.ensures ∙ c.if-not-is_strict.false) k c.compare_item.ensures
