use Rattle.std.proofs.Common.{◌≤◌, List, ℕ, length, Option, Err, ap, subst, arith}
use Rattle.cbor_core.specs.declared.words.EncodeStop.{EncodeStop}
use Rattle.cbor_core.specs.Encoding.{text_or}
use Rattle.policy_rules.specs.Spelling.{policy_item, MadeOf}
use Rattle.scitt_draft.proofs.Protected.{text-length}
use Rattle.scitt_draft.proofs.policy.text_of.Goals as goal

pub returns-in-Ok-clause-few : goal.returns-in-Ok-clause-few
returns-in-Ok-clause-few c =
    let own = policy_item c.args.policy.now in
    let is = ap (λ (o : Option (List ℕ)). length (text_or o)) (c.strict_text_is_exact.ensures.given own c.in-Ok.bytes c.in-Ok.ensures.made) in
    let len = text-length c.strict_items_are_spelled.ensures.spelled c.strict_text_is_exact.ensures.given own c.requires.strict in
    omega (arith, is, len, c.requires.short)

pub unreachable-requires : goal.unreachable-requires
unreachable-requires c =
    let own = policy_item c.args.policy.now in
    c.strict_items_are_spelled.ensures.never own c.requires.strict (omega (arith, c.requires.short))
    (subst (λ (e : EncodeStop). MadeOf own (Err e)) c.in-Err-NotStrict.field-0-is c.in-Err-NotStrict.ensures.made)
