use Rattle.std.proofs.Common.{◌≡◌, ◌≤◌, ◌+◌, List, ℕ, length, ap, arith}
use Rattle.cbor_core.specs.declared.words.Grammar.TheVariants.{Strict}
use Rattle.scitt_draft.proofs.Protected.{head_short}
use Rattle.scitt_draft.proofs.signing.put_message.Goals as goal

pub returns-clause-text : goal.returns-clause-text
returns-clause-text c =
    let p = c.args.protected.now in
    let m = c.args.payload.now in
    let s = c.args.signature.now in
    let spelled = c.bare_message_is_one.ensures.spelled Strict p m s (omega (arith, c.requires.short)) (omega (arith, c.requires.small)) (omega (arith, c.requires.signed)) in
    c.strict_spelling_is_unique.ensures _ _ _ c.bare_into.ensures.strict spelled.0

pub returns-clause-few : goal.returns-clause-few
returns-clause-few c =
    let p = c.args.protected.now in
    let m = c.args.payload.now in
    let s = c.args.signature.now in
    let spelled = c.bare_message_is_one.ensures.spelled Strict p m s (omega (arith, c.requires.short)) (omega (arith, c.requires.small)) (omega (arith, c.requires.signed)) in
    let same = c.strict_spelling_is_unique.ensures _ _ _ c.bare_into.ensures.strict spelled.0 in
    omega (
      arith,
      ap length same,
      spelled.1,
      c.requires.short,
      c.requires.signed,
      head_short (length p),
      head_short (length m),
      head_short (length s),
    )
