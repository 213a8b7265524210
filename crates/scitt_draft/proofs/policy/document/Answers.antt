use Rattle.std.proofs.Common.{◌≤◌, ap, ◌∙◌, subst, arith}
use Rattle.cbor_core.specs.Fitting.{is_strict_item, strict_len}
use Rattle.cbor_core.specs.Exact.{strict_text}
use Rattle.policy_rules.specs.declared.documents.Policy.{Policy}
use Rattle.policy_rules.specs.Spelling.{policy_item}
use Rattle.scitt_draft.proofs.PolicyShape.{policy_strict, policy_short}
use Rattle.scitt_draft.proofs.Stating.{ok_is}
use Rattle.scitt_draft.proofs.policy.document.Goals as goal

pub text_of-requires-clause-strict : goal.text_of-requires-clause-strict
text_of-requires-clause-strict c =
    let k = c.strict_item_by_kind.ensures in
    let q = c.requires in
    ap (λ (p : Policy). is_strict_item 16 (policy_item p)) c.in_ok-policy.ensures ∙ policy_strict k.uint k.bytes k.text k.array q.short q.zero q.one q.two

pub text_of-requires-clause-short : goal.text_of-requires-clause-short
text_of-requires-clause-short c =
    let l = c.strict_len_by_kind.ensures in
    let q = c.requires in
    let small = policy_short l.uint l.bytes l.text l.array q.short q.zero q.one q.two in
    let same = ap (λ (p : Policy). strict_len 16 (policy_item p)) c.in_ok-policy.ensures in
    omega (arith, small, same)

pub returns-clause-text : goal.returns-clause-text
returns-clause-text c =
    ok_is c.text_of.result _ _ (ap (λ (p : Policy). strict_text (policy_item p)) c.in_ok-policy.ensures) c.text_of.ensures.text
