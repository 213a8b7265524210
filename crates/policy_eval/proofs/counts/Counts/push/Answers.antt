use Rattle.std.proofs.Common.{[], ◌∷◌, ◌++◌, ap, sym, ◌∙◌}
use Rattle.policy_eval.specs.Counts.{raised}
use Rattle.policy_eval.specs.Entered.{facts_of}
use Rattle.policy_eval.specs.declared.entered.Entered.{Entered}
use Rattle.policy_eval.proofs.Counting.{counted_more, counted_as}
use Rattle.policy_eval.proofs.counts.Counts.push.Goals as goal

pub invariant_of-self : goal.invariant_of-self
invariant_of-self c =
    let inside = c.self.inside in
    let s = inside.subjects.entries in
    let i = inside.issuers.entries in
    let p = inside.pairs.entries in
    let before = facts_of inside.entered.value in
    let f = c.args.facts.now in
    let a = c.unwrap-subject.result in
    let b = c.unwrap-issuer.result in
    let k = c.unwrap-pair.result in
    let more = counted_more s i p before f c.self.invariant.0 a b k (sym c.text_at.ensures.at ∙ c.unwrap-subject.ensures) (sym c.text_at-2.ensures.at ∙ c.unwrap-issuer.ensures) (sym c.pair_at.ensures.at ∙ c.unwrap-pair.ensures) in (
      counted_as (raised s a) (raised i b) _ _ (raised p k) _ (before ++ f ∷ []) _ c.raise.ensures c.raise-2.ensures c.raise-3.ensures
          (c.with_facts.ensures ∙ ap (λ (e : Entered). facts_of e ++ f ∷ []) (ap (λ s. s.value) c.replace-before.ensures.value)) more,
      tt,
    )
