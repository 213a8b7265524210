use Rattle.std.proofs.Common.{ap, sym, ◌∙◌, ◌&&◌, count_by}
use Rattle.policy_eval.specs.Entered.{facts_of}
use Rattle.policy_eval.specs.History.{Entries}
use Rattle.policy_eval.specs.Holds.{has_issuer, has_subject}
use Rattle.policy_eval.proofs.Counting.{count_of_both, none_of_subject, none_of_issuer}
use Rattle.policy_eval.proofs.counts.Counts.of_both.Goals as goal

pub returns-in_default : goal.returns-in_default
returns-in_default c =
    let inside = c.self.inside in
    let subject = c.args.subject.now in
    let issuer = c.args.issuer.now in
    none_of_subject inside.subjects.entries inside.issuers.entries inside.pairs.entries (facts_of inside.entered.value) c.self.invariant.0 subject issuer (sym c.text_at.ensures.at ∙ c.in_default.is)
    ∙ ap (λ (h : Entries). count_by (λ f. has_subject subject f && has_issuer issuer f) h.entries) c.self.view_is

pub returns-in_default-text_at : goal.returns-in_default-text_at
returns-in_default-text_at c =
    let inside = c.self.inside in
    let subject = c.args.subject.now in
    let issuer = c.args.issuer.now in
    none_of_issuer inside.subjects.entries inside.issuers.entries inside.pairs.entries (facts_of inside.entered.value) c.self.invariant.0 subject issuer (sym c.text_at-2.ensures.at ∙ c.in_default-text_at.is)
    ∙ ap (λ (h : Entries). count_by (λ f. has_subject subject f && has_issuer issuer f) h.entries) c.self.view_is

pub returns : goal.returns
returns c =
    let inside = c.self.inside in
    let subject = c.args.subject.now in
    let issuer = c.args.issuer.now in
    c.pair_count.ensures
    ∙ count_of_both inside.subjects.entries inside.issuers.entries inside.pairs.entries (facts_of inside.entered.value) c.self.invariant.0 subject issuer c.in-Some.subject_at c.in-Some-text_at.issuer_at
    (sym c.text_at.ensures.at ∙ c.in-Some.is) (sym c.text_at-2.ensures.at ∙ c.in-Some-text_at.is)
    ∙ ap (λ (h : Entries). count_by (λ f. has_subject subject f && has_issuer issuer f) h.entries) c.self.view_is
