use Rattle.std.proofs.Common.{sym, subst}
use Rattle.policy_eval.specs.Counts.{HasKeys, is_text, is_pair}
use Rattle.policy_eval.specs.Entered.{facts_of}
use Rattle.policy_eval.proofs.Places.{keeps-same}
use Rattle.policy_eval.proofs.Counting.{stands_kept}
use Rattle.policy_eval.proofs.counts.Counts.reserve.Goals as goal

pub invariant_of-self : goal.invariant_of-self
invariant_of-self c =
    let inside = c.self.inside in
    stands_kept inside.subjects.entries inside.issuers.entries c.text_key.new.counts.entries inside.issuers.entries inside.pairs.entries inside.pairs.entries
    c.text_key.ensures.keeps (keeps-same is_text inside.issuers.entries) (keeps-same is_pair inside.pairs.entries) (facts_of inside.entered.value) inside.next c.self.invariant

pub invariant_of-self-in_err-issuer : goal.invariant_of-self-in_err-issuer
invariant_of-self-in_err-issuer c =
    let inside = c.self.inside in
    stands_kept inside.subjects.entries inside.issuers.entries c.text_key.new.counts.entries c.text_key-2.new.counts.entries inside.pairs.entries inside.pairs.entries
    c.text_key.ensures.keeps c.text_key-2.ensures.keeps (keeps-same is_pair inside.pairs.entries) (facts_of inside.entered.value) inside.next c.self.invariant

pub invariant_of-self-in_err-pair_key : goal.invariant_of-self-in_err-pair_key
invariant_of-self-in_err-pair_key c =
    let inside = c.self.inside in
    stands_kept inside.subjects.entries inside.issuers.entries c.text_key.new.counts.entries c.text_key-2.new.counts.entries inside.pairs.entries c.pair_key.new.counts.entries
    c.text_key.ensures.keeps c.text_key-2.ensures.keeps c.pair_key.ensures.keeps (facts_of inside.entered.value) inside.next c.self.invariant

pub invariant_of-self-2 : goal.invariant_of-self-2
invariant_of-self-2 c =
    let inside = c.self.inside in
    let s = c.text_key.new.counts.entries in
    let i = c.text_key-2.new.counts.entries in
    let p = c.pair_key.new.counts.entries in
    let kept = stands_kept inside.subjects.entries inside.issuers.entries s i inside.pairs.entries p
    c.text_key.ensures.keeps c.text_key-2.ensures.keeps c.pair_key.ensures.keeps (facts_of inside.entered.value) inside.next c.self.invariant in
    let keys : HasKeys s i p c.args.facts.now = record {
      subject_at = c.in_ok-subject.subject;
      issuer_at = c.in_ok-issuer.issuer;
      pair_at = c.in_ok-pair_key.field-0;
      subject = c.in_ok-subject.ensures.at;
      issuer = c.in_ok-issuer.ensures.at;
      pair = c.in_ok-pair_key.ensures.at;
    } in
    (kept.0, subst (HasKeys s i p) (sym c.of.ensures) keys)
