use Rattle.std.proofs.Common.{◌≡◌, ℕ, List, IfSome, slice_get, position, sym, ap, subst, ◌∙◌}
use Rattle.std.specs.Map.{lookup, keys_of}
use Rattle.indexmap.specs.IndexMap.{values}
use Rattle.policy_eval.specs.Counts.{is_text}
use Rattle.policy_eval.proofs.Places.{place-position}
use Rattle.policy_eval.proofs.keys.text_at.Goals as goal

pub returns-clause-at : goal.returns-clause-at
returns-clause-at c =
    let es = c.args.counts.now.entries in
    c.get_index_of.ensures.index ∙ ap (λ (t : List ℕ). position (is_text t) (keys_of es)) c.as_str.ensures.value ∙ sym (place-position (is_text c.args.text.now) es)

pub returns-clause-count : goal.returns-clause-count
returns-clause-count c =
    let es = c.args.counts.now.entries in
    subst (λ (t : List ℕ). IfSome c.get_index_of.result (λ i. slice_get (values c.args.counts.now) i ≡ lookup (is_text t) es)) c.as_str.ensures.value c.get_index_of.ensures.value
