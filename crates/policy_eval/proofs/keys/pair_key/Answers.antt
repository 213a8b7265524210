use Rattle.std.proofs.Common.{◌≡◌, None, Some, ap, sym, refl, ◌∙◌}
use Rattle.policy_eval.specs.Counts.{is_pair, place, Keeps}
use Rattle.policy_eval.proofs.Counting.{pair_refl}
use Rattle.policy_eval.proofs.Places.{place-position, new_key}
use Rattle.policy_eval.proofs.keys.pair_key.Goals as goal

pub returns-in-Some-clause-at : goal.returns-in-Some-clause-at
returns-in-Some-clause-at c = place-position (is_pair c.args.pair) c.args.counts.now.entries ∙ sym c.get_index_of.ensures.index ∙ c.in-Some.is

made : (c : goal.In_ok-insert) → Keeps is_pair c.args.counts.now.entries c.insert.new.self.entries × (place (is_pair c.args.pair) c.insert.new.self.entries ≡ Some c.len-at.result)
made c =
    let m = c.args.counts.now in
    let none : place (is_pair c.args.pair) m.entries ≡ None = place-position (is_pair c.args.pair) m.entries ∙ sym c.get_index_of.ensures.index ∙ c.in_default.is in
    let new = new_key is_pair is_pair m c.insert.new.self c.args.pair c.args.pair c.in_ok-insert.ensures.entries (λ x. refl) (pair_refl c.args.pair) none in
    (new.0, new.1 ∙ ap Some (sym c.len-at.ensures.len))

pub returns-clause-keeps : goal.returns-clause-keeps
returns-clause-keeps c = (made c).0

pub returns-clause-at : goal.returns-clause-at
returns-clause-at c = (made c).1
