use Rattle.std.proofs.Common.{◌≡◌, ℕ, List, None, Some, position, ap, sym, ◌∙◌}
use Rattle.std.specs.Map.{keys_of}
use Rattle.std.specs.Str.{bytes_eq}
use Rattle.std.specs.String.{string_bytes, string_eq}
use Rattle.std.proofs.lemmas.Slice.Eq.{bytes_eq-Decides}
use Rattle.policy_eval.specs.Counts.{is_text, place, Keeps}
use Rattle.policy_eval.proofs.Places.{place-position, new_key}
use Rattle.policy_eval.proofs.keys.text_key.Goals as goal

pub returns-in-Some-clause-at : goal.returns-in-Some-clause-at
returns-in-Some-clause-at c =
    let es = c.args.counts.now.entries in
    place-position (is_text c.args.text.now) es ∙ sym (c.get_index_of.ensures.index ∙ ap (λ (t : List ℕ). position (is_text t) (keys_of es)) c.as_str.ensures.value) ∙ c.in-Some.is

made : (c : goal.In_ok-insert) → Keeps is_text c.args.counts.now.entries c.insert.new.self.entries × (place (is_text c.args.text.now) c.insert.new.self.entries ≡ Some c.len-at.result)
made c =
    let m = c.args.counts.now in
    let text = c.args.text.now in
    let key = c.in_ok-key.key in
    let same : string_bytes key ≡ text = c.in_ok-key.ensures.ok ∙ c.as_str-2.ensures.value in
    let none : place (is_text text) m.entries ≡ None =
    place-position (is_text text) m.entries ∙ sym (c.get_index_of.ensures.index ∙ ap (λ (t : List ℕ). position (is_text t) (keys_of m.entries)) c.as_str.ensures.value) ∙ c.in_default.is in
    let new = new_key is_text string_eq m c.insert.new.self key text c.in_ok-insert.ensures.entries (λ x j. bytes_eq (same j) (string_bytes x)) ((bytes_eq-Decides text (string_bytes key)).1 (sym same)) none in
    (new.0, new.1 ∙ ap Some (sym c.len-at.ensures.len))

pub returns-clause-keeps : goal.returns-clause-keeps
returns-clause-keeps c = (made c).0

pub returns-clause-at : goal.returns-clause-at
returns-clause-at c = (made c).1
