use Rattle.std.proofs.Common.{refl, arith, ap, length, subst, ◌≡◌, ◌≤◌}
use Rattle.policy_rules.specs.declared.documents.Policy.{Policy}
use Rattle.policy_rules.specs.Spelling.{policy_item}
use Rattle.log_replay.specs.declared.parts.Header.{Header}
use Rattle.log_replay.specs.Spelling.{HasBytes}
use Rattle.log_replay.proofs.Making.{first_made}
use Rattle.log_replay.proofs.state.State.first.Goals as goal

pub invariant_of-result : goal.invariant_of-result
invariant_of-result c =
    let none = ap length c.new.ensures.ids in
    record {
      ruled = refl;
      few = omega (arith, none);
      most = λ x e. (let same : c.args.header ≡ x = cc in subst (λ (h : Header). h.max_entries ≤ 65536) same c.requires.most);
      name_some = λ x e. (let same : c.args.header ≡ x = cc in subst (λ (h : Header). 1 ≤ length h.name) same c.requires.name_some);
      name_most = λ x e. (let same : c.args.header ≡ x = cc in subst (λ (h : Header). length h.name ≤ 128) same c.requires.name_most);
      counted = omega (arith, none);
      bounded = omega arith;
      small = omega arith;
      written = λ x e. (let same : c.args.policy ≡ x = cc in subst (λ (p : Policy). HasBytes (policy_item p)) same c.requires.written);
      made = first_made c.args.header c.args.policy c.new.result.ids c.new.result.homes c.new.result.facts c.new.result.leaves c.requires.policy c.new.ensures.ids c.new.ensures.homes c.new.ensures.facts c.new.ensures.leaves c.requires.made;
    }
