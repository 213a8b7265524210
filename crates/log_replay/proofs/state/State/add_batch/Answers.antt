use Rattle.std.proofs.Common.{◌≡◌, ◌++◌, ◌∷◌, [], ◌+◌, ◌∙◌, Some, None, arith, ap, sym, length, length-append, List, ℕ, subst}
use Rattle.policy_rules.specs.declared.documents.Policy.{Policy}
use Rattle.policy_rules.specs.declared.facts.Facts.{Facts}
use Rattle.policy_rules.specs.Spelling.{policy_item}
use Rattle.statement.specs.Said.{said_of}
use Rattle.log_replay.specs.Judging.{document_in}
use Rattle.log_replay.specs.Spelling.{HasBytes}
use Rattle.log_replay.specs.KeptRows.{place_in}
use Rattle.log_replay.specs.StateSeen.{kept_of}
use Rattle.log_replay.proofs.Batching.{policy_put, policy_left, batch_made}
use Rattle.log_replay.proofs.NewIds.{new_id}
use Rattle.log_replay.proofs.state.State.add_batch.Goals as goal

pub push-requires-clause-new : goal.push-requires-clause-new
push-requires-clause-new c =
    let was = c.args.self.now in
    let s = said_of c.args.checked.now.statement in
    ap (place_in was.tables.ids) c.args.checked.now.statement.statement_id ∙ new_id (kept_of was) c.args.index c.args.hash c.args.at s c.requires.made

pub invariant_of-self : goal.invariant_of-self
invariant_of-self c =
    let was = c.args.self.now in
    let s = said_of c.args.checked.now.statement in
    let put = c.push.ensures in
    let count = ap length put.ids in
    let some = c.requires.header in
    let document : document_in s ≡ Some c.in-Some.policy = cc (c.in-Some.ensures.value, c.requires.room.policy, c.args.checked.now.document_is) in
    record {
      ruled = some;
      few = omega (arith, count, length-append {A = List ℕ}, c.requires.count);
      most = was.most;
      name_some = was.name_some;
      name_most = was.name_most;
      counted = omega (arith, count, length-append {A = List ℕ}, was.counted);
      bounded = was.bounded;
      small = omega (arith, ap length c.as_slice.ensures, c.requires.bytes);
      written = λ x e. (let same : c.in-Some.policy ≡ x = cc in
          subst (λ (p : Policy). HasBytes (policy_item p)) same (c.args.checked.now.document_bytes c.in-Some.policy (c.args.checked.now.document_is ∙ document)));
      made = batch_made (kept_of was) c.args.index c.args.at c.args.hash s (Some c.in-Some.policy) c.push.new.self.ids c.push.new.self.homes c.push.new.self.facts c.push.new.self.leaves (was.logged + length c.as_slice.result.now)
          (policy_put was.policy c.in-Some.policy s (sym was.ruled ∙ some) document)
          (put.ids ∙ ap (λ x. was.tables.ids ++ x ∷ []) c.args.checked.now.statement.statement_id) put.homes
          (put.facts ∙ ap (λ (x : Facts). was.tables.facts ++ x ∷ []) c.args.checked.now.facts_are) put.leaves (ap (λ (x : List ℕ). was.logged + length x) c.as_slice.ensures) c.requires.made;
    }

pub invariant_of-self-in_default : goal.invariant_of-self-in_default
invariant_of-self-in_default c =
    let was = c.args.self.now in
    let s = said_of c.args.checked.now.statement in
    let put = c.push.ensures in
    let count = ap length put.ids in
    let none : c.take.result ≡ None = c.in_default.is in
    let document : document_in s ≡ None = cc (none, c.take.ensures.value, c.requires.room.policy, c.args.checked.now.document_is) in
    record {
      ruled = was.ruled;
      few = omega (arith, count, length-append {A = List ℕ}, c.requires.count);
      most = was.most;
      name_some = was.name_some;
      name_most = was.name_most;
      counted = omega (arith, count, length-append {A = List ℕ}, was.counted);
      bounded = was.bounded;
      small = omega (arith, ap length c.as_slice.ensures, c.requires.bytes);
      written = was.written;
      made = batch_made (kept_of was) c.args.index c.args.at c.args.hash s was.policy c.push.new.self.ids c.push.new.self.homes c.push.new.self.facts c.push.new.self.leaves (was.logged + length c.as_slice.result.now)
          (policy_left was.policy s document)
          (put.ids ∙ ap (λ x. was.tables.ids ++ x ∷ []) c.args.checked.now.statement.statement_id) put.homes
          (put.facts ∙ ap (λ (x : Facts). was.tables.facts ++ x ∷ []) c.args.checked.now.facts_are) put.leaves (ap (λ (x : List ℕ). was.logged + length x) c.as_slice.ensures) c.requires.made;
    }
