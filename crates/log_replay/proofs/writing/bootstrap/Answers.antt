use Rattle.std.proofs.Common.{◌≡◌, arith, sym, subst}
use Rattle.std.proofs.lemmas.Str.{is_utf8-from_IsUtf8}
use Rattle.policy_rules.specs.declared.documents.Policy.{Policy}
use Rattle.policy_rules.specs.Documents.{bootstrap_of}
use Rattle.policy_rules.specs.Spelling.{policy_item}
use Rattle.log_replay.specs.Spelling.{HasBytes}
use Rattle.log_replay.proofs.ReadsAgain.{if_ok}
use Rattle.log_replay.proofs.writing.bootstrap.Goals as goal

pub returns-clause-bytes : goal.returns-clause-bytes
returns-clause-bytes c =
    let g = c.args.governor.now in
    let fits = c.shape_laws.ensures.bootstrap g c.requires.iss (is_utf8-from_IsUtf8 g.iss c.as_str-iss.ensures.utf8) c.requires.kid c.whole_key.ensures in
    let short = fits.short in
    let has : HasBytes (policy_item (bootstrap_of g)) = record { strict = fits.strict; short = omega (arith, short) } in
    if_ok c.bootstrap.result (λ (p : Policy). p ≡ bootstrap_of g) (λ (p : Policy). HasBytes (policy_item p)) (λ p e. subst (λ (x : Policy). HasBytes (policy_item x)) (sym e) has) c.bootstrap.ensures
