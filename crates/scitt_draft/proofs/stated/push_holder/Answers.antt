use Rattle.std.proofs.Common.{List, [], ◌∷◌, ◌++◌, sym, ap, ◌∙◌, subst}
use Rattle.policy_rules.specs.declared.documents.Holder.{Holder}
use Rattle.scitt_draft.specs.Named.{id_of, seed_of, IsShort}
use Rattle.scitt_draft.proofs.Stating.{is_issuer_holder}
use Rattle.scitt_draft.proofs.stated.push_holder.Goals as goal

pub holder_of-requires-clause-id : goal.holder_of-requires-clause-id
holder_of-requires-clause-id c = c.requires.key.id ∙ ap id_of (sym c.issuer_name.ensures.name)

pub holder_of-requires-clause-seed : goal.holder_of-requires-clause-seed
holder_of-requires-clause-seed c = c.requires.key.seed ∙ ap seed_of (sym c.issuer_name.ensures.name)

pub returns-clause-pushed : goal.returns-clause-pushed
returns-clause-pushed c =
    let is = is_issuer_holder _ _ c.args.n c.requires.key.levels_are c.issuer_name.ensures.name in
    c.in_ok-push.ensures.ok ∙ ap (λ (h : Holder). c.args.holders.now ++ h ∷ []) (c.in_ok-holder_of.ensures.holder ∙ is)

pub returns-clause-short : goal.returns-clause-short
returns-clause-short c =
    let is = is_issuer_holder _ _ c.args.n c.requires.key.levels_are c.issuer_name.ensures.name in
    subst IsShort is c.in_ok-holder_of.ensures.short
