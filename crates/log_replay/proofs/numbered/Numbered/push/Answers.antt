use Rattle.std.proofs.Common.{◌≡◌, ◌∙◌, ◌++◌, ◌∷◌, [], ap, List, ℕ, None}
use Rattle.log_replay.specs.KeptRows.{place_in}
use Rattle.log_replay.specs.Lists.{Numbers}
use Rattle.log_replay.proofs.Numbering.{ids_more, homes_more}
use Rattle.log_replay.proofs.numbered.Numbered.push.Goals as goal

pub returns-clause-ids : goal.returns-clause-ids
returns-clause-ids c =
    let new : place_in _ c.args.id ≡ None = ap (λ (n : Numbers). place_in n.ids c.args.id) c.self.view_is ∙ c.requires.new in
    ids_more c.self.inside.homes c.insert.new.self c.args.id c.args.home new (rw c.unwrap.ensures at c.insert.ensures.entries)
    ∙ ap (λ (n : Numbers). n.ids ++ c.args.id ∷ []) c.self.view_is

pub returns-clause-homes : goal.returns-clause-homes
returns-clause-homes c =
    let new : place_in _ c.args.id ≡ None = ap (λ (n : Numbers). place_in n.ids c.args.id) c.self.view_is ∙ c.requires.new in
    homes_more c.self.inside.homes c.insert.new.self c.args.id c.args.home new (rw c.unwrap.ensures at c.insert.ensures.entries)
    ∙ ap (λ (n : Numbers). n.homes ++ c.args.home ∷ []) c.self.view_is
