use Rattle.std.proofs.Common.{sym, ap, ◌∙◌, reverse, List, ℕ}
use Rattle.std.proofs.lemmas.List.{reverse-reverse}
use Rattle.httparse.specs.Grammar.{skip_ows, trim_ows}
use Rattle.http_wire.proofs.tokens.trim.Goals as goal

pub returns : goal.returns
unfolding trim_ows
returns c =
    sym (reverse-reverse c.skip_back.result.now) ∙ ap (λ (xs : List ℕ). reverse xs) c.skip_back.ensures ∙ ap (λ (xs : List ℕ). reverse (skip_ows (reverse xs))) c.skip_front.ensures
