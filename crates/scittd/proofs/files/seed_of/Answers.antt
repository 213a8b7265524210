use Rattle.std.proofs.Common.{◌++◌, ℕ, List, ap₂, sym, ◌∙◌}
use Rattle.std.proofs.lemmas.List.{take-append-drop}
use Rattle.scittd.proofs.files.seed_of.Goals as goal

pub returns-clause-some : goal.returns-clause-some
returns-clause-some c =
    let parts = c.in_ok-seed.ensures.cases in
    let joined = ap₂ (λ (a b : List ℕ). a ++ b) parts.0 (c.in_ok-as_array.ensures.cases.same ∙ parts.1) in
    sym (joined ∙ take-append-drop 32 c.args.bytes.now)
