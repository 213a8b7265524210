use Rattle.std.proofs.Common.{◌≡◌, ap, ◌∙◌, arith, ◌++◌, ◌∷◌, []}
use Rattle.auditor.specs.Given.{given_of}
use Rattle.auditor.proofs.Gates.{place_behind, keeps_next, on_still}
use Rattle.auditor.proofs.reader.LogReader.next.Goals as goal

pub overflow_add-self-in-Ok : goal.overflow_add-self-in-Ok
overflow_add-self-in-Ok g c =
    let R = given_of c.self.inside.given.value in
    let before = c.self.invariant.before (on_still c.self.inside.ended c.in_default.not-Some) in
    let place = place_behind c.self.inside.limit c.self.inside.place c.self.inside.gate R _ _ _ c.in-Ok.whole before (c.in-Ok.ensures.reads R before) in
    omega (arith, place, c.len.ensures)

pub invariant_of-self : goal.invariant_of-self
invariant_of-self g c =
    let R = given_of c.self.inside.given.value in
    let before = c.self.invariant.before (on_still c.self.inside.ended c.in_default.not-Some) in
    let given : given_of c.given_with.result.value ≡ R ++ c.in-Ok.whole.body ∷ [] = c.given_with.ensures ∙ ap (λ x. given_of x.value ++ c.in-Ok.whole.body ∷ []) c.replace-before.ensures.value in
    keeps_next c.self.inside.limit c.self.inside.place c.len.result c.self.inside.gate c.self.inside.ended R _ _ _ _ c.in-Ok.whole c.in_default.not-Some before (c.in-Ok.ensures.reads R before) c.len.ensures given
