use Rattle.std.proofs.Common.{◌∙◌, sym, rules}
use Rattle.registrar.proofs.ReadingBack.{never_changed, is_entry, has_hash}
use Rattle.registrar.proofs.registrar.Registrar.entry_back.Goals as goal

pub returns-in_err-body-clause-stops : goal.returns-in_err-body-clause-stops
returns-in_err-body-clause-stops g c =
    let stops = c.in_err-body.ensures.stops c.args.index in search rules

pub returns-in-Ok-None-clause-stops : goal.returns-in-Ok-None-clause-stops
returns-in-Ok-None-clause-stops g c = (
  c.place_of-number.ensures.stands.home,
  λ tells. never_changed _ _ _ _ _ c.place_of-number.ensures (c.as_slice.ensures.value ∙ c.in_ok-body.ensures.body tells) (sym c.in-Ok-None.field-0-is ∙ c.in-Ok-None.ensures.back),
)

pub returns-in-Ok-Some-clause-entry : goal.returns-in-Ok-Some-clause-entry
returns-in-Ok-Some-clause-entry g c = λ tells.
    is_entry _ _ _ _ _ c.in-Ok-Some.back c.place_of-number.ensures (c.as_slice.ensures.value ∙ c.in_ok-body.ensures.body tells) (sym c.in-Ok-Some.field-0-is ∙ c.in-Ok-Some.ensures.back)

pub returns-in-Ok-Some-clause-hashed : goal.returns-in-Ok-Some-clause-hashed
returns-in-Ok-Some-clause-hashed g c =
    has_hash _ _ _ _ _ c.in-Ok-Some.back c.place_of-number.ensures (sym c.in-Ok-Some.field-0-is ∙ c.in-Ok-Some.ensures.back)
