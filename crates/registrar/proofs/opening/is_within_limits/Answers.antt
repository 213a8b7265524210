use Rattle.std.proofs.Common.{◌∙◌}
use Rattle.registrar.specs.Opening.{header_with}
use Rattle.registrar.proofs.Making.{limits_are}
use Rattle.registrar.proofs.opening.is_within_limits.Goals as goal

pub returns : goal.returns
returns c = λ id seed.
    c.are_within.ensures ∙ limits_are (header_with c.args.params.now id seed) c.as_slice-name.result.now c.as_slice-iss.result.now c.as_slice-kid.result.now c.as_slice-levels.ensures.levels c.as_slice-name.ensures.value c.as_slice-iss.ensures.value c.as_slice-kid.ensures
