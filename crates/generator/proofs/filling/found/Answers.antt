use Rattle.std.proofs.Common.{◌≤◌, arith, ◌∙◌}
use Rattle.generator.specs.Tallies.{nothing}
use Rattle.generator.proofs.Tallying.{policy_held}
use Rattle.generator.proofs.filling.found.Goals as goal

pub register-requires-clause-room : goal.register-requires-clause-room
register-requires-clause-room c = (nothing, c.requires, omega arith)

pub returns : goal.returns
returns c =
    policy_held c.args.log.now.standing c.register.new.log.standing c.as_slice.result.now c.in_ok-register.field-0 (c.as_slice.ensures ∙ c.in_ok-policy.ensures.statement) c.requires c.in_ok-register.ensures
