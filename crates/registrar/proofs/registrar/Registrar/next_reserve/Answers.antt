use Rattle.registrar.proofs.Readying.{is_needed_some}
use Rattle.registrar.proofs.registrar.Registrar.next_reserve.Goals as goal

pub returns : goal.returns
returns g c =
    is_needed_some c.fitting_laws.ensures.reserve c.log_laws.ensures.one_more c.growth_laws.ensures.header c.more_laws.ensures.reserve c.limit_laws.ensures.header
    c.args.self.now.standing c.args.header.now c.in-Some.upto c.in_ok-needed.needed c.sound.ensures.log c.requires.header c.requires.left
    c.in-Some.ensures.upto c.in-Some.ensures.spent c.in_ok-needed.ensures.upto c.in_ok-needed.ensures.body c.in_ok-needed.ensures.reads c.in_ok-needed.ensures.short
