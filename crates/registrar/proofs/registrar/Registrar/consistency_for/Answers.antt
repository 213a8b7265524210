use Rattle.registrar.proofs.ReadingBack.{consistency_is}
use Rattle.registrar.proofs.registrar.Registrar.consistency_for.Goals as goal

pub returns : goal.returns
returns g c = λ e.
    let h = c.has_header.ensures in
    consistency_is c.answer_laws.ensures.consistency c.args.self.now.standing.log h.0 c.args.last c.args.old c.size-size.result c.args.back c.in_ok-path.path c.receipt_with.result
    c.sound.ensures.log h.1 c.size-size.ensures c.requires.last c.requires.some c.requires.inside c.in_ok-path.ensures.path (c.receipt_with.ensures h.0 h.1) e
