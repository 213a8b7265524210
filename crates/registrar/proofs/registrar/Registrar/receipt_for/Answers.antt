use Rattle.registrar.proofs.ReadingBack.{receipt_is}
use Rattle.registrar.proofs.registrar.Registrar.receipt_for.Goals as goal

pub returns : goal.returns
returns g c = λ e.
    let h = c.has_header.ensures in
    receipt_is c.answer_laws.ensures.receipt c.args.self.now.standing.log h.0 c.args.index c.args.back c.in_ok-path.path c.receipt_with.result c.sound.ensures.log h.1
    c.in_ok-path.ensures.path (c.receipt_with.ensures h.0 h.1) e
