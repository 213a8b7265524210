use Rattle.std.proofs.Common.{◌≡◌, Some, subst}
use Rattle.log_replay.specs.Records.{header_of}
use Rattle.registrar.specs.Fits.{Registered}
use Rattle.registrar.proofs.registrar.Registrar.has_header.Goals as goal

pub returns : goal.returns
returns g c =
    let headed = c.self.invariant.headed in
    (headed.header, subst (λ (v : Registered g.row.D.Denot). header_of v.standing.log ≡ Some headed.header) c.self.view_is headed.first)
