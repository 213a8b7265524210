use Rattle.scitt_answers.proofs.Fitting.{seek_fits}
use Rattle.scitt_answers.proofs.Plain.{plain_alone}
use Rattle.scitt_answers.proofs.routes.route_laws.Goals as goal

pub returns : goal.returns
returns c = record { fit = λ rows path r e. seek_fits path 0 rows r e; plain = plain_alone }
