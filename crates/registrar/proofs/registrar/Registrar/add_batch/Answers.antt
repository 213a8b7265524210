use Rattle.std.proofs.Common.{◌≡◌, List, [], ◌∷◌, ◌++◌, ℕ, Some, sym, subst}
use Rattle.statement.specs.Said.{said_of}
use Rattle.log_replay.specs.Records.{record_of}
use Rattle.log_replay.specs.Steps.{batch_with}
use Rattle.log_replay.specs.WellMade.{WellMade}
use Rattle.registrar.specs.Seen.{log_of}
use Rattle.registrar.specs.Fits.{Registered}
use Rattle.registrar.proofs.Adding.{fits_all}
use Rattle.registrar.proofs.registrar.Registrar.add_batch.Goals as goal

pub accept_batch-requires-clause-fits : goal.accept_batch-requires-clause-fits
accept_batch-requires-clause-fits g c = λ R there.
    let batch = c.args.batch.now in
    let said = said_of c.args.checked.now.statement in
    let well : WellMade (log_of c.self.inside.log.value ++ batch.body.items ∷ []) = subst (λ (v : Registered g.row.D.Denot). WellMade (v.standing.log ++ batch.body.items ∷ [])) (sym c.self.view_is) c.requires.well in
    let reads = subst (λ (sig : List ℕ). record_of batch.body.items ≡ Some (batch_with batch.at batch.rule said batch.index sig)) (sym c.as_slice.ensures.value) c.requires.reads in
    fits_all c.state_laws.ensures.failing c.log_laws.ensures.one_more c.log_laws.ensures.one_less c.self.inside.state (log_of c.self.inside.log.value) R batch.body.items (batch_with batch.at batch.rule said batch.index c.as_slice.result.now) c.self.invariant.state well reads there
