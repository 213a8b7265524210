use Rattle.std.proofs.Common.{◌++◌, ◌∷◌, [], sym, subst}
use Rattle.log_replay.specs.Records.{reserve_record}
use Rattle.log_replay.specs.Kept.{Kept, StateOf}
use Rattle.log_replay.specs.KeptRows.{with_record}
use Rattle.log_replay.specs.StateSeen.{kept_of}
use Rattle.log_replay.proofs.Accepting.{fits_made, added_as}
use Rattle.log_replay.proofs.state.State.accept_reserve.Goals as goal

pub add_reserve-requires-clause-made : goal.add_reserve-requires-clause-made
unfolding with_record
add_reserve-requires-clause-made c =
    fits_made c.state_laws.ensures.failing c.state_laws.ensures.added c.log_laws.ensures.one_less (kept_of c.args.self.now) (reserve_record c.args.upto) c.requires c.args.self.now.made

pub returns-clause-log : goal.returns-clause-log
unfolding with_record
returns-clause-log c = λ R body was reads.
    subst (λ (X : Kept). StateOf X (R ++ body ∷ [])) (sym c.add_reserve.ensures.kept)
    (added_as c.state_laws.ensures.failing c.state_laws.ensures.added (kept_of c.args.self.now) R body (reserve_record c.args.upto) was reads (sym c.in-None.ensures.rows))
