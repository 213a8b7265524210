use Rattle.std.proofs.Common.{◌≡◌, ◌∙◌, Some, sym, ap, refl, length, arith}
use Rattle.log_replay.specs.StateSeen.{kept_of}
use Rattle.log_replay.proofs.Batching.{not_one}
use Rattle.log_replay.proofs.state.State.step_batch.Goals as goal

pub returns-in-empty-clause-ok : goal.returns-in-empty-clause-ok
returns-in-empty-clause-ok c =
    let K = kept_of c.args.self.now in
    let same = ap length c.as_slice.ensures in
    let below = c.in-empty.len_below in
    let other : length c.args.batch.now.entries ≡ 1 → ⊥ = λ e. absurd (omega (arith, e, same, below)) in
    (not_one K.header K.policy K c.args.batch.now other ∙ ap Some (sym c.by.ensures), refl)

pub returns-in-len2-up-clause-ok : goal.returns-in-len2-up-clause-ok
returns-in-len2-up-clause-ok c =
    let K = kept_of c.args.self.now in
    let same = ap length c.as_slice.ensures in
    let least = c.in-len2-up.len_at_least in
    let other : length c.args.batch.now.entries ≡ 1 → ⊥ = λ e. absurd (omega (arith, e, same, least)) in
    (not_one K.header K.policy K c.args.batch.now other ∙ ap Some (sym c.by-in-len2-up.ensures), refl)
