use Rattle.std.proofs.Common.{rules}
use Rattle.scittd.proofs.Contents.{all_three}
use Rattle.scittd.proofs.opening.open.Goals as goal

pub returns-clause-log : goal.returns-clause-log
returns-clause-log g c =
    let log = rw c.in_ok-seed.ensures.kept at c.open_log.ensures.log in
    all_three c.open_log.result _ _ _ _ c.open_log.ensures.sound c.open_log.ensures.key log
    (λ r sound key found. (c.in_ok-seed.seed, c.in_ok-seed.ensures.seed, (sound, key, found)))

pub returns-clause-params_refused : goal.returns-clause-params_refused
returns-clause-params_refused g c = λ refused.
    let calm = c.in_ok-seed.ensures.no_fault (search rules) in
    let why = rw (c.in_ok-seed.ensures.kept, calm) at c.open_log.ensures.params_refused refused in
    (c.in_ok-seed.seed, c.in_ok-seed.ensures.seed, why)
