-- The index that was found is the only one, since leaf numbers spell one at most.
use Rattle.std.proofs.Common.{arith}
use Rattle.std.proofs.lemmas.Grind.{common_steps}
use Rattle.std.specs.Prelude.{IfSome}
use Rattle.hss_keys.specs.Verifies.{FlatIndex}
use Rattle.hss_keys.proofs.IndexLaws.{only_index}
use Rattle.hss_keys.proofs.flat.flat_index.Goals as goal

pub returns-clause-only : goal.returns-clause-only
returns-clause-only c =
    let some : IfSome c.index_below.result (λ index. FlatIndex c.args.levels.now c.args.sig.now index) = grind (arith, common_steps) in
    only_index c.args.levels.now c.args.sig.now c.index_below.result some
