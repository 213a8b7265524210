use Rattle.std.proofs.lemmas.Option.{get_or_from_slice_get}
use Rattle.indexmap.specs.IndexMap.{values}
use Rattle.policy_eval.proofs.Places.{raised-is}
use Rattle.policy_eval.proofs.keys.raise.Goals as goal

pub returns : goal.returns
returns g c =
    let m = c.args.counts.now in
    let v = c.index_mut.result.now in
    raised-is m.entries c.args.at v 0 c.requires.within (get_or_from_slice_get (values m) c.args.at v 0 c.index_mut.ensures.value)
