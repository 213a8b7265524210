use Rattle.std.proofs.Common.{◌≡◌, length, sym, arith}
use Rattle.cbor_core.proofs.PlaceLemmas.{new-key}
use Rattle.cbor_core.proofs.places.has_ordered_key.Goals as goal

pub returns-in-Some : goal.returns-in-Some
returns-in-Some c =
    let as_many : length c.args.order.now ≡ length c.args.pairs.now = omega arith in
    sym (new-key 0 c.args.pairs.now c.args.order.now c.args.key.now (c.requires.1 as_many) c.in-Some.field-0 c.in-Some.ensures)
