use Rattle.cose_sign1.proofs.KeySetLemmas.{keys_push}
use Rattle.cose_sign1.proofs.keys.key_items.Goals as goal

pub loop-key-preserved : goal.loop-key-preserved
loop-key-preserved c =
    keys_push c.args.keys.now c.loop-key.key-index _ c.in_ok-key_item.field-0 c.loop-key.items c.push.new.self c.in_ok-push.ensures.ok c.loop-key-test.true c.loop-key.invariant c.in_ok-key_item.ensures
