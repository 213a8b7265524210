use Rattle.std.proofs.Common.{◌≡◌, ◌∙◌, ap, sym, length, drop, rules}
use Rattle.std.proofs.lemmas.List.{take_at}
use Rattle.lms_tree.proofs.tree.Tree.build.Goals as goal

pub invariant_of-result : goal.invariant_of-result
invariant_of-result c =
    let new = c.fill.new.nodes in
    let n = c.in_ok-nodes.nodes.len in
    let len : length new ≡ n = c.fill.auto.nodes ∙ ap length c.deref_mut.ensures.value ∙ sym c.in_ok-nodes.nodes.ok.0 in
    let whole = take_at new (drop (length new) c.in_ok-nodes.nodes.items) n len in
    record { named = search rules; held = rw whole c.fill.ensures }
