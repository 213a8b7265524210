use Rattle.std.proofs.Common.{ℕ, ◌<◌, ◌^◌, List, ap, ◌∙◌, arith}
use Rattle.merkle_tree.specs.Mth.{leaf_hash}
use Rattle.relying_party.proofs.EntryText.{entry_is_text}
use Rattle.relying_party.proofs.entry.hash_of.Goals as goal

pub returns : goal.returns
returns c =
    let few : c.args.at < 2 ^ 64 = omega arith in
    let small : c.args.rule < 2 ^ 64 = omega arith in
    let k = c.strict_item_by_kind.ensures in
    c.leaf_hash.ensures
    ∙ ap (λ (entry : List ℕ). leaf_hash entry) (c.put_entry.ensures ∙ entry_is_text k.uint_text k.bytes_text c.args.at c.args.rule c.args.logged.now few small (omega (arith, c.requires.short)))
