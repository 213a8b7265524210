use Rattle.receipt_laws.proofs.Paths.{root_is_hash}
use Rattle.receipt_laws.proofs.Proofs.{proof_is_path}
use Rattle.receipt_laws.proofs.Grown.{sizes_have_consistency}
use Rattle.receipt_laws.proofs.laws.sizes_have_consistency_receipts.Goals as goal

pub returns : goal.returns
returns c =
    let k = c.strict_item_by_kind.ensures in
    let hash = root_is_hash c.mth_laws.ensures.empty c.mth_laws.ensures.one c.mth_laws.ensures.more in
    let path = proof_is_path c.mth_laws.ensures.split hash c.proof_laws.ensures.whole c.proof_laws.ensures.left c.proof_laws.ensures.right in
    sizes_have_consistency c.strict_item_is_exact.ensures.spelled c.strict_text_is_exact.ensures.given c.strict_items_are_spelled.ensures.passes c.strict_items_are_spelled.ensures.spelled k.bytes k.text k.array
    path c.limit_laws.ensures.header c.growth_laws.ensures.bounds c.growth_laws.ensures.leaves c.entries_were_admitted.ensures c.answer_laws.ensures.consistency c.receipts_are_read_again.ensures.strict c.receipts_are_read_again.ensures.bytes
