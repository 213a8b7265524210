use Rattle.std.proofs.Common.{◌≡◌, ◌+◌, [], ◌∷◌, Some, ℕ, List, refl, sym, ap, ◌∙◌}
use Rattle.cbor_core.specs.Exact.{strict_text}
use Rattle.merkle_tree.specs.Mth.{leaf_hash}
use Rattle.receipts.specs.declared.receipt.Proof.TheVariants.{Inclusion}
use Rattle.receipts.specs.Written.{receipt_item}
use Rattle.statement.specs.Said.{said_of}
use Rattle.log_replay.specs.Records.{record_of, batch_record}
use Rattle.log_replay.specs.Spelling.{entry_bytes}
use Rattle.log_replay.specs.Steps.{entry_text}
use Rattle.log_replay.specs.Answers.{receipt_with}
use Rattle.registrar.proofs.Sealing.{path_few, sealed}
use Rattle.registrar.proofs.ready.seal.Goals as goal

pub receipt_of-requires-clause-path : goal.receipt_of-requires-clause-path
receipt_of-requires-clause-path c =
    let leaf = entry_text c.args.at c.args.rule (said_of c.args.checked.now.statement) in
    let same : c.in_ok-entry.entry ≡ leaf = c.in_ok-entry.ensures.written ∙ ap (λ (l : List ℕ). entry_bytes c.args.at c.args.rule l) c.as_slice.ensures ∙ sym c.entry_law.ensures.text in
    path_few c.requires.told.0 c.size-size.result leaf c.in_ok-entry.entry c.leaf_hash-hash.result c.in_ok-path.path c.args.tree.now.leaves c.requires.told.1 c.size-size.ensures c.requires.few same
    (c.leaf_hash-hash.ensures ∙ ap leaf_hash c.as_slice-2.ensures) c.in_ok-path.ensures.of_entries c.path_law.ensures

pub returns-clause-made : goal.returns-clause-made
returns-clause-made c = λ R told.
    let said = said_of c.args.checked.now.statement in
    let leaf = entry_text c.args.at c.args.rule said in
    let sig = c.in_ok-signature.signature.items in
    let same : c.in_ok-entry.entry ≡ leaf = c.in_ok-entry.ensures.written ∙ ap (λ (l : List ℕ). entry_bytes c.args.at c.args.rule l) c.as_slice.ensures ∙ sym c.entry_law.ensures.text in
    let reads : record_of c.in_ok-body.body.items ≡ Some (batch_record (record { entries = c.in_ok-entry.entry ∷ []; index = c.args.index; signature = sig })) =
    c.in_ok-body.ensures.reads ∙ ap (λ (x : List ℕ). Some (batch_record (record { entries = c.in_ok-entry.entry ∷ []; index = c.args.index; signature = x }))) c.deref-2.ensures.value in
    let receipts : (used : ℕ) → c.in_ok-receipt.receipt ≡ strict_text (receipt_item (receipt_with c.args.header.now (record { size = c.size-size.result + 1; index = used; signature = sig }) (Inclusion (c.size-size.result + 1) c.size-size.result c.in_ok-path.path c.args.at c.args.rule))) =
    λ used. c.in_ok-receipt.ensures used ∙ ap (λ (x : List ℕ). strict_text (receipt_item (receipt_with c.args.header.now (record { size = c.size-size.result + 1; index = used; signature = x }) (Inclusion (c.size-size.result + 1) c.size-size.result c.in_ok-path.path c.args.at c.args.rule)))) c.deref.ensures.value in
    sealed R c.args.header.now said c.args.at c.args.rule c.args.index c.size-size.result c.in_ok-entry.entry c.leaf_hash-hash.result c.root_with-root.result c.in_ok-path.path c.args.tree.now.leaves _ c.in_ok-receipt.receipt
    told c.size-size.ensures same (c.leaf_hash-hash.ensures ∙ ap leaf_hash c.as_slice-2.ensures) c.root_with-root.ensures.of_entries c.in_ok-path.ensures.of_entries
    reads c.in_ok-body.ensures.short c.in_ok-signature.ensures.index c.in_ok-signature.ensures.verifies receipts refl refl refl
