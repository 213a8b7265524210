use Rattle.std.proofs.Common.{◌≡◌, ◌<◌, ◌≤◌, ◌^◌, true, length, arith, subst, ap, ◌∙◌}
use Rattle.std.specs.Str.{is_utf8, IsUtf8}
use Rattle.std.proofs.lemmas.Str.{is_utf8-from_IsUtf8}
use Rattle.cbor_core.specs.declared.tree.Item.{Item}
use Rattle.cbor_core.specs.Limits.{most_containers}
use Rattle.cbor_core.specs.Fitting.{is_strict_item, strict_len}
use Rattle.log_replay.specs.declared.parts.Header.{Header}
use Rattle.log_replay.specs.Records.{header_record, record_item}
use Rattle.log_replay.specs.Spelling.{IsWritten, FitsIn, IsBodyOf}
use Rattle.log_replay.specs.WellMade.{is_within_limits}
use Rattle.log_replay.proofs.Limits.{within}
use Rattle.log_replay.proofs.ReadsAgain.{if_ok, body_again, header_reads}
use Rattle.log_replay.proofs.writing.header_body.Goals as goal

abbrev HeadersFit : Type 0
HeadersFit = (h : Header) → length h.name ≤ 128 → is_utf8 h.name ≡ true → length h.governor.iss ≤ 1024
    → is_utf8 h.governor.iss ≡ true → length h.governor.kid ≤ 64 → length h.governor.key ≡ 60 → length h.key ≡ 60
    → length h.levels ≤ 3 → h.max_entries < 2 ^ 64 → h.block < 2 ^ 64 → FitsIn 2000 (record_item (header_record h))

fits : HeadersFit → (h : Header) → is_within_limits h ≡ true → IsUtf8 h.name → IsUtf8 h.governor.iss → length h.governor.key ≡ 60 → length h.key ≡ 60 → FitsIn 2000 (record_item (header_record h))
fits law h e name iss governor key =
    let lim = within h e in
    let entries = lim.entries.1 in
    let block = lim.block.1 in
    law h lim.name.1 (is_utf8-from_IsUtf8 h.name name) lim.iss.1 (is_utf8-from_IsUtf8 h.governor.iss iss) lim.kid.1 governor key lim.levels.most
    (omega (arith, entries)) (omega (arith, block))

pub strict-requires-clause-fits : goal.strict-requires-clause-fits
strict-requires-clause-fits c =
    let f = fits c.shape_laws.ensures.header c.args.header.now c.requires c.as_str-name.ensures.utf8 c.as_str-iss.ensures.utf8 c.whole_key.ensures c.whole_key-2.ensures in
    ap (is_strict_item most_containers) c.in_ok-item.ensures.item ∙ f.strict

pub strict-requires-clause-short : goal.strict-requires-clause-short
strict-requires-clause-short c =
    let f = fits c.shape_laws.ensures.header c.args.header.now c.requires c.as_str-name.ensures.utf8 c.as_str-iss.ensures.utf8 c.whole_key.ensures c.whole_key-2.ensures in
    let short = f.short in
    let same = ap (strict_len most_containers) c.in_ok-item.ensures.item in
    omega (arith, short, same)

pub returns : goal.returns
returns c =
    let f = fits c.shape_laws.ensures.header c.args.header.now c.requires c.as_str-name.ensures.utf8 c.as_str-iss.ensures.utf8 c.whole_key.ensures c.whole_key-2.ensures in
    if_ok c.strict.result (IsWritten c.in_ok-item.item) (IsBodyOf (header_record c.args.header.now))
    (λ body w. body_again 2000 (header_record c.args.header.now) body f (omega arith) (header_reads c.args.header.now c.whole_key.ensures c.whole_key-2.ensures)
    (subst (λ (i : Item). IsWritten i body) c.in_ok-item.ensures.item w))
    c.strict.ensures
