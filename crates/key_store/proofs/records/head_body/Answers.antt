use Rattle.std.proofs.Common.{◌≡◌, Some, length}
use Rattle.cbor_core.specs.Decoding.{strict_item}
use Rattle.cbor_core.specs.Limits.{most_containers}
use Rattle.cbor_core.specs.Fitting.{strict_len}
use Rattle.key_store.proofs.SpellLemmas.{head_fits, head_short, head_some}
use Rattle.key_store.proofs.ReadLemmas.{reads_head, reads_no_upto, if_ok}
use Rattle.key_store.proofs.records.head_body.Goals as goal

pub encoded-requires-clause-strict : goal.encoded-requires-clause-strict
encoded-requires-clause-strict c =
    let kinds = c.strict_item_by_kind.ensures in
    rw c.in_ok-item.ensures (head_fits kinds.uint kinds.bytes kinds.array c.args.head.now c.requires)

pub encoded-requires-clause-some : goal.encoded-requires-clause-some
encoded-requires-clause-some c =
    let lens = c.strict_len_by_kind.ensures in
    rw c.in_ok-item.ensures (head_some lens.uint lens.bytes lens.array c.args.head.now)

pub encoded-requires-clause-short : goal.encoded-requires-clause-short
encoded-requires-clause-short c =
    let lens = c.strict_len_by_kind.ensures in
    rw c.in_ok-item.ensures (head_short lens.uint lens.bytes lens.array c.args.head.now c.requires)

pub returns-clause-reads : goal.returns-clause-reads
returns-clause-reads c =
    if_ok (λ body. strict_item body.items ≡ Some c.in_ok-item.item) _ c.encoded.result (λ body spelled. reads_head c.args.head.now c.in_ok-item.item body.items c.requires c.in_ok-item.ensures spelled) c.encoded.ensures.reads

pub returns-clause-other : goal.returns-clause-other
returns-clause-other c =
    if_ok (λ body. strict_item body.items ≡ Some c.in_ok-item.item) _ c.encoded.result (λ body spelled. reads_no_upto c.args.head.now c.in_ok-item.item body.items c.in_ok-item.ensures spelled) c.encoded.ensures.reads

pub returns-clause-short : goal.returns-clause-short
returns-clause-short c =
    let lens = c.strict_len_by_kind.ensures in
    if_ok (λ body. length body.items ≡ strict_len most_containers c.in_ok-item.item) _ c.encoded.result (λ body long. rw (long, c.in_ok-item.ensures) (head_short lens.uint lens.bytes lens.array c.args.head.now c.requires)) c.encoded.ensures.len
