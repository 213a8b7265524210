use Rattle.std.proofs.Common.{◌≡◌, Some}
use Rattle.cbor_core.specs.Decoding.{strict_item}
use Rattle.key_store.proofs.ReadLemmas.{reads_upto, if_ok}
use Rattle.key_store.proofs.records.upto_body.Goals as goal

pub returns-clause-reads : goal.returns-clause-reads
returns-clause-reads c =
    if_ok (λ body. strict_item body.items ≡ Some c.in_ok-item.item) _ c.encoded.result (λ body spelled. reads_upto c.args.upto c.in_ok-item.item body.items c.in_ok-item.ensures spelled) c.encoded.ensures.reads
