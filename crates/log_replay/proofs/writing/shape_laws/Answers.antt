use Rattle.log_replay.proofs.Shapes.{reserve_fits, entry_fits, batch_fits, header_fits, bootstrap_fits}
use Rattle.log_replay.proofs.writing.shape_laws.Goals as goal

pub returns : goal.returns
returns c =
    let k = c.strict_item_by_kind.ensures in
    let l = c.strict_len_by_kind.ensures in
    record {
      reserve = reserve_fits k.uint k.bytes k.text k.array l.uint l.bytes l.text l.array;
      entry = entry_fits k.uint k.bytes k.text k.array l.uint l.bytes l.text l.array;
      batch = batch_fits k.uint k.bytes k.text k.array l.uint l.bytes l.text l.array;
      header = header_fits k.uint k.bytes k.text k.array l.uint l.bytes l.text l.array;
      bootstrap = bootstrap_fits k.uint k.bytes k.text k.array l.uint l.bytes l.text l.array;
    }
