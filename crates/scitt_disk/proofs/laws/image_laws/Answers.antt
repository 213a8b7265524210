use Rattle.scitt_disk.proofs.Moments.{image_without_ranges, image_with_range, wrote_as_failed}
use Rattle.scitt_disk.proofs.laws.image_laws.Goals as goal

pub returns : goal.returns
returns c =
    record {
      synced = λ held image now. image_without_ranges held.seen image now;
      failed = λ at n held image now. image_with_range at n held.epoch image now;
      wrote = wrote_as_failed;
    }
