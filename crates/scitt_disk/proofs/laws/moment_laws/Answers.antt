use Rattle.scitt_disk.specs.Images.{moment}
use Rattle.scitt_disk.proofs.Moments.{moment_later, continues_self, continues_write, continues_failed, continues_sync, continues_then, since_earlier, within_epoch, through_sync, inside_since}
use Rattle.scitt_disk.proofs.laws.moment_laws.Goals as goal

pub returns : goal.returns
returns c =
    record {
      epoch = within_epoch;
      still = continues_self;
      write = continues_write;
      failed = continues_failed;
      sync = λ held. (continues_sync held, λ image since. through_sync held image since);
      joined = λ first middle last one two.
          (continues_then first middle last one two, λ image since. since_earlier middle last (moment first) image two (moment_later first middle one) since);
      earlier = since_earlier;
      rise = moment_later;
      inside = inside_since;
    }
