use Rattle.std.proofs.Common.{◌≡◌, ◌<◌, ℕ, length, slice_index}
use Rattle.scitt_disk.specs.Mixed.{picked_byte}
use Rattle.scitt_disk.proofs.crash.mixed.Given as goal

abbrev pub invariant-loop-i : goal.invariant-loop-i
invariant-loop-i l =
    record {
      len : length l.image.items ≡ l.i;
      bytes : (k : ℕ) → k < l.i → slice_index l.image.items k ≡ picked_byte l.pick l.old l.new k;
    }
