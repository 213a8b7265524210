-- States that stand for logs.
use Rattle.std.proofs.Common.{refl}
use Rattle.log_replay.specs.Laws.{NothingStands}

pub nothing_stands : NothingStands
nothing_stands = record {
  sound = tt;
  records = refl;
  header = refl;
  policy = refl;
  reserved = refl;
  used = refl;
  ids = refl;
  homes = refl;
  facts = refl;
  leaves = refl;
  last = refl;
  logged = refl;
}
