use Rattle.std.proofs.Common.{refl, arith}
use Rattle.key_store.proofs.ListLemmas.{reserved_first, fits_below_one}
use Rattle.key_store.proofs.reading.read_reservations.Goals as goal

pub loop-number-init : goal.loop-number-init
loop-number-init g c =
    record {
      within = omega arith;
      few = omega arith;
      most = omega arith;
      others = refl;
      reserved = λ tells.
          reserved_first c.args.ledger.now.records c.args.head.now c.requires.some (c.requires.key tells);
      fits = λ tells k below. fits_below_one c.args.ledger.now.records k below (c.requires.first tells);
      held = λ tells. refl;
      faults = refl;
      strays = λ tells. refl;
      same = g.met.D.Disk.same_self _;
    }
