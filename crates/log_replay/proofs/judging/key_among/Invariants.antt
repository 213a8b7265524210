use Rattle.std.proofs.Common.{◌≡◌, drop}
use Rattle.statement.specs.Said.{said_of}
use Rattle.log_replay.specs.Judging.{key_among}
use Rattle.log_replay.proofs.judging.key_among.Given as goal

abbrev pub invariant-loop-holder : goal.invariant-loop-holder
invariant-loop-holder l = key_among l.holders (said_of l.statement) ≡ key_among (drop l.holder-index l.holders) (said_of l.statement)
