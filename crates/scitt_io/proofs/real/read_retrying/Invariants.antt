use Rattle.std.specs.Io.KnownBytes.{Keeps}
use Rattle.scitt_io.proofs.real.read_retrying.Given as goal

abbrev pub invariant-loop : goal.invariant-loop
invariant-loop g l = Keeps (g.T.Read.remaining l.fn.reader) (g.T.Read.remaining l.reader)
