use Rattle.std.proofs.Common.{sym}
use Rattle.cose_sign1.proofs.sign1.read_parts.Goals as goal

pub returns-in-Some : goal.returns-in-Some
returns-in-Some c = (c.in-Ok.item, c.in-Ok.ensures, sym c.in-Some.ensures)

pub returns-in-None : goal.returns-in-None
returns-in-None c = (c.in-Ok.item, c.in-Ok.ensures, sym c.in-None.ensures)
