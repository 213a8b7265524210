-- The problem of a body that is no statement: the number of its refusal, and the place of a fault of its CBOR.
use Rattle.cose_sign1.specs.declared.stops.Sign1Stop.{Sign1Stop}
use Rattle.cose_sign1.specs.declared.stops.Sign1Stop.TheVariants as sign1
use Rattle.statement.specs.declared.stops.ParseStop.{ParseStop}
use Rattle.statement.specs.declared.stops.ParseStop.TheVariants as parse
use Rattle.scitt_answers.specs.declared.problem.Problem.{Problem}
use Rattle.scitt_answers.specs.declared.problem.Problem.TheVariants as problem

abbrev pub sign1_problem : Sign1Stop → Problem
sign1_problem (sign1.Cbor fault) = problem.BadStatement 1 fault.at
sign1_problem (sign1.Protected fault) = problem.BadStatement 2 fault.at
sign1_problem sign1.NotSign1 = problem.BadStatement 3 0
sign1_problem (sign1.BadHeader label) = problem.BadStatement 4 0
sign1_problem (sign1.DupLabel label) = problem.BadStatement 5 0
sign1_problem sign1.BadCrit = problem.BadStatement 6 0
sign1_problem sign1.OutOfMemory = problem.OutOfMemory

abbrev pub parse_problem : ParseStop → Problem
parse_problem (parse.Sign1 stop) = sign1_problem stop
parse_problem parse.Detached = problem.BadStatement 7 0
parse_problem parse.NoClaims = problem.BadStatement 8 0
parse_problem parse.NoIssuer = problem.BadStatement 9 0
parse_problem parse.NoSubject = problem.BadStatement 10 0
parse_problem parse.NoKid = problem.BadStatement 11 0
parse_problem (parse.BadClaim n) = problem.BadStatement 12 0
parse_problem parse.TooLarge = problem.BadStatement 13 0
parse_problem parse.OutOfMemory = problem.OutOfMemory
