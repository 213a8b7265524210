-- What parsing answers.
use Rattle.std.specs.Prelude.{◌≡◌, ℕ, List, Result, Ok, Err}
use Rattle.sha2.specs.Sha256.{sha256}
use Rattle.statement.specs.declared.names.Names.{Names}
use Rattle.statement.specs.declared.statement_type.Statement.{Statement}
use Rattle.statement.specs.declared.stops.ParseStop.{ParseStop}
use Rattle.statement.specs.declared.stops.ParseStop.TheVariants.{OutOfMemory}
use Rattle.statement.specs.Claims.{names_from}
use Rattle.statement.specs.Statements.{Reads, Logged, ParseFault}

-- what a statement says
abbrev pub said : Statement → Names
said s = names_from s.issuer s.subject s.kid s.alg s.content_type s.nbf s.exp s.iat

-- a statement is made of these parts
abbrev pub MadeOf : Statement → Names → List ℕ → List ℕ → List ℕ → List ℕ → List (List ℕ) → Type 0
MadeOf s names protected payload signature logged receipts =
    (said s ≡ names) × (s.protected ≡ protected) × (s.payload ≡ payload) × (s.signature ≡ signature) × (s.logged ≡ logged) × (s.id ≡ sha256 logged) × (s.receipts ≡ receipts)

-- s is the statement that the bytes are, with its logged form, and its id, the digest of that
abbrev pub StatementOf : List ℕ → Statement → Type 0
StatementOf bytes s =
    Reads bytes (said s) s.protected s.payload s.signature s.receipts × Logged s.protected s.payload s.signature s.logged × (s.id ≡ sha256 s.logged)

-- the parser's answer, unless memory ran out
abbrev pub Parsed : List ℕ → Result Statement ParseStop → Type 0
Parsed bytes (Ok s) = StatementOf bytes s
Parsed bytes (Err OutOfMemory) = Unit {0}
Parsed bytes (Err stop) = ParseFault bytes stop
