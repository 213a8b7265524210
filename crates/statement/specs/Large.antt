-- A statement is too large exactly where its logged form is.
use Rattle.std.specs.Prelude.{◌≡◌, ◌↔◌, ℕ, ◌<◌, List, length, Some, Ok}
use Rattle.cose_sign1.specs.declared.sign1.Sign1.{Sign1}
use Rattle.cose_sign1.specs.Sign1Of.{Sign1Of}
use Rattle.statement.specs.declared.names.Names.{Names}
use Rattle.statement.specs.declared.stops.ParseStop.TheVariants.{TooLarge}
use Rattle.statement.specs.Claims.{names_of}
use Rattle.statement.specs.Statements.{most_logged, Logged, ParseFault}

-- the bytes are a message with a payload and names, and its logged form has more bytes than a logged form may have
abbrev pub HasLargeForm : List ℕ → Type 0
HasLargeForm bytes =
    (v : Sign1) × (payload : List ℕ) × (names : Names) × (logged : List ℕ) × Sign1Of bytes v × (v.payload ≡ Some payload) × (names_of v.headers.protected ≡ Ok names)
    × Logged v.protected payload v.signature logged × (most_logged < length logged)

abbrev pub TooLargeIsLogged : Type 0
TooLargeIsLogged = (bytes : List ℕ) → ParseFault bytes TooLarge ↔ HasLargeForm bytes
